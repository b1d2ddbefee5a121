-- What `find_source` leaves to show: the records that are grouped are those of the problem, and the gains are known.
use Rattle.pass_list.proofs.Sourced.{gained_here, copied_placed, grouped_setting, grouped_known, grouped_says}
use Rattle.pass_list.proofs.find_source.Goals as goal

pub group_records-requires : goal.group_records-requires
group_records-requires c =
    copied_placed (gained_here c.requires.0 c.find_gains.ensures) _ c.copy_numbers.ensures

pub find_points-requires : goal.find_points-requires
find_points-requires c =
    let u = gained_here c.requires.0 c.find_gains.ensures in
    let copy = c.copy_numbers.ensures in
    let group = c.group_records.ensures in
    let x = c.root_of-root.ensures in
    (grouped_setting u _ copy _ group, x.1, x.0, c.requires.1, grouped_known u _ copy _ group)

pub returns : goal.returns
returns c =
    let u = gained_here c.requires.0 c.find_gains.ensures in
    grouped_says u _ c.copy_numbers.ensures _ c.group_records.ensures c.args.task.room _ c.find_points.result
    c.find_points.ensures
