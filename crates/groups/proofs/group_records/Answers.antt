-- What the loop of `group_records` leaves to show.
use Rattle.std.proofs.Common.{◌≡◌, length, arith}
use Rattle.groups.proofs.Grouping.{grouping_start, grouping_next, grouping_end, end_inside, marked_placed, marked_room}
use Rattle.groups.proofs.group_records.Goals as goal

pub loop-v-init : goal.loop-v-init
loop-v-init c = grouping_start c.args.s.now c.args.work.now c.args.r

pub overflow_cast-work : goal.overflow_cast-work
overflow_cast-work c = omega (arith, end_inside _ _ _ _ c.requires _ _ _ c.loop-v.invariant)

pub add_group-end-requires : goal.add_group-end-requires
add_group-end-requires c =
    let q = c.requires in
    let u = c.loop-v.invariant in (
      marked_placed _ _ _ _ q _ _ _ u _ _ (omega (arith, q.variables)),
      omega (arith, u.ends),
      marked_room _ _ _ _ q _ _ _ u _ _ (omega (arith, q.variables)),
    )

pub loop-v-preserved : goal.loop-v-preserved
loop-v-preserved c =
    let says = c.add_group-end.ensures in
    grouping_next _ _ _ _ c.requires _ _ _ c.loop-v.invariant (omega (arith, c.requires.variables)) _ _ says.0 says.1

pub overflow_cast-work-2 : goal.overflow_cast-work-2
overflow_cast-work-2 c = omega (arith, end_inside _ _ _ _ c.requires _ _ _ c.loop-v.invariant)

pub returns : goal.returns
returns c =
    let last : c.loop-v.v ≡ length c.args.sizes.now = omega arith in
    rw last
    at (grouping_end _ _ _ _ c.requires _ _ _ c.loop-v.invariant (omega (arith, c.requires.variables)) last)
