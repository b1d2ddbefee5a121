-- `frontier_points`: what `list_points` promises, as C is told it.
use Rattle.model.specs.Calls.{list_outcome}
use Rattle.frontier.specs.Says.{as_points}
use Rattle.frontier.proofs.Places.{list_place}
use Rattle.frontier.proofs.Promises.{list_export}
use Rattle.frontier.proofs.frontier_points.Goals as goal

pub returns : goal.returns
returns c =
    let a = c.args in
    let told = c.tell_count.ensures in
    list_export {o = list_outcome a.problem.now (as_points a.points.now) a.work.now}
    c.list_points-answer.result c.list_points-answer.ensures
    (list_place a.problem.now (as_points a.points.now) a.work.now)
    _ _ _ told.number told.place told.count
