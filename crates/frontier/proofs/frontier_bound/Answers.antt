-- `frontier_bound`: what `bound_prefix` promises, as C is told it.
use Rattle.model.specs.Calls.{bound_outcome}
use Rattle.frontier.proofs.Places.{bound_place}
use Rattle.frontier.proofs.Promises.{bound_export}
use Rattle.frontier.proofs.frontier_bound.Goals as goal

pub returns : goal.returns
returns c =
    let a = c.args in
    let told = c.tell_bound.ensures in
    bound_export {o = bound_outcome a.problem.now a.prefix.now}
    c.bound_prefix-bound.result c.bound_prefix-bound.ensures
    (bound_place a.problem.now a.prefix.now)
    _ _ _ told.number told.place told.least
