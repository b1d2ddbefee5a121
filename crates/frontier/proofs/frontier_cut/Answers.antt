-- `frontier_cut`: what `solve_cut` promises, as C is told it.
use Rattle.model.specs.Calls.{cut_outcome}
use Rattle.frontier.proofs.Places.{cut_place}
use Rattle.frontier.proofs.Promises.{cut_export}
use Rattle.frontier.proofs.frontier_cut.Goals as goal

pub returns : goal.returns
returns c =
    let a = c.args in
    let told = c.tell_halves.ensures in
    cut_export {o = cut_outcome a.problem.now a.sides.now a.costs.now a.choices.now a.work.now}
    c.solve_cut-halves.result c.solve_cut-halves.ensures
    (cut_place a.problem.now a.sides.now a.costs.now a.choices.now a.work.now)
    _ _ _ _ _ told.number told.place told.count told.first told.second
