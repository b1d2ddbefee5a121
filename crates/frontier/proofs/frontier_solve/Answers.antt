-- `frontier_solve`: what `solve_problem` promises, as C is told it.
use Rattle.model.specs.Calls.{solve_outcome}
use Rattle.frontier.proofs.Places.{solve_place}
use Rattle.frontier.proofs.Promises.{solve_export}
use Rattle.frontier.proofs.frontier_solve.Goals as goal

pub returns : goal.returns
returns c =
    let a = c.args in
    let told = c.tell_count.ensures in
    solve_export {o = solve_outcome a.problem.now a.costs.now a.choices.now a.work.now}
    c.solve_problem-answer.result c.solve_problem-answer.ensures
    (solve_place a.problem.now a.costs.now a.choices.now a.work.now)
    _ _ _ told.number told.place told.count
