-- `solve_as` promises what `solve_with` does, and that the problem's elements are bytes.
use Rattle.std.proofs.Common.{arith}
use Rattle.model.specs.Calls.{solve_outcome}
use Rattle.frontier.proofs.Promises.{solve_promise}
use Rattle.frontier.proofs.solve_as.Goals as goal

pub returns : goal.returns
returns c =
    let a = c.args in
    solve_promise a.problem.now (λ i. omega (arith, c.type_inv.problem i))
    (solve_outcome a.problem.now a.costs.now a.choices.now a.work.now) c.solve_with.result.answer c.solve_with.ensures
