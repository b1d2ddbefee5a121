-- `solve_cut` promises what `cut_problem` does, and that the problem's elements are bytes.
use Rattle.std.proofs.Common.{arith}
use Rattle.model.specs.Calls.{cut_outcome}
use Rattle.frontier.proofs.Promises.{cut_promise}
use Rattle.frontier.proofs.solve_cut.Goals as goal

pub returns : goal.returns
returns c =
    let a = c.args in
    cut_promise a.problem.now (λ i. omega (arith, c.type_inv.problem i))
    (cut_outcome a.problem.now a.sides.now a.costs.now a.choices.now a.work.now) c.cut_problem.result
    c.cut_problem.ensures
