-- `solve_cached` promises what the cached call does, and that the problem's elements are bytes.
use Rattle.std.proofs.Common.{arith}
use Rattle.cache_answers.specs.Outcomes.{cached_outcome}
use Rattle.frontier.proofs.Promises.{cached_promise}
use Rattle.frontier.proofs.solve_cached.Goals as goal

pub returns : goal.returns
returns c =
    let a = c.args in
    cached_promise a.problem.now (λ i. omega (arith, c.type_inv.problem i))
    (cached_outcome a.problem.now a.costs.now a.choices.now a.work.now a.store.now) c.solve_cached.result
    c.solve_cached.ensures
