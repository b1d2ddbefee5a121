-- `solve_batch` promises what the batch call does, and that the batch's elements are bytes.
use Rattle.std.proofs.Common.{arith}
use Rattle.batch_frames.specs.Outcomes.{batch_outcome}
use Rattle.frontier.proofs.Promises.{batch_promise}
use Rattle.frontier.proofs.solve_batch.Goals as goal

pub returns : goal.returns
returns c =
    let a = c.args in
    batch_promise a.batch.now (λ i. omega (arith, c.type_inv.batch i))
    (batch_outcome a.batch.now a.costs.now a.choices.now a.results.now a.work.now) c.solve_batch.result
    c.solve_batch.ensures
