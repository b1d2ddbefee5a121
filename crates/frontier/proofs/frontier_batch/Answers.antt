-- `frontier_batch`: what `solve_batch` promises, as C is told it.
use Rattle.batch_frames.specs.Outcomes.{batch_outcome}
use Rattle.frontier.proofs.Places.{batch_place}
use Rattle.frontier.proofs.Promises.{batch_export}
use Rattle.frontier.proofs.frontier_batch.Goals as goal

pub returns : goal.returns
returns c =
    let a = c.args in
    let told = c.tell_count.ensures in
    batch_export {o = batch_outcome a.batch.now a.costs.now a.choices.now a.results.now a.work.now}
    c.solve_batch-answer.result c.solve_batch-answer.ensures
    (batch_place a.batch.now a.costs.now a.choices.now a.results.now a.work.now)
    _ _ _ told.number told.place told.count
