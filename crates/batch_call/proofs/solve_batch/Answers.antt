-- What `solve_batch` leaves to show: what is refused of the whole, or the problems in turn.
use Rattle.batch_call.proofs.Cases.{refused_says, taken_all, taken_says}
use Rattle.batch_call.proofs.solve_batch.Goals as goal

pub solve_frames-requires : goal.solve_frames-requires
solve_frames-requires c =
    let a = c.args in
    taken_all a.batch.now a.costs.now a.choices.now a.results.now a.work.now c.in-Ok.count c.in-Ok.ensures

pub returns-in-Ok : goal.returns-in-Ok
returns-in-Ok c =
    let a = c.args in
    taken_says a.batch.now a.costs.now a.choices.now a.results.now a.work.now c.in-Ok.count c.in-Ok.ensures
    c.solve_frames.ensures

pub returns-in-Err : goal.returns-in-Err
returns-in-Err c =
    let a = c.args in
    refused_says a.batch.now a.costs.now a.choices.now a.results.now a.work.now c.in-Err.reason c.in-Err.ensures
    c.at.result c.at.ensures.reason c.at.ensures.place
