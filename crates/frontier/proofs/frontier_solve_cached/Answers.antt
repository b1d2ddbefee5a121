-- `frontier_solve_cached`: what `solve_cached` promises, as C is told it.
use Rattle.cache_answers.specs.Outcomes.{cached_outcome}
use Rattle.frontier.proofs.Places.{cached_place}
use Rattle.frontier.proofs.Promises.{cached_export}
use Rattle.frontier.proofs.frontier_solve_cached.Goals as goal

pub returns : goal.returns
returns c =
    let a = c.args in
    let told = c.tell.ensures in
    cached_export {o = cached_outcome a.problem.now a.costs.now a.choices.now a.work.now a.store.now}
    c.solve_cached-cached.result c.solve_cached-cached.ensures
    (cached_place a.problem.now a.costs.now a.choices.now a.work.now a.store.now)
    _ _ _ _ told.number told.place told.count told.hit
