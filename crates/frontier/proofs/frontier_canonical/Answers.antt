-- `frontier_canonical`: what `problem_canonical` promises, as C is told it.
use Rattle.form_canonical.specs.Canonical.{canonical_outcome}
use Rattle.frontier.proofs.Places.{canonical_place}
use Rattle.frontier.proofs.Promises.{canonical_export}
use Rattle.frontier.proofs.frontier_canonical.Goals as goal

pub returns : goal.returns
returns c =
    let a = c.args in
    let told = c.tell.ensures in
    canonical_export {o = canonical_outcome a.problem.now a.form.now}
    c.problem_canonical-canonical.result c.problem_canonical-canonical.ensures
    (canonical_place a.problem.now a.form.now)
    _ _ _ _ told.number told.place told.count told.key
