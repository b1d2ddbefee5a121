-- `problem_canonical` promises what `canonical_form` does, and that what is read are bytes.
use Rattle.std.proofs.Common.{arith}
use Rattle.form_canonical.specs.Canonical.{canonical_outcome}
use Rattle.frontier.proofs.Promises.{canonical_promise}
use Rattle.frontier.proofs.problem_canonical.Goals as goal

pub returns : goal.returns
returns c =
    let a = c.args in
    canonical_promise a.problem.now (λ i. omega (arith, c.type_inv.problem i))
    (canonical_outcome a.problem.now a.form.now) c.canonical_form.result c.canonical_form.ensures
