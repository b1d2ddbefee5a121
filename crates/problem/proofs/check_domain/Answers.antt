-- The chain of `domain_number`, one link for each test.
use Rattle.std.proofs.Common.{sym, ◌∙◌, drop, arith}
use Rattle.std.proofs.lemmas.Result.{err_from_is_err_and}
use lib.ListN.{length-drop}
use lib.Seq.{get_or-drop}
use Rattle.model.specs.Encoding.{letter_d, letter_o}
use Rattle.model.proofs.Marks.{start_marked}
use Rattle.model.proofs.Reasons.{number_positive}
use Rattle.problem.proofs.Chains.{denied, allowed}
use Rattle.problem.proofs.DomainSteps.{domain_start, domain_large, domain_fits}
use Rattle.problem.proofs.check_domain.Goals as goal

pub returns-in_err-check_start : goal.returns-in_err-check_start
returns-in_err-check_start c =
    let p = err_from_is_err_and c.from_residual.result c.from_residual.ensures.1 in
    let e = c.in_err-check_start.ensures in
    rw (p.1, p.2, e) (sym (domain_start _ (λ z. number_positive _ (e ∙ z))))

pub bounds-s-at : goal.bounds-s-at
bounds-s-at c =
    let l = drop c.args.at c.args.s.now in
    let m = start_marked letter_d letter_o 1 l (sym c.in_ok-check_start.ensures) in
    omega (arith, m.long, length-drop c.args.at c.args.s.now)

pub returns-then-not-allows_size : goal.returns-then-not-allows_size
returns-then-not-allows_size c =
    sym (domain_large _ (sym c.in_ok-check_start.ensures)
    (denied _ (rw get_or-drop c.allows_size.ensures) c.if-not-allows_size.true))

pub returns : goal.returns
returns c =
    sym (domain_fits _ (sym c.in_ok-check_start.ensures)
    (allowed _ (rw get_or-drop c.allows_size.ensures) c.if-not-allows_size.false))
