-- The chain of `head_number`, one law of HeadFields for each return.
use Rattle.std.proofs.Common.{◌≡◌, sym, ◌∙◌, false, List, ℕ, ◌≤◌, arith}
use Rattle.std.proofs.lemmas.Result.{err_from_is_err_and}
use borrow.Author.Tests.{leb-true, leb-false}
use Rattle.model.specs.Limits.{max_objectives}
use Rattle.model.specs.Encoding.{letter_h, letter_d}
use Rattle.model.specs.Reading.{start_number, outside, head_objectives}
use Rattle.model.proofs.Words.{two_at}
use Rattle.model.proofs.Marks.{Marked, start_marked, not_outside}
use Rattle.model.proofs.Reasons.{number_positive}
use Rattle.problem.proofs.Chains.{denied, allowed}
use Rattle.problem.proofs.HeadFields.{head_start, head_variables_lem, head_objectives_lem, head_tables_lem, head_short}
use Rattle.problem.proofs.HeadFields.{head_whole}
use Rattle.problem.proofs.check_head.Goals as goal

marked : (s : List ℕ) → 0 ≡ start_number letter_h letter_d 4 s → Marked letter_h letter_d 4 s
marked s e = start_marked letter_h letter_d 4 s (sym e)

few_ceilings : (s : List ℕ) → outside max_objectives (head_objectives s) ≡ false → head_objectives s ≤ max_objectives
few_ceilings s h = (not_outside max_objectives (head_objectives s) h).1

pub returns-in_err-check_start : goal.returns-in_err-check_start
returns-in_err-check_start c =
    let p = err_from_is_err_and c.from_residual.result c.from_residual.ensures.1 in
    let e = c.in_err-check_start.ensures in
    rw (p.1, p.2, e) (sym (head_start _ (λ z. number_positive _ (e ∙ z))))

pub bounds-s-2 : goal.bounds-s-2
bounds-s-2 c = omega (arith, (marked _ c.in_ok-check_start.ensures).long)

pub returns-then-not-allows_variables : goal.returns-then-not-allows_variables
returns-then-not-allows_variables c =
    sym (head_variables_lem _ (sym c.in_ok-check_start.ensures)
    (denied _ c.allows_variables.ensures c.if-not-allows_variables.true))

pub bounds-s-3 : goal.bounds-s-3
bounds-s-3 c = omega (arith, (marked _ c.in_ok-check_start.ensures).long)

pub returns-then-not-allows_objectives : goal.returns-then-not-allows_objectives
returns-then-not-allows_objectives c =
    sym (head_objectives_lem _ (sym c.in_ok-check_start.ensures)
    (allowed _ c.allows_variables.ensures c.if-not-allows_variables.false)
    (denied _ c.allows_objectives.ensures c.if-not-allows_objectives.true))

pub two_at-requires : goal.two_at-requires
two_at-requires c = omega (arith, (marked _ c.in_ok-check_start.ensures).long)

pub returns-then-not-allows_tables : goal.returns-then-not-allows_tables
returns-then-not-allows_tables c =
    sym (head_tables_lem _ (sym c.in_ok-check_start.ensures)
    (allowed _ c.allows_variables.ensures c.if-not-allows_variables.false)
    (allowed _ c.allows_objectives.ensures c.if-not-allows_objectives.false)
    (rw (two_at 4, ← c.two_at.ensures.0)
    (leb-false _ _ (sym c.allows_tables.ensures ∙ c.if-not-allows_tables.true))))

pub returns-then-s-p : goal.returns-then-s-p
returns-then-s-p c =
    sym (head_short _ (sym c.in_ok-check_start.ensures)
    (allowed _ c.allows_variables.ensures c.if-not-allows_variables.false)
    (allowed _ c.allows_objectives.ensures c.if-not-allows_objectives.false)
    (rw (two_at 4, ← c.two_at.ensures.0)
    (leb-true _ _ (sym c.allows_tables.ensures ∙ c.if-not-allows_tables.false)))
    c.if-s-p.true)

pub returns : goal.returns
returns c =
    sym (head_whole _ (sym c.in_ok-check_start.ensures)
    (allowed _ c.allows_variables.ensures c.if-not-allows_variables.false)
    (allowed _ c.allows_objectives.ensures c.if-not-allows_objectives.false)
    (rw (two_at 4, ← c.two_at.ensures.0)
    (leb-true _ _ (sym c.allows_tables.ensures ∙ c.if-not-allows_tables.false)))
    c.if-s-p.false)
