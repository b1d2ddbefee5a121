-- The parts' promises are joined by the laws of Parts, one for each return.
use Rattle.std.proofs.Common.{sym, ◌∙◌, arith}
use Rattle.std.proofs.lemmas.Result.{err_from_is_err_and}
use lib.Seq.{length-take-le}
use borrow.Author.Tests.{leb-true, leb-false}
use Rattle.model.proofs.HeadRecord.{head_good}
use Rattle.model.proofs.Reasons.{number_positive}
use Rattle.problem.proofs.Parts.{part_long, part_head, begun, domains_refused, tables_refused, tables_accepted}
use Rattle.problem.proofs.read_problem.Goals as goal

pub returns-then-not-allows_bytes : goal.returns-then-not-allows_bytes
returns-then-not-allows_bytes c =
    let long = leb-false _ _ (sym c.allows_bytes.ensures ∙ c.if-not-allows_bytes.true) in
    record { verdict = rw (c.at.ensures.reason, c.at.ensures.place) (sym (part_long _ long)); problem = tt }

pub returns-in-Err : goal.returns-in-Err
returns-in-Err c =
    let short = leb-true _ _ (sym c.allows_bytes.ensures ∙ c.if-not-allows_bytes.false) in
    let e = c.in-Err.ensures in
    record {
      verdict = rw (c.at-in-Err.ensures.reason, c.at-in-Err.ensures.place, e)
          (sym (part_head _ short (λ z. number_positive _ (e ∙ z))));
      problem = tt;
    }

pub read_domains-requires : goal.read_domains-requires
read_domains-requires c =
    let h = c.read_head-head.ensures in
    let g = head_good c.args.s.now (sym c.in_default.ensures) in
    (rw h.objectives g.long, rw h.variables g.variables.1)

pub returns-in_err-sizes : goal.returns-in_err-sizes
returns-in_err-sizes c =
    let short = leb-true _ _ (sym c.allows_bytes.ensures ∙ c.if-not-allows_bytes.false) in
    let p = err_from_is_err_and c.from_residual.result c.from_residual.ensures.1 in
    rw (p.1, p.2)
    (domains_refused _ _ c.read_head-head.ensures short (sym c.in_default.ensures) c.in_err-sizes.ensures)

pub slice_bounds-sizes-end : goal.slice_bounds-sizes-end
slice_bounds-sizes-end c =
    let b = begun _ _ c.read_head-head.ensures (sym c.in_default.ensures) c.in_ok-sizes.ensures in
    omega (arith, b.few, b.room)

pub slice_bounds-scan_tables-end : goal.slice_bounds-scan_tables-end
slice_bounds-scan_tables-end c =
    let b = begun _ _ c.read_head-head.ensures (sym c.in_default.ensures) c.in_ok-sizes.ensures in
    sym (length-take-le _ _ (omega (arith, b.few, b.room)))

pub scan_tables-requires : goal.scan_tables-requires
scan_tables-requires c =
    let b = begun _ _ c.read_head-head.ensures (sym c.in_default.ensures) c.in_ok-sizes.ensures in
    (rw c.tables_start.ensures b.end, b.small)

pub returns-in_err-scan_tables : goal.returns-in_err-scan_tables
returns-in_err-scan_tables c =
    let short = leb-true _ _ (sym c.allows_bytes.ensures ∙ c.if-not-allows_bytes.false) in
    let x = c.from_residual-in_err-scan_tables in
    let p = err_from_is_err_and x.result x.ensures.1 in
    let b = begun _ _ c.read_head-head.ensures (sym c.in_default.ensures) c.in_ok-sizes.ensures in
    rw (p.1, p.2)
    (tables_refused _ _ c.read_head-head.ensures short (sym c.in_default.ensures) b
    (rw c.tables_start.ensures at c.in_err-scan_tables.ensures))

pub returns : goal.returns
returns c =
    let short = leb-true _ _ (sym c.allows_bytes.ensures ∙ c.if-not-allows_bytes.false) in
    let b = begun _ _ c.read_head-head.ensures (sym c.in_default.ensures) c.in_ok-sizes.ensures in
    tables_accepted _ _ c.read_head-head.ensures short (sym c.in_default.ensures) b
    (rw c.tables_start.ensures at c.in_ok-scan_tables.ensures)
