-- What the loop of `is_matched` leaves to show: row i matches, or the rows behind it tell.
use Rattle.std.proofs.Common.{◌∙◌, sym, true, false, arith}
use Rattle.pass_search.proofs.Matching.{matched_end, matched_step}
use Rattle.pass_search.proofs.is_matched.Goals as goal

pub returns-then-is_at_most : goal.returns-then-is_at_most
returns-then-is_at_most c =
    let a = c.args in
    sym (matched_step a.c a.n a.work.now a.k a.p c.loop-i.i (omega arith) c.requires.2 c.row_costs.result
    c.row_costs.ensures true (sym c.if-is_at_most.true ∙ c.is_at_most.ensures))
    ∙ c.loop-i.invariant

pub loop-i-preserved : goal.loop-i-preserved
loop-i-preserved c =
    let a = c.args in
    sym (matched_step a.c a.n a.work.now a.k a.p c.loop-i.i (omega arith) c.requires.2 c.row_costs.result
    c.row_costs.ensures false (sym c.if-is_at_most.false ∙ c.is_at_most.ensures))
    ∙ c.loop-i.invariant

pub returns : goal.returns
returns c =
    sym (matched_end c.args.c c.args.n c.args.work.now c.args.k c.args.p c.loop-i.i (omega arith)) ∙ c.loop-i.invariant
