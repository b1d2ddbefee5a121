-- What the loop of `row_of` leaves to show.
use Rattle.std.proofs.Common.{◌<◌, length, ◌∙◌, arith}
use lib.ListN.{length-set}
use lib.Seq.{get_or-set_same, get_or-set_other}
use borrow.Author.Count.{below_more}
use Rattle.branch_values.proofs.row_of.Goals.{then-j-w, else-j-w}
use Rattle.branch_values.proofs.row_of.Goals as goal

pub loop-j-preserved : goal.loop-j-preserved
loop-j-preserved c =
    let j = c.loop-j.j in
    let b = c.loop-j.b in
    let u = c.loop-j.invariant in
    let inside : j < length b = omega (arith, u.0) in
    elim c.if-j-w.branch [
      | then-j-w w ↦ rw w.b-is (
        length-set b j _ ∙ u.0,
        below_more _ j (λ i l h. get_or-set_other b j i _ 0 (λ e. omega arith) ∙ u.1 i l h)
            (λ h. get_or-set_same b j _ 0 inside),
      )
      | else-j-w w ↦ rw w.b-is (u.0, below_more _ j u.1 (λ h. absurd (omega (arith, w.if-j-w.false))))
    ]
