-- What `leads_of` leaves to show.
use Rattle.std.proofs.Common.{◌<◌, length, ◌∙◌, arith}
use lib.ListN.{length-set}
use lib.Seq.{get_or-set_same, get_or-set_other}
use borrow.Author.Count.{below_more}
use Rattle.branch_values.proofs.leads_of.Goals as goal

pub loop-a-preserved : goal.loop-a-preserved
loop-a-preserved c =
    let a = c.loop-a.a in
    let leads = c.loop-a.leads in
    let u = c.loop-a.invariant in
    let inside : a < length leads = omega (arith, c.requires.1, u.0) in (
      length-set leads a _ ∙ u.0,
      below_more _ a (λ b l. get_or-set_other leads a b _ 0 (λ e. omega arith) ∙ u.1 b l)
          (get_or-set_same leads a _ 0 inside),
    )

pub returns : goal.returns
returns c =
    (c.loop-a.invariant.0, λ a l. rw c.lead_at-lead.ensures at (c.loop-a.invariant.1 a (omega arith)))
