-- What `lower_rows` leaves to show: the rows are those of the choice.
use Rattle.std.proofs.Common.{arith}
use Rattle.plan_test.proofs.Parts.{choice_leaves}
use Rattle.plan_test.proofs.lower_rows.Goals as goal

pub returns : goal.returns
returns c =
    let a = c.args in
    let w = c.loop-a.invariant in
    let rows = c.content-rows in
    let number = c.sent-number in (
      w.lowered,
      λ _. choice_leaves a.d a.sizes.now a.s.now a.plan.now a.p a.choice.now c.loop-a.left rows.result
          number.result rows.ensures number.ensures (λ b l. w.done b (omega arith)),
    )
