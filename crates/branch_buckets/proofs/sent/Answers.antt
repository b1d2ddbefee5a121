-- What the loop of `sent` leaves to show.
use Rattle.std.proofs.Common.{ℕ, subst, arith}
use Rattle.branch_buckets.specs.Adding.{RowAdded}
use Rattle.branch_buckets.proofs.MessageSteps.{sending_next, sending_end}
use Rattle.branch_buckets.proofs.sent.Goals as goal

pub loop-g-preserved : goal.loop-g-preserved
loop-g-preserved c =
    let row = subst (λ (n : ℕ). RowAdded c.args.plan.now n 0 c.loop-g.t c.add_row.new.rows) c.message_start.ensures.0
    c.add_row.ensures in
    sending_next c.loop-g.invariant (omega arith) (λ k. omega (arith, c.type_inv.plan k)) _ c.add_row.auto.rows row

pub returns : goal.returns
returns c = sending_end c.loop-g.invariant c.requires.2 c.requires.1 (omega arith)
