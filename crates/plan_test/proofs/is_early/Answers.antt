-- What `is_early` leaves to show: position after position is tested.
use Rattle.std.proofs.Common.{ℕ, set, ap, ◌∙◌, arith}
use Rattle.plan_test.proofs.Earlier.{testing_next, testing_end}
use Rattle.plan_test.proofs.is_early.Goals as goal

pub loop-k-preserved : goal.loop-k-preserved
loop-k-preserved c =
    let q = c.requires in
    let own = ap (λ (v : ℕ). set c.loop-k.marks v 1) c.variable_at.ensures.0 in
    testing_next c.loop-k.invariant q.4 q.5 c.loop-k-test.true
    (c.is_bucket_marked.ensures c.if-not-is_bucket_marked.false)
    (c.are_sent_marked.ensures c.if-not-are_sent_marked.false) _ (c.with_value-marks.ensures ∙ own)

pub returns : goal.returns
returns c =
    λ h. testing_end c.loop-k.invariant c.requires.5 (omega arith) (c.is_bucket_marked-2.ensures h)
