-- What `holds_at` leaves to show: a bucket starts with nothing sent, and all its messages are below the limit.
use Rattle.std.proofs.Common.{ℕ, ◌≡◌, ap, refl, subst, arith}
use Rattle.layout.specs.Places.{message_end}
use Rattle.branch_buckets.specs.declared.Span as DS
use Rattle.branch_buckets.proofs.ContentRows.{planned_width}
use Rattle.branch_buckets.proofs.Ends.{child_limit, message_limit}
use Rattle.plan_test.specs.Parts.{Holding}
use Rattle.plan_test.proofs.Limits.{bucket_of}
use Rattle.plan_test.proofs.Parts.{holding_start, holding_end}
use Rattle.plan_test.proofs.holds_at.Goals as goal

pub loop-g-init : goal.loop-g-init
loop-g-init c =
    let a = c.args in
    let q = c.requires in
    let bucket = c.span_at-bucket.ensures in
    holding_start a.d a.sizes.now a.s.now a.plan.now a.k a.r _ q.4 q.2
    (ap (λ (u : DS.Span). u.from) bucket) (ap (λ (u : DS.Span). u.first) bucket) refl

pub after_message-requires : goal.after_message-requires
after_message-requires c =
    let k = c.args.k in
    let q = c.requires in
    let few = message_limit q.4 k (omega (arith, q.2)) in
    (bucket_of q.0 q.3 q.4 k q.2, q.1, omega (arith, few, c.loop-g-test.true), omega arith, c.loop-g.invariant)

pub returns : goal.returns
returns c =
    let a = c.args in
    let q = c.requires in
    let w = c.loop-g in
    let same : w.g ≡ message_end a.plan.now a.k = omega (arith, q.4.messages a.k q.2) in
    let all =
    subst (λ (g : ℕ). Holding a.d a.sizes.now a.s.now a.plan.now a.k g w.held) same w.invariant in
    λ h. holding_end a.d a.sizes.now a.s.now a.plan.now a.k w.held q.0.small (planned_width q.0)
    (child_limit q.4 a.k (omega (arith, q.2))) all (c.is_kept.ensures h)
