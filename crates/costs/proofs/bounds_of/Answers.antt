-- What `bounds_of` leaves to show.
use Rattle.std.proofs.Common.{◌≡◌, ap, subst, ◌∙◌, ℕ, ◌-◌, ◌<◌, List, get_or, drop, arith}
use Rattle.model.specs.Limits.{byte_end}
use Rattle.model.specs.Problems.{Table}
use Rattle.model.specs.Core.{plain}
use Rattle.model.specs.Bounds.{least_of}
use Rattle.model.specs.Reading.{table_of}
use Rattle.costs.specs.Entries.{table_at}
use Rattle.costs.proofs.EntryLimits.{plain_least}
use Rattle.costs.proofs.SumSteps.{Summing, summing_start, summing_next, summing_end}
use Rattle.costs.proofs.bounds_of.Goals as goal

-- what was added is the least entry of the table that was read
added : (ds pre s : List ℕ) (at least taken : ℕ) → ((i : ℕ) → get_or s i 0 < byte_end)
    → least ≡ least_of ds pre (table_at ds s at) → taken ≡ plain least
    → taken ≡ least_of ds pre (table_of ds (drop at s))
added ds pre s at least taken bytes e t = t ∙ ap plain e ∙ plain_least ds s at bytes pre

-- as many records are left, counted in another way
left_same : (f : Table → ℕ) (ds s : List ℕ) (r at : ℕ) (sums : List ℕ) (here m n : ℕ) → m ≡ n
    → Summing f ds s r at sums here m → Summing f ds s r at sums here n
left_same f ds s r at sums here m n e u = subst (λ (k : ℕ). Summing f ds s r at sums here k) e u

pub loop-init : goal.loop-init
loop-init c =
    let a = c.args in
    let f = least_of a.sizes.now a.prefix.now in
    left_same f _ _ _ _ _ _ a.r _ (omega arith) (summing_start f a.sizes.now a.s.now a.r a.at c.requires.0)

pub returns : goal.returns
returns c =
    let a = c.args in
    let w = c.loop in
    let left = a.r - w.counter in
    summing_end (least_of a.sizes.now a.prefix.now) a.sizes.now a.s.now a.r a.at w.sums w.here left w.invariant
    (omega arith)

pub loop-preserved : goal.loop-preserved
loop-preserved c =
    let a = c.args in
    let w = c.loop in
    let left = a.r - w.counter in
    let f = least_of a.sizes.now a.prefix.now in
    let t = c.record_at-t.ensures in
    left_same f _ _ _ _ _ _ (left - 1) _ (omega arith)
    (summing_next f a.sizes.now a.s.now a.r a.at w.sums w.here left w.invariant (omega arith)
    c.from-owner.result c.unweighed.result c.record_at-t.result.length (c.from-owner.ensures ∙ t.objective)
    (added a.sizes.now a.prefix.now a.s.now w.here _ _ (λ i. omega (arith, c.type_inv.s i)) c.least_at.ensures.0
    c.unweighed.ensures.0)
    (omega (arith, c.unweighed.ensures.1, c.least_at.ensures.1)) t.width)
