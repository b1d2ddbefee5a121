-- Marks: no variable at first, then one more at a time; what reads marked variables reads those that the marks stand
-- for.
use mathlib.Core.Path.{◌≡◌, sym, ◌∙◌}
use mathlib.Core.Logic.{◌⊎◌, inl, inr, ⊎_elim}
use mathlib.Core.List.{List}
use Prim.Native.Nat.{ℕ, ◌≤◌}
use native.Mathlib.Omega.{arith}
use lib.Dec.{eqb}
use lib.ListN.{set, drop, replicate}
use lib.Seq.{get_or-set_other}
use borrow.Author.Tests.{eqb-true, eqb-false}
use Rattle.model.specs.Reading.{table_scope}
use Rattle.model.proofs.Elements.{all_map, all_append}
use Rattle.model.proofs.Bits.{test}
use Rattle.model.proofs.Zeros.{zeros_at}
use Rattle.branch_buckets.specs.Messages.{children_over}
use Rattle.branch_buckets.specs.Bounds.{places_over}
use Rattle.branch_buckets.specs.Content.{Ranged}
use Rattle.branch_buckets.specs.declared.Span as DS
use Rattle.branch_buckets.proofs.Reading.{Reads, joined}
use Rattle.branch_buckets.proofs.Sums.{places_over_split, children_over_split}
use Rattle.plan_test.specs.declared.Part as DP
use Rattle.plan_test.specs.Marks.{Marked, ScopeIn, BucketIn}
use Rattle.plan_test.specs.Parts.{one_of, two_of, three_of, PartReads}

pub none_marked : (n v : ℕ) → Marked (replicate n 0) v → ⊥
none_marked n v h = omega (arith, zeros_at n v)

pub mark_cases : (marks : List ℕ) (v w : ℕ) → Marked (set marks v 1) w → (w ≡ v) ⊎ Marked marks w
mark_cases marks v w h =
    ⊎_elim (λ t. inl (eqb-true w v t)) (λ t. inr (sym (get_or-set_other marks v w 1 0 (eqb-false w v t)) ∙ h))
    (test (eqb w v))

-- what reads only variables with the property P reads only those with Q
module _ (P Q : ℕ → Type 0) (f : (v : ℕ) → P v → Q v) where
  pub reads_map : (plan : List ℕ) (g : ℕ) → Reads P plan g → Reads Q plan g
  reads_map plan g h = (
    ⊎_elim (λ e. inl e) (λ p. inr (f _ p)) h.0,
    ⊎_elim (λ e. inl e) (λ p. inr (f _ p)) h.1,
    ⊎_elim (λ e. inl e) (λ p. inr (f _ p)) h.2,
  )

  pub bucket_map : (s plan : List ℕ) (span : DS.Span) → BucketIn P s plan span → BucketIn Q s plan span
  bucket_map s plan span b =
      record {
        records =
            all_map (ScopeIn P s) (ScopeIn Q s) (λ at. all_map P Q f (table_scope (drop at s)))
            (places_over plan span.from span.to) b.records;
        children =
            all_map (Reads P plan) (Reads Q plan) (λ g. reads_map plan g)
            (children_over plan span.first span.last) b.children;
      }

-- two spans that follow each other
pub bucket_join :
    (P : ℕ → Type 0) (s plan : List ℕ) (a b : DS.Span) → Ranged a → Ranged b → a.to ≡ b.from → a.last ≡ b.first
    → BucketIn P s plan a → BucketIn P s plan b → BucketIn P s plan (joined a b)
bucket_join P s plan a b u w e f p q =
    let records = rw (← e) at q.records in
    let children = rw (← f) at q.children in
    let rise : a.to ≤ b.to = omega (arith, w.records) in
    let rise' : a.last ≤ b.last = omega (arith, w.children) in
    record {
      records =
          rw (places_over_split plan a.from a.to b.to u.records rise)
          (all_append (ScopeIn P s) (places_over plan a.from a.to) (places_over plan a.to b.to)
          p.records records);
      children =
          rw (children_over_split plan a.first a.last b.last u.children rise')
          (all_append (Reads P plan) (children_over plan a.first a.last) (children_over plan a.last b.last)
          p.children children);
    }

-- the marks of a part are on its own variable and on those of its message
pub part_marks :
    (plan : List ℕ) (p : DP.Part) (own one two three : List ℕ) → own ≡ set (replicate 24 0) p.own 1
    → one ≡ set own (one_of plan p) 1 → two ≡ set one (two_of plan p) 1 → three ≡ set two (three_of plan p) 1 → (w : ℕ)
    → Marked three w → PartReads plan p w
part_marks plan p own one two three d e f g w h =
    ⊎_elim
    (λ (q : w ≡ three_of plan p). inl (inr q))
    (λ (m : Marked two w). ⊎_elim (λ (q : w ≡ two_of plan p). inl (inl (inr q)))
    (λ (m : Marked one w). ⊎_elim (λ (q : w ≡ one_of plan p). inl (inl (inl q)))
    (λ (m : Marked own w). ⊎_elim (λ (q : w ≡ p.own). inr q)
    (λ (m : Marked (replicate 24 0) w). absurd (none_marked 24 w m))
    (mark_cases (replicate 24 0) p.own w (rw d at m)))
    (mark_cases own (one_of plan p) w (rw e at m)))
    (mark_cases one (two_of plan p) w (rw f at m)))
    (mark_cases two (three_of plan p) w (rw g at h))
