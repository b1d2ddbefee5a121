-- What records and messages hold depends only on the variables that they read; a bucket that is cut in two, and a part
-- of one.
use mathlib.Core.Path.{◌≡◌, refl, ap, ap₂}
use mathlib.Core.Logic.{◌⊎◌, inl, inr}
use mathlib.Core.List.{List}
use Prim.Native.Nat.{ℕ, ◌+◌, ◌*◌, ◌-◌, ◌≤◌}
use native.Mathlib.Nat.{mul-zero}
use native.Mathlib.Omega.{arith}
use lib.Dec.{eqb}
use lib.ListN.{length, get_or, drop}
use Rattle.model.specs.Basics.{when, All}
use Rattle.model.specs.Reading.{table_scope, table_of}
use Rattle.model.specs.Costs.{cost_of, total}
use Rattle.model.proofs.Elements.{all_map}
use Rattle.model.proofs.LeastEntry.{entry_same}
use Rattle.model.proofs.Totals.{totals_from_length}
use Rattle.costs.specs.Entries.{table_at}
use Rattle.groups.specs.Groups.{tables_over}
use Rattle.branch_directions.specs.Directions.{directions_of, width_of}
use Rattle.branch_directions.specs.declared.Directions as DD
use Rattle.branch_directions.proofs.DirectionLaws.{directions_added}
use Rattle.layout.specs.Places.{field_in}
use Rattle.branch_buckets.specs.Messages.{count_from, message_at, sent_over, children_over, received_over}
use Rattle.branch_buckets.specs.Bounds.{places_over, costs_over, records_over, content_over}
use Rattle.branch_buckets.specs.Content.{Ranged}
use Rattle.branch_buckets.specs.declared.Span as DS
use Rattle.branch_buckets.proofs.Sums.{sum_over_equal, places_over_split, received_split, share_of, total_over}
use Rattle.branch_buckets.proofs.Sums.{totals_same, totals_append}

-- message g reads only variables that have the property P: a variable with stride 0 is not read
abbrev pub Reads : (ℕ → Type 0) → List ℕ → ℕ → Type 0
Reads P plan g =
    ((field_in plan g 2 ≡ 0) ⊎ P (field_in plan g 1))
    × ((field_in plan g 4 ≡ 0) ⊎ P (field_in plan g 3))
    × ((field_in plan g 6 ≡ 0) ⊎ P (field_in plan g 5))

-- two choices x and y that are the same at the variables that have the property P; these four come first: content-reads
-- P x y same ..
module _ (P : ℕ → Type 0) (x y : List ℕ) (same : (v : ℕ) → P v → get_or x v 0 ≡ get_or y v 0) where
  term_reads : (u stride : ℕ) → (stride ≡ 0) ⊎ P u → get_or x u 0 * stride ≡ get_or y u 0 * stride
  term_reads u stride (inl e) = rw (e, mul-zero (get_or x u 0), mul-zero (get_or y u 0))
  term_reads u stride (inr p) = ap (λ (a : ℕ). a * stride) (same u p)

  pub message_reads : (w : ℕ) (plan : List ℕ) (j g : ℕ) → Reads P plan g
      → message_at w plan x j g ≡ message_at w plan y j g
  message_reads w plan j g h =
      ap (λ (e : ℕ). get_or plan (field_in plan g 0 + w * e + j) 0)
      (ap₂ ◌+◌
      (ap₂ ◌+◌ (term_reads (field_in plan g 1) (field_in plan g 2) h.0)
      (term_reads (field_in plan g 3) (field_in plan g 4) h.1))
      (term_reads (field_in plan g 5) (field_in plan g 6) h.2))

  messages_read : (w : ℕ) (plan : List ℕ) (j : ℕ) (gs : List ℕ) → All (Reads P plan) gs
      → All (λ g. message_at w plan x j g ≡ message_at w plan y j g) gs
  messages_read w plan j gs h =
      all_map (Reads P plan) (λ g. message_at w plan x j g ≡ message_at w plan y j g) (λ g. message_reads w plan j g) gs
      h

  pub sent_reads : (w : ℕ) (plan : List ℕ) (from to : ℕ) → All (Reads P plan) (count_from from (to - from)) → (j : ℕ)
      → sent_over w plan from to x j ≡ sent_over w plan from to y j
  sent_reads w plan from to h j =
      sum_over_equal (message_at w plan x j) (message_at w plan y j) (count_from from (to - from))
      (messages_read w plan j (count_from from (to - from)) h)

  pub received_reads : (w : ℕ) (plan : List ℕ) (first last : ℕ) → All (Reads P plan) (children_over plan first last)
      → (j : ℕ) → received_over w plan first last x j ≡ received_over w plan first last y j
  received_reads w plan first last h j =
      sum_over_equal (message_at w plan x j) (message_at w plan y j) (children_over plan first last)
      (messages_read w plan j (children_over plan first last) h)

  record_reads : (ds s : List ℕ) (at : ℕ) → All P (table_scope (drop at s))
      → cost_of ds x (table_at ds s at) ≡ cost_of ds y (table_at ds s at)
  unfolding cost_of table_of
  record_reads ds s at h =
      ap (λ (i : ℕ). get_or (table_at ds s at).costs i 0)
      (entry_same ds ds x y 0 (table_scope (drop at s))
      (all_map P (λ v. (get_or ds v 0 ≡ get_or ds v 0) × (get_or x v 0 ≡ get_or y v 0)) (λ v p. (refl, same v p))
      (table_scope (drop at s)) h))

  total_reads : (ds s : List ℕ) (o : ℕ) (places : List ℕ) → All (λ at. All P (table_scope (drop at s))) places
      → total o (cost_of ds x) (tables_over ds s places) ≡ total o (cost_of ds y) (tables_over ds s places)
  total_reads ds s o places h =
      let each = all_map (λ at. All P (table_scope (drop at s)))
      (λ at. share_of ds s o (cost_of ds x) at ≡ share_of ds s o (cost_of ds y) at)
      (λ at k. ap (λ (n : ℕ). when (eqb (table_of ds (drop at s)).objective o) n) (record_reads ds s at k)) places h in
      rw (total_over ds s o (cost_of ds x) places, total_over ds s o (cost_of ds y) places)
      (sum_over_equal (share_of ds s o (cost_of ds x)) (share_of ds s o (cost_of ds y)) places each)

  pub records_read : (d : DD.Directions) (ds s plan : List ℕ) (from to : ℕ)
      → All (λ at. All P (table_scope (drop at s))) (places_over plan from to) → (j : ℕ)
      → records_over d ds s plan from to x j ≡ records_over d ds s plan from to y j
  records_read d ds s plan from to h j =
      let places = places_over plan from to in
      ap (λ (v : List ℕ). get_or (directions_of d v) j 0)
      (totals_same ds s d.objectives 0 (cost_of ds x) (cost_of ds y) places places (λ o. total_reads ds s o places h))

  pub content_reads :
      (d : DD.Directions) (ds s plan : List ℕ) (span : DS.Span)
      → All (λ at. All P (table_scope (drop at s))) (places_over plan span.from span.to)
      → All (Reads P plan) (children_over plan span.first span.last)
      → (j : ℕ) → content_over d ds s plan span x j ≡ content_over d ds s plan span y j
  content_reads d ds s plan span h k j =
      ap₂ ◌+◌
      (records_read d ds s plan span.from span.to h j)
      (received_reads (width_of d) plan span.first span.last k j)

-- records that are cut in two
module _ (d : DD.Directions) (ds s plan : List ℕ) (from to to' : ℕ) (g : from ≤ to) (h : to ≤ to') (y : List ℕ)
    (j : ℕ) where
  pub records_split :
      records_over d ds s plan from to y j + records_over d ds s plan to to' y j ≡ records_over d ds s plan from to' y j
  records_split =
      let f = cost_of ds y in
      let p = d.objectives in
      let long : (places : List ℕ) → length (costs_over d ds s places y) ≡ p =
      λ places. totals_from_length p 0 f (tables_over ds s places) in
      let before = places_over plan from to in
      let behind = places_over plan to to' in
      rw (
        places_over_split plan from to to' g h,
        totals_append ds s p 0 f before behind,
        directions_added d (costs_over d ds s before y) (costs_over d ds s behind y) (long before) (long behind) j,
      ) refl

-- a span, and the one that begins where it ends
abbrev pub joined : DS.Span → DS.Span → DS.Span
joined a b = record { from = a.from; to = b.to; first = a.first; last = b.last }

-- two spans that follow each other hold what they hold together
pub content_split :
    (d : DD.Directions) (ds s plan : List ℕ) (a b : DS.Span) → Ranged a → Ranged b → a.to ≡ b.from
    → a.last ≡ b.first → (y : List ℕ) (j : ℕ)
    → content_over d ds s plan a y j + content_over d ds s plan b y j ≡ content_over d ds s plan (joined a b) y j
content_split d ds s plan a b u w e f y j =
    let records = records_split d ds s plan a.from a.to b.to u.records (omega (arith, w.records)) y j in
    let received =
    received_split (width_of d) plan a.first a.last b.last u.children (omega (arith, w.children)) y
    j in
    rw (← e, ← f) (omega (arith, records, received))

-- what begins at the same place and ends earlier holds at most as much
pub content_grows :
    (d : DD.Directions) (ds s plan : List ℕ) (a : DS.Span) (to last : ℕ) → Ranged a → a.to ≤ to → a.last ≤ last
    → (y : List ℕ) (j : ℕ)
    → content_over d ds s plan a y j
    ≤ content_over d ds s plan (record { from = a.from; to = to; first = a.first; last = last }) y j
content_grows d ds s plan a to last u g h y j =
    let records = records_split d ds s plan a.from a.to to u.records g y j in
    let received = received_split (width_of d) plan a.first a.last last u.children h y j in
    omega (arith, records, received)
