-- The bound of a partial choice: it reads only the first positions, rises with them, and is exact at the end.
use mathlib.Core.Path.{◌≡◌, sym, ap, ap₂, ◌∙◌}
use mathlib.Core.Logic.{⊎_elim}
use mathlib.Core.Bool.{true, false}
use mathlib.Core.List.{List}
use Prim.Native.Nat.{ℕ, zero, suc, ◌+◌, ◌-◌, ◌≤◌, ◌<◌}
use native.Mathlib.Nat.{add-zero, sub-zero}
use native.Mathlib.Numerals.{add-one}
use native.Mathlib.Omega.{arith}
use lib.Dec.{ltb}
use lib.ListN.{length, get_or, take, length-take, get_or-eq_default}
use borrow.Author.Tests.{ltb-true, ltb-false}
use Rattle.model.specs.Limits.{max_tables, byte_end}
use Rattle.model.specs.Costs.{is_choice, cost_of}
use Rattle.model.proofs.Bits.{test}
use Rattle.model.proofs.Choices.{choice_length}
use Rattle.model.proofs.Totals.{totals_from_length}
use Rattle.groups.specs.Groups.{tables_over}
use Rattle.branch_directions.specs.Directions.{directions_of, width_of, direction_end}
use Rattle.branch_directions.specs.declared.Directions as DD
use Rattle.branch_directions.proofs.DirectionLaws.{directions_limit}
use Rattle.layout.specs.Places.{max_messages, position_in, record_end, child_end, message_end}
use Rattle.branch_buckets.specs.Messages.{sum_over, count_from, message_at, sent_over, received_over}
use Rattle.branch_buckets.specs.Bounds.{costs_over, records_over, span_at, base_span}
use Rattle.branch_buckets.specs.Bounds.{content_at, sent_at, base_at, bound_at, Agree}
use Rattle.branch_buckets.specs.Sound.{ReadsBefore, ScopeBefore, Tested, Sound}
use Rattle.branch_buckets.specs.Content.{Planned}
use Rattle.branch_buckets.proofs.Sums.{places_over_all, children_over_all, sent_split, received_split}
use Rattle.branch_buckets.proofs.Rearranging.{rearranged_costs}
use Rattle.branch_buckets.proofs.Ends.{record_limit, child_limit, message_limit}
use Rattle.branch_buckets.proofs.Reading.{sent_reads, content_reads, records_split}
use Rattle.groups.proofs.SumLimits.{costs_small}

-- what agrees at k positions agrees at fewer
pub agree_fewer : (plan : List ℕ) (k m : ℕ) (x y : List ℕ) → m ≤ k → Agree plan k x y → Agree plan m x y
agree_fewer plan k m x y l h v i p = h v i (omega arith)

-- outside both choices there is nothing to differ
pub agree_reads : (plan : List ℕ) (k : ℕ) (x y : List ℕ) → length x ≡ length y → Agree plan k x y → (v : ℕ)
    → position_in plan v < k → get_or x v 0 ≡ get_or y v 0
agree_reads plan k x y e h v l =
    ⊎_elim
    (λ (t : ltb v (length x) ≡ true). h v (ltb-true v (length x) t) l)
    (λ (t : ltb v (length x) ≡ false).
    let out : length x ≤ v = ltb-false v (length x) t in
    let out' : length y ≤ v = omega arith in
    get_or-eq_default x 0 out ∙ sym (get_or-eq_default y 0 out'))
    (test (ltb v (length x)))

-- with more positions it only rises
module _ (d : DD.Directions) (r : ℕ) (ds s plan y : List ℕ) (j : ℕ) where
  bound_next : (k : ℕ)
      → bound_at d ds s plan r (k + 1) y j
      ≡ bound_at d ds s plan r k y j + (content_at d ds s plan k y j - sent_at d plan k y j)
  unfolding bound_at
  bound_next k = ap (λ (m : ℕ). bound_at d ds s plan r m y j) (add-one k)

  bound_more : (k m : ℕ) → bound_at d ds s plan r k y j ≤ bound_at d ds s plan r (k + m) y j
  bound_more k zero = rw (add-zero k) (omega arith)
  bound_more k (suc m) =
      let e : k + suc m ≡ k + m + 1 = omega arith in
      rw e (omega (arith, bound_next (k + m), bound_more k m))

  pub bound_rises : (k m : ℕ) → k ≤ m → bound_at d ds s plan r k y j ≤ bound_at d ds s plan r m y j
  bound_rises k m l =
      let e : k + (m - k) ≡ m = omega arith in
      rw e at (bound_more k (m - k))

-- ## what is read

-- the ends of every position lie inside
module _ {d : DD.Directions} {r : ℕ} {ds s plan : List ℕ} (t : Tested d r ds s plan) where
  pub records_inside : (k : ℕ) → k ≤ length ds → record_end plan k ≤ r
  records_inside = record_limit t.ends

  pub children_inside : (k : ℕ) → k ≤ length ds → child_end plan k ≤ max_messages
  children_inside = child_limit t.ends

  pub messages_inside : (k : ℕ) → k ≤ length ds → message_end plan k ≤ max_messages
  messages_inside = message_limit t.ends

  -- a bucket, what it sends and the bound of the positions before it
  pub content_local : (k : ℕ) → k < length ds → (x y : List ℕ) → length x ≡ length ds → length y ≡ length ds
      → Agree plan (k + 1) x y → (j : ℕ) → content_at d ds s plan k x j ≡ content_at d ds s plan k y j
  content_local k l x y e f h j =
      content_reads (λ v. position_in plan v < k + 1) x y (agree_reads plan (k + 1) x y (e ∙ sym f) h) d ds s plan
      (span_at plan k)
      (places_over_all (ScopeBefore s plan (k + 1)) plan (record_end plan (k + 1)) (record_end plan k) r
      (records_inside k (omega arith)) (t.early.records (k + 1) (omega arith)))
      (children_over_all (ReadsBefore plan (k + 1)) plan (child_end plan (k + 1)) (child_end plan k) max_messages
      (children_inside k (omega arith)) (t.early.children (k + 1) (omega arith)))
      j

  pub sent_local : (k : ℕ) → k < length ds → (x y : List ℕ) → length x ≡ length ds → length y ≡ length ds
      → Agree plan k x y → (j : ℕ) → sent_at d plan k x j ≡ sent_at d plan k y j
  sent_local k l x y e f h j =
      sent_reads (λ v. position_in plan v < k) x y (agree_reads plan k x y (e ∙ sym f) h) (width_of d) plan
      (message_end plan (k + 1)) (message_end plan k) (t.early.sent k l) j

  base_local : (x y : List ℕ) → length x ≡ length ds → length y ≡ length ds → Agree plan 0 x y → (j : ℕ)
      → base_at d ds s plan r x j ≡ base_at d ds s plan r y j
  base_local x y e f h j =
      content_reads (λ v. position_in plan v < 0) x y (agree_reads plan 0 x y (e ∙ sym f) h) d ds s plan
      (base_span plan r)
      (t.early.records 0 (omega arith)) (rw t.ends.messages_first (t.early.children 0 (omega arith))) j

  bound_reads : (k : ℕ) → k ≤ length ds → (x y : List ℕ) → length x ≡ length ds → length y ≡ length ds
      → Agree plan k x y → (j : ℕ) → bound_at d ds s plan r k x j ≡ bound_at d ds s plan r k y j
  unfolding bound_at
  bound_reads zero l x y e f h j = base_local x y e f h j
  bound_reads (suc k) l x y e f h j =
      ap₂ ◌+◌ (bound_reads k (omega arith) x y e f (agree_fewer plan (suc k) k x y (omega arith) h) j)
      (ap₂ ◌-◌ (content_local k (omega arith) x y e f (agree_fewer plan (suc k) (k + 1) x y (omega arith) h) j)
      (sent_local k (omega arith) x y e f (agree_fewer plan (suc k) k x y (omega arith) h) j))

  pub bound_local : (k : ℕ) → k ≤ length ds → (x y : List ℕ) → is_choice ds x ≡ true → is_choice ds y ≡ true
      → Agree plan k x y → (j : ℕ) → bound_at d ds s plan r k x j ≡ bound_at d ds s plan r k y j
  bound_local k l x y e f h j = bound_reads k l x y (choice_length ds x e) (choice_length ds y f) h j

  pub bound_step : (k : ℕ) → k < length ds → (y : List ℕ) → is_choice ds y ≡ true → (j : ℕ) → j < width_of d
      → bound_at d ds s plan r (k + 1) y j + sent_at d plan k y j
      ≡ bound_at d ds s plan r k y j + content_at d ds s plan k y j
  bound_step k l y c j w = omega (arith, bound_next d r ds s plan y j k, t.holds k l y c j w)

-- ## where it ends

module _ {d : DD.Directions} {r : ℕ} {ds s source plan : List ℕ} (w : Sound d r ds s source plan) (y : List ℕ)
    (c : is_choice ds y ≡ true) (j : ℕ) (i : j < width_of d) where
  abbrev received : ℕ → ℕ → ℕ
  received from to = received_over (width_of d) plan from to y j

  abbrev sent_to : ℕ → ℕ
  sent_to to = sent_over (width_of d) plan 0 to y j

  abbrev records_from : ℕ → ℕ
  records_from from = records_over d ds s plan from r y j

  -- all slots have all messages
  all_messages : received 0 max_messages ≡ sent_to max_messages
  all_messages = w.messages (message_at (width_of d) plan y j)

  -- the bound of the first k positions and the messages that the others receive come to the records of the first k and
  -- the messages that the others send
  abbrev Balanced : ℕ → Type 0
  Balanced k =
      bound_at d ds s plan r k y j + received 0 (child_end plan k)
      ≡ records_from (record_end plan k) + sent_to (message_end plan k)

  balanced_first : Balanced 0
  unfolding bound_at
  balanced_first =
      let ends = w.tested.ends in
      rw ends.messages_first
      (omega (
        arith,
        all_messages,
        received_split (width_of d) plan 0 (child_end plan 0) max_messages (omega arith) ends.children_first y j,
      ))

  balanced_next : (k : ℕ) → k < length ds → Balanced k → Balanced (k + 1)
  balanced_next k l h =
      let ends = w.tested.ends in
      let width = width_of d in
      omega (
        arith,
        h,
        bound_step w.tested k l y c j i,
        records_split d ds s plan (record_end plan (k + 1)) (record_end plan k) r (ends.records k l)
            (records_inside w.tested k (omega arith)) y j,
        received_split width plan 0 (child_end plan (k + 1)) (child_end plan k) (omega arith) (ends.children k l) y j,
        sent_split width plan 0 (message_end plan (k + 1)) (message_end plan k) (omega arith) (ends.messages k l) y j,
      )

  balanced : (k : ℕ) → k ≤ length ds → Balanced k
  balanced zero l = balanced_first
  balanced (suc k) l = rw (← add-one k) (balanced_next k l (balanced k (omega arith)))

  whole_exact : bound_at d ds s plan r (length ds) y j
      ≡ get_or (directions_of d (costs_over d ds s (take r plan) y)) j 0
  unfolding sum_over count_from
  whole_exact =
      let ends = w.tested.ends in
      let end = rw (ends.children_last, ends.records_last, ends.messages_last, sub-zero r)
      at (balanced (length ds) (omega arith)) in
      omega (arith, end)

  pub bound_exact : bound_at d ds s plan r (length ds) y j ≡ get_or (directions_of d (costs_over d ds s source y)) j 0
  bound_exact =
      whole_exact
      ∙ ap (λ (v : List ℕ). get_or (directions_of d v) j 0)
      (rearranged_costs ds s source (take r plan) w.records d.objectives 0 (cost_of ds y))

  pub bound_below : (k : ℕ) → k ≤ length ds
      → bound_at d ds s plan r k y j ≤ get_or (directions_of d (costs_over d ds s source y)) j 0
  bound_below k l = rw (← bound_exact) (bound_rises d r ds s plan y j k (length ds) l)

  -- few records, and s has bytes only
  pub bound_limit : Planned d r ds s plan → ((at : ℕ) → get_or s at 0 < byte_end) → (k : ℕ) → k ≤ length ds
      → bound_at d ds s plan r k y j < direction_end
  bound_limit p bytes k l =
      let places = take r plan in
      let few : length places ≤ max_tables = omega (arith, p.few, length-take r plan) in
      let small = directions_limit d (costs_over d ds s places y) p.sensible
      (costs_small ds s y bytes d.objectives 0 places few)
      (totals_from_length d.objectives 0 (cost_of ds y) (tables_over ds s places)) j in
      omega (arith, bound_rises d r ds s plan y j k (length ds) l, rw (← whole_exact) at small)
