-- Testing position after position that what stands behind its ends reads earlier positions only.
use mathlib.Core.Path.{◌≡◌, refl, ap, sym, subst, ◌∙◌}
use mathlib.Core.Logic.{⊎_elim}
use mathlib.Core.List.{List}
use Prim.Native.Nat.{ℕ, ◌+◌, ◌-◌, ◌≤◌, ◌<◌}
use native.Mathlib.Omega.{arith}
use borrow.Author.Count.{below_more}
use lib.ListN.{length, set, length-set}
use Rattle.model.specs.Basics.{All}
use Rattle.model.proofs.Elements.{all_map}
use Rattle.layout.specs.Places.{max_messages, order_in, position_in, record_end, child_end, message_end}
use Rattle.branch_buckets.specs.Messages.{count_from}
use Rattle.branch_buckets.specs.Sound.{ReadsBefore, Ordered, Ends, Early}
use Rattle.branch_buckets.proofs.Reading.{Reads}
use Rattle.plan_test.specs.Marks.{Marked, BucketIn}
use Rattle.branch_buckets.specs.Content.{Ranged}
use Rattle.branch_buckets.specs.declared.Span as DS
use Rattle.plan_test.proofs.Marking.{mark_cases, reads_map, bucket_map, bucket_join}

-- v stands before position k
abbrev pub Before : List ℕ → ℕ → ℕ → Type 0
Before plan k v = position_in plan v < k

-- all that stands behind the ends of position k, of r records
abbrev behind_span : List ℕ → ℕ → ℕ → DS.Span
behind_span plan r k = record { from = record_end plan k; to = r; first = child_end plan k; last = max_messages }

-- the first k positions are tested, records from number `to` on and slots from `last` on with them; the variables of
-- these positions are marked
pub record Testing (n r : ℕ) (s plan marks : List ℕ) (to last k : ℕ) : Type 0 where
  pub few : k ≤ n
  pub long : length marks ≡ 24
  pub marked : (v : ℕ) → Marked marks v → Before plan k v
  pub records : (record_end plan k ≤ to) × (to ≤ r)
  pub children : (child_end plan k ≤ last) × (last ≤ max_messages)
  pub behind : BucketIn (Before plan k) s plan (record { from = to; to = r; first = last; last = max_messages })
  pub done : (m : ℕ) → m < k → BucketIn (Before plan m) s plan (behind_span plan r m)
  pub sent : (m : ℕ) → m < k
      → All (ReadsBefore plan m) (count_from (message_end plan (m + 1)) (message_end plan m - message_end plan (m + 1)))

module _ {n r : ℕ} {s plan marks : List ℕ} {to last k : ℕ} (t : Testing n r s plan marks to last k) where
  abbrev tested : DS.Span
  tested = record { from = record_end plan k; to = to; first = child_end plan k; last = last }

  testing_bucket : BucketIn (Marked marks) s plan tested → BucketIn (Before plan k) s plan (behind_span plan r k)
  testing_bucket b =
      let rest : DS.Span = record { from = to; to = r; first = last; last = max_messages } in
      let ranged : Ranged tested =
      record { records = t.records.0; children = t.children.0; children_end = t.children.1 } in
      let ranged' : Ranged rest =
      record { records = t.records.1; children = t.children.1; children_end = omega arith } in
      bucket_join (Before plan k) s plan tested rest ranged ranged' refl refl
      (bucket_map (Marked marks) (Before plan k) t.marked s plan tested b)
      t.behind

  pub testing_next :
      Ordered n plan → Ends n r plan → k < n → BucketIn (Marked marks) s plan tested
      → All (Reads (Marked marks) plan)
      (count_from (message_end plan (k + 1)) (message_end plan k - message_end plan (k + 1)))
      → (marks' : List ℕ) → marks' ≡ set marks (order_in plan k) 1
      → Testing n r s plan marks' (record_end plan k) (child_end plan k) (k + 1)
  testing_next o e more b m marks' is =
      let own : (v : ℕ) → Marked marks' v → Before plan (k + 1) v = λ v h.
      ⊎_elim
      (λ (p : v ≡ order_in plan k). rw p (omega (arith, o.place k more)))
      (λ (p : Marked marks v). omega (arith, t.marked v p))
      (mark_cases marks (order_in plan k) v (rw is at h)) in
      let whole = testing_bucket b in
      record {
        few = omega arith;
        long = rw (is, length-set marks (order_in plan k) 1) t.long;
        marked = own;
        records = (e.records k more, omega (arith, t.records.0, t.records.1));
        children = (e.children k more, omega (arith, t.children.0, t.children.1));
        behind =
            bucket_map (Before plan k) (Before plan (k + 1)) (λ v h. omega arith) s plan (behind_span plan r k)
            whole;
        done = below_more (λ m. BucketIn (Before plan m) s plan (behind_span plan r m)) k t.done whole;
        sent =
            below_more (λ m. All (ReadsBefore plan m)
            (count_from (message_end plan (m + 1)) (message_end plan m - message_end plan (m + 1))))
            k t.sent
            (all_map (Reads (Marked marks) plan) (ReadsBefore plan k)
            (λ g. reads_map (Marked marks) (Before plan k) t.marked plan g)
            (count_from (message_end plan (k + 1)) (message_end plan k - message_end plan (k + 1))) m);
      }

  pub testing_end :
      Ends n r plan → n ≤ k → BucketIn (Marked marks) s plan (record { from = 0; to = to; first = 0; last = last })
      → Early n r s plan
  testing_end e all b =
      let same : k ≡ n = omega (arith, t.few) in
      let records-zero : 0 ≡ record_end plan k = sym (ap (record_end plan) same ∙ e.records_last) in
      let children-zero : 0 ≡ child_end plan k = sym (ap (child_end plan) same ∙ e.children_last) in
      let span : ℕ → ℕ → DS.Span = λ from first. record { from = from; to = to; first = first; last = last } in
      let front =
      subst (λ (i : ℕ). BucketIn (Marked marks) s plan (span i (child_end plan k))) records-zero
      (subst (λ (i : ℕ). BucketIn (Marked marks) s plan (span 0 i)) children-zero b) in
      let each =
      below_more (λ m. BucketIn (Before plan m) s plan (behind_span plan r m)) k t.done (testing_bucket front) in
      record {
        records = λ m h. (each m (omega arith)).records;
        children = λ m h. (each m (omega arith)).children;
        sent = λ m h. t.sent m (omega arith);
      }
