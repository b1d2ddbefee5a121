-- Plans in which records and slots are rearranged: what is written elsewhere does not matter, and an exchange is such a
-- change.
use mathlib.Core.Path.{◌≡◌, refl, sym, ap, ◌∙◌}
use mathlib.Core.List.{List}
use Prim.Native.Nat.{ℕ, ◌+◌, ◌≤◌, ◌<◌}
use native.Mathlib.Omega.{arith}
use lib.ListN.{length, get_or, set, take, drop, length-set, length-drop}
use lib.Seq.{take-take, take-set-le, drop-set-lt, length-take-le}
use Rattle.model.specs.Limits.{max_tables}
use Rattle.model.proofs.Lists.{take_drop}
use Rattle.problem.specs.Records.{Whole}
use Rattle.branch_directions.specs.declared.Directions as DD
use Rattle.layout.specs.Places.{max_messages, children_at, loose_at}
use Rattle.branch_buckets.specs.Content.{Planned}
use Rattle.branch_buckets.proofs.Rearranging.{exchanged, exchange_rearranged, exchange_all, exchange_part}
use Rattle.branch_buckets.proofs.Rearranging.{exchange_front}
use Rattle.plan_memory.specs.Arranged.{Loose, Arranged}

pub loose_refl : (a : List ℕ) → Loose a a
loose_refl a = record { long = refl; front = refl }

pub loose_trans : {a b c : List ℕ} → Loose a b → Loose b c → Loose a c
loose_trans g h = record { long = h.long ∙ g.long; front = h.front ∙ g.front }

-- one number is written behind the front
pub loose_set : (a : List ℕ) (i x : ℕ) → loose_at ≤ i → Loose a (set a i x)
loose_set a i x h = record { long = length-set a i x; front = take-set-le loose_at a i x h }

pub arranged_refl : (r : ℕ) (a : List ℕ) → Arranged r a a
arranged_refl r a = record { long = refl; whole = λ ds s h. h; records = λ f. refl; slots = λ f. refl }

pub arranged_trans : {r : ℕ} {a b c : List ℕ} → Arranged r a b → Arranged r b c → Arranged r a c
arranged_trans g h =
    record {
      long = h.long ∙ g.long;
      whole = λ ds s w. h.whole ds s (g.whole ds s w);
      records = λ f. h.records f ∙ g.records f;
      slots = λ f. h.slots f ∙ g.slots f;
    }

-- equal parts are rearranged
pub same_arranged : {r : ℕ} {a b : List ℕ} → length b ≡ length a → take r b ≡ take r a
    → take max_messages (drop children_at b) ≡ take max_messages (drop children_at a) → Arranged r a b
same_arranged l e k =
    record { long = l; whole = λ ds s w. rw e w; records = λ f. rw e refl; slots = λ f. rw k refl }

module _ {r : ℕ} (few : r ≤ max_tables) where
  pub loose_arranged : {a b : List ℕ} → Loose a b → Arranged r a b
  loose_arranged {a} {b} h =
      same_arranged h.long
      (sym (take-take r loose_at b (omega arith)) ∙ ap (take r) h.front ∙ take-take r loose_at a (omega arith))
      (take_drop max_messages children_at b ∙ ap (drop children_at) h.front
      ∙ sym (take_drop max_messages children_at a))

  -- and one after the other
  pub arranged_loose : {a b c : List ℕ} → Arranged r a b → Loose b c → Arranged r a c
  arranged_loose g h = arranged_trans g (loose_arranged h)

-- what the plan is made of is there still
pub planned_arranged : {d : DD.Directions} {r : ℕ} {ds s a b : List ℕ} → Planned d r ds s a → Arranged r a b
    → Planned d r ds s b
planned_arranged {ds = ds} {s = s} p h =
    record {
      sensible = p.sensible;
      small = p.small;
      variables = p.variables;
      few = p.few;
      whole = h.whole ds s p.whole;
      long = rw h.long p.long;
    }

module _ (r : ℕ) (few : r ≤ max_tables) (l : List ℕ) (long : loose_at ≤ length l) (i j : ℕ) where
  both : (a b : ℕ) → length (exchanged l a b) ≡ length l
  both a b = length-set (set l a (get_or l b 0)) b (get_or l a 0) ∙ length-set l a (get_or l b 0)

  pub records_exchanged : i < r → j < r → Arranged r l (exchanged l i j)
  records_exchanged g h =
      let is : length (take r l) ≡ r = length-take-le r l (omega arith) in
      let front = exchange_front l r i j g h in
      let gl : i < length (take r l) = omega arith in
      let hl : j < length (take r l) = omega arith in
      record {
        long = both i j;
        whole = λ ds s w. rw front (exchange_all (take r l) i j gl hl (Whole ds s) w);
        records = λ f. rw front (exchange_rearranged (take r l) i j gl hl f);
        slots =
            λ f. rw (
              drop-set-lt children_at (set l i (get_or l j 0)) j (get_or l i 0) (omega arith),
              drop-set-lt children_at l i (get_or l j 0) (omega arith),
            ) refl;
      }

  pub slots_exchanged : i < max_messages → j < max_messages
      → Arranged r l (exchanged l (children_at + i) (children_at + j))
  slots_exchanged g h =
      let is : length (take max_messages (drop children_at l)) ≡ max_messages =
      length-take-le max_messages (drop children_at l) (omega (arith, length-drop children_at l)) in
      let part = exchange_part l children_at max_messages i j g h in
      let front : take r (exchanged l (children_at + i) (children_at + j)) ≡ take r l = take-set-le r
      (set l (children_at + i) (get_or l (children_at + j) 0)) (children_at + j) (get_or l (children_at + i) 0)
      (omega arith)
      ∙ take-set-le r l (children_at + i) (get_or l (children_at + j) 0) (omega arith) in
      let gl : i < length (take max_messages (drop children_at l)) = omega arith in
      let hl : j < length (take max_messages (drop children_at l)) = omega arith in
      record {
        long = both (children_at + i) (children_at + j);
        whole = λ ds s w. rw front w;
        records = λ f. rw front refl;
        slots = λ f. rw part (exchange_rearranged (take max_messages (drop children_at l)) i j gl hl f);
      }
