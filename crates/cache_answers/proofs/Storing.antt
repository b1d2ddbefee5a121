-- Storing a form and its answer: the slot that is written next holds them, the others hold what they held, and the
-- store is as long as it was.
use mathlib.Core.Path.{◌≡◌, refl, ◌∙◌}
use mathlib.Core.Logic.{inl, inr, ⊎_elim}
use mathlib.Core.Bool.{Bool, true, false}
use mathlib.Core.List.{List}
use Prim.Native.Nat.{ℕ, zero, suc, ◌+◌, ◌*◌, ◌≤◌, ◌<◌}
use native.Mathlib.Omega.{arith}
use lib.Dec.{ltb}
use lib.ListN.{length, drop}
use borrow.Author.Tests.{ltb-true}
use Rattle.model.specs.Basics.{pick}
use Rattle.model.specs.Encoding.{four_bytes}
use Rattle.model.specs.Reading.{word4}
use Rattle.model.proofs.Numbers.{one_first}
use Rattle.form_canonical.proofs.Places.{Apart, over_length, over_at_lem, over_apart}
use Rattle.cache_answers.specs.Stores.{slot_size, next_at, slots_in, Answer, next_slot, slot_after, filled}
use Rattle.cache_answers.specs.Stores.{stored}
use Rattle.cache_answers.proofs.Slots.{Stands, Fits, Holds, SameSlot, holds_kept, length_four, filled_length}
use Rattle.cache_answers.proofs.Slots.{filled_apart, filled_holds}

pub slots_some : (store : List ℕ) → slot_size ≤ length store → 1 ≤ slots_in store
unfolding slots_in
slots_some store h = omega arith

pub slots_room : (store : List ℕ) (k : ℕ) → k < slots_in store → slot_size * k + slot_size ≤ length store
unfolding slots_in
slots_room store k h = omega arith

next_inside : (store : List ℕ) → 1 ≤ slots_in store → next_slot store < slots_in store
unfolding next_slot
next_inside store some = go (ltb (word4 (drop next_at store)) (slots_in store)) refl
  where
    go : (b : Bool) → ltb (word4 (drop next_at store)) (slots_in store) ≡ b
        → pick b (word4 (drop next_at store)) 0 < slots_in store
    go true e = ltb-true _ _ e
    go false e = some

module _ (form : List ℕ) (a : Answer) (store : List ℕ) (fits : Fits form a) (some : 1 ≤ slots_in store) where
  abbrev k : ℕ
  k = next_slot store

  abbrev full : List ℕ
  full = filled (slot_size * k) form a store

  room : slot_size * k + slot_size ≤ length store
  room = slots_room store k (next_inside store some)

  full_long : length full ≡ length store
  full_long = filled_length (slot_size * k) form a store fits (omega (arith, room))

  pub stored_length : length (stored form a store) ≡ length store
  unfolding stored
  stored_length =
      let next = slot_after (slots_in store) k in
      over_length next_at (four_bytes next) full (omega (arith, length_four next, full_long, room)) ∙ full_long

  pub stored_next : Stands (four_bytes (slot_after (slots_in store) k)) next_at (stored form a store)
  unfolding stored
  stored_next = over_at_lem next_at (four_bytes (slot_after (slots_in store) k)) full (omega (arith, full_long, room))

  -- no slot has a part where the number of the next slot stands
  next_apart : (j n from : ℕ) → slot_size * j ≤ from → from + n ≤ slot_size * j + next_at → Apart n from 4 next_at
  next_apart zero n from l h = inl (omega arith)
  next_apart (suc j) n from l h = inr (omega arith)

  next_kept : (j : ℕ) → SameSlot (slot_size * j) full (stored form a store)
  unfolding stored
  next_kept j n from l h =
      let next = slot_after (slots_in store) k in
      over_apart next_at (four_bytes next) full n from (rw (length_four next) (next_apart j n from l h))
      (omega (arith, full_long, room))

  pub stored_holds : Holds (stored form a store) (slot_size * k) form a
  stored_holds =
      holds_kept full (stored form a store) (slot_size * k) form a (next_kept k)
      (filled_holds (slot_size * k) form a store fits (omega (arith, room)))

  pub stored_others : (j : ℕ) → (j ≡ k → ⊥) → SameSlot (slot_size * j) store (stored form a store)
  stored_others j other n from l h =
      next_kept j n from l h
      ∙ filled_apart (slot_size * k) form a store fits (omega (arith, room)) n from
      (⊎_elim (λ (less : j < k). inl (omega (arith, less, h))) (λ (more : k < j). inr (omega (arith, more, l)))
      (one_first j k other))
