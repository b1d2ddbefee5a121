-- Slots of a store: each lies inside it, and which one is found, comes next, or follows another.
use mathlib.Core.Path.{◌≡◌, refl, sym}
use mathlib.Core.Bool.{true, false}
use mathlib.Core.List.{List}
use Prim.Native.Nat.{ℕ, suc, ◌+◌, ◌*◌, ◌≤◌, ◌<◌}
use native.Mathlib.Numerals.{add-one}
use native.Mathlib.Omega.{arith}
use lib.ListN.{length, take, drop}
use borrow.Author.Tests.{lt-ltb, le-ltb, eq-eqb, ne_eqb}
use Rattle.model.specs.Reading.{word4}
use Rattle.model.specs.Vectors.{same}
use Rattle.cache_answers.specs.Stores.{slot_size, length_at, next_at, slots_in, slot_at, holds_form, find_form}
use Rattle.cache_answers.specs.Stores.{next_slot, slot_after}

pub slot_inside : (store : List ℕ) (k : ℕ) → k < slots_in store → slot_size * k + slot_size ≤ length store
unfolding slots_in
slot_inside store k h = omega arith

-- whether a slot holds a form, by its length word
module _ (form slot : List ℕ) where
  pub other_length : (word4 (drop length_at slot) ≡ length form → ⊥) → holds_form form slot ≡ false
  unfolding holds_form
  other_length n = rw (ne_eqb (word4 (drop length_at slot)) (length form) n)

  pub same_length : word4 (drop length_at slot) ≡ length form
      → holds_form form slot ≡ same (take (length form) slot) form
  unfolding holds_form
  same_length e = rw (eq-eqb (word4 (drop length_at slot)) (length form) e)

-- the search from slot k on, where n are left
module _ (form store : List ℕ) (n k : ℕ) where
  pub found_here : holds_form form (slot_at store k) ≡ true → find_form (suc n) k form store ≡ k
  unfolding find_form
  found_here e = rw e

  pub found_later : holds_form form (slot_at store k) ≡ false
      → find_form (suc n) k form store ≡ find_form n (k + 1) form store
  unfolding find_form
  found_later e = rw (e, add-one)

pub found_none : (form store : List ℕ) (k : ℕ) → find_form 0 k form store ≡ k
unfolding find_form
found_none form store k = refl

-- the slot that is written next
module _ (store : List ℕ) where
  pub next_there : word4 (drop next_at store) < slots_in store → next_slot store ≡ word4 (drop next_at store)
  unfolding next_slot
  next_there h = rw (lt-ltb (word4 (drop next_at store)) (slots_in store) h)

  pub next_first : slots_in store ≤ word4 (drop next_at store) → next_slot store ≡ 0
  unfolding next_slot
  next_first h = rw (le-ltb (word4 (drop next_at store)) (slots_in store) h)

-- the slot behind slot k
module _ (m k : ℕ) where
  pub after_next : k + 1 < m → slot_after m k ≡ k + 1
  unfolding slot_after
  after_next h = rw (lt-ltb (suc k) m (omega arith)) (sym (add-one k))

  pub after_last : m ≤ k + 1 → slot_after m k ≡ 0
  unfolding slot_after
  after_last h = rw (le-ltb (suc k) m (omega arith))
