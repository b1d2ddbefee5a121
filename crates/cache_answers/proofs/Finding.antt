-- Finding a form among the slots of a store, where it is known which form each slot holds.
use mathlib.Core.Path.{◌≡◌, refl, sym, subst}
use mathlib.Core.Bool.{Bool, true, false, ◌||◌, false≢true}
use mathlib.Core.List.{List, [], ◌∷◌, ◌++◌}
use Prim.Native.Nat.{ℕ, suc, ◌+◌, ◌*◌, ◌≤◌, ◌<◌}
use native.Mathlib.Omega.{arith}
use lib.ListN.{length}
use Rattle.model.specs.Basics.{pick}
use Rattle.model.specs.Reading.{problem_of}
use Rattle.model.specs.Vectors.{same}
use Rattle.model.proofs.Vectors.{same_true}
use Rattle.cache_answers.specs.Stores.{slot_size, find_form, Answer, solved}
use Rattle.cache_answers.specs.Runs.{is_among}
use Rattle.cache_answers.proofs.Ring.{is_one_of}
use Rattle.cache_answers.proofs.Slots.{Holds, SameSlot, holds_kept}
use Rattle.cache_answers.proofs.Reading.{holds_form_lem}

-- the answer of the problem that a form holds; none for the empty list, which is no form
unfoldable pub answer_of : List ℕ → Answer
answer_of [] = record { count = 0; costs = []; choices = [] }
answer_of (b ∷ bs) = solved (problem_of (b ∷ bs))

-- the slots from number k on hold some forms and their answers
abbrev pub SlotsHold : List ℕ → ℕ → List (List ℕ) → Type 0
SlotsHold store k [] = Unit {0}
SlotsHold store k (f ∷ fs) = Holds store (slot_size * k) f (answer_of f) × SlotsHold store (suc k) fs

-- ## finding

pub record Found (store : List ℕ) (end : ℕ) (form : List ℕ) (k : ℕ) : Type 0 where
  pub inside : k < end
  pub held : Holds store (slot_size * k) form (answer_of form)

module _ (store form : List ℕ) where
  pub find_none : (k : ℕ) (fs : List (List ℕ)) → SlotsHold store k fs → is_one_of form fs ≡ false
      → find_form (length fs) k form store ≡ k + length fs
  unfolding find_form is_among
  find_none k [] h e = omega arith
  find_none k (f ∷ fs) h e =
      rw (holds_form_lem store (slot_size * k) f (answer_of f) h.0 form)
      (go (same f form) e (find_none (suc k) fs h.1))
    where
      go : (b : Bool) → (b || is_one_of form fs) ≡ false
          → (is_one_of form fs ≡ false → find_form (length fs) (suc k) form store ≡ suc k + length fs)
          → pick b k (find_form (length fs) (suc k) form store) ≡ k + suc (length fs)
      go true e more = absurd (false≢true (sym e))
      go false e more = omega (arith, more e)

  pub find_some : (k : ℕ) (fs : List (List ℕ)) → SlotsHold store k fs → is_one_of form fs ≡ true
      → Found store (k + length fs) form (find_form (length fs) k form store)
  unfolding find_form is_among
  find_some k [] h e = absurd (false≢true e)
  find_some k (f ∷ fs) h e =
      rw (holds_form_lem store (slot_size * k) f (answer_of f) h.0 form)
      (go (same f form) refl e (find_some (suc k) fs h.1))
    where
      go : (b : Bool) → same f form ≡ b → (b || is_one_of form fs) ≡ true
          → (is_one_of form fs ≡ true → Found store (suc k + length fs) form (find_form (length fs) (suc k) form store))
          → Found store (k + suc (length fs)) form (pick b k (find_form (length fs) (suc k) form store))
      go true t e more =
          record {
            inside = omega arith;
            held = subst (λ (g : List ℕ). Holds store (slot_size * k) g (answer_of g)) (same_true f form t) h.0;
          }
      go false t e more =
          let r = more e in
          record { inside = omega (arith, r.inside); held = r.held }

-- ## a slot written

-- slots that are the same in another store
slots_kept : (store store' : List ℕ) (k : ℕ) (fs : List (List ℕ))
    → ((j : ℕ) → k ≤ j → SameSlot (slot_size * j) store store') → SlotsHold store k fs → SlotsHold store' k fs
slots_kept store store' k [] same h = tt
slots_kept store store' k (f ∷ fs) same h = (
  holds_kept store store' (slot_size * k) f (answer_of f) (same k (omega arith)) h.0,
  slots_kept store store' (suc k) fs (λ j l. same j (omega (arith, l))) h.1,
)

pub slots_written : (store store' : List ℕ) (k : ℕ) (before : List (List ℕ)) (old form : List ℕ)
    (after : List (List ℕ)) → ((j : ℕ) → (j ≡ k + length before → ⊥) → SameSlot (slot_size * j) store store')
    → Holds store' (slot_size * (k + length before)) form (answer_of form)
    → SlotsHold store k (before ++ (old ∷ after)) → SlotsHold store' k (before ++ (form ∷ after))
slots_written store store' k [] old form after same new h =
    let here : k + 0 ≡ k = omega arith in (
      subst (λ (j : ℕ). Holds store' (slot_size * j) form (answer_of form)) here new,
      slots_kept store store' (suc k) after (λ j l. same j (λ e. omega (arith, l, e))) h.1,
    )
slots_written store store' k (f ∷ before) old form after same new h =
    let there : k + suc (length before) ≡ suc k + length before = omega arith in (
      holds_kept store store' (slot_size * k) f (answer_of f) (same k (λ e. omega (arith, e))) h.0,
      slots_written store store' (suc k) before old form after (λ j n. same j (λ e. n (omega (arith, e))))
          (subst (λ (j : ℕ). Holds store' (slot_size * j) form (answer_of form)) there new) h.1,
    )
