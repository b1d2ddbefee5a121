-- What is read of a slot that holds a form and its answer: whether it holds a form, and the answer.
use mathlib.Core.Path.{◌≡◌, refl, sym, ap, ◌∙◌}
use mathlib.Core.Bool.{Bool, true, false, ◌&&◌}
use mathlib.Core.List.{List, [], ◌∷◌, ◌++◌}
use Prim.Native.Nat.{ℕ, ◌+◌, ◌*◌, min}
use native.Mathlib.Omega.{arith}
use lib.Dec.{eqb}
use lib.ListN.{length, get_or, take, drop, take-append-drop}
use lib.Seq.{drop-drop}
use borrow.Author.Tests.{eqb-true, eqb-false}
use Rattle.model.specs.Limits.{max_points}
use Rattle.model.specs.Problems.{Problem}
use Rattle.model.specs.Encoding.{two_bytes, four_bytes, word_bytes}
use Rattle.model.specs.Reading.{word4, words_in}
use Rattle.model.specs.Vectors.{same}
use Rattle.model.proofs.Bits.{not_true_false}
use Rattle.model.proofs.Vectors.{same_true}
use Rattle.model.proofs.Words.{words_read}
use Rattle.cache_answers.specs.Stores.{costs_at, choices_at, length_at, count_at, holds_form, Answer, loaded}
use Rattle.cache_answers.proofs.Slots.{Stands, Holds}

stands_first : (bytes : List ℕ) (at : ℕ) (store : List ℕ) → Stands bytes at store
    → drop at store ≡ bytes ++ drop (length bytes) (drop at store)
stands_first bytes at store h =
    sym (take-append-drop (length bytes) (drop at store))
    ∙ ap (λ (l : List ℕ). l ++ drop (length bytes) (drop at store)) h

four_read : (x : ℕ) (rest : List ℕ) → word4 (four_bytes x ++ rest) ≡ x
unfolding two_bytes four_bytes word_bytes words_in
four_read x rest = ap (λ (l : List ℕ). get_or l 0 0) (words_read (x ∷ []) rest)

pub word_read : (store : List ℕ) (at x : ℕ) → Stands (four_bytes x) at store → word4 (drop at store) ≡ x
word_read store at x h =
    let bytes = four_bytes x in
    ap word4 (stands_first bytes at store h) ∙ four_read x (drop (length bytes) (drop at store))

-- a part of the slot at a place of the store
part_at : (store : List ℕ) (at p : ℕ) → drop p (drop at store) ≡ drop (at + p) store
part_at store at p = drop-drop p at store

module _ (store : List ℕ) (at : ℕ) (held : List ℕ) (a : Answer) (h : Holds store at held a) where
  -- it holds that form alone
  pub holds_form_lem : (form : List ℕ) → holds_form form (drop at store) ≡ same held form
  unfolding holds_form
  holds_form_lem form =
      rw (part_at store at length_at, word_read store (at + length_at) (length held) h.long)
      (go (eqb (length held) (length form)) refl)
    where
      go : (b : Bool) → eqb (length held) (length form) ≡ b
          → (b && same (take (length form) (drop at store)) form) ≡ same held form
      go true e =
          ap (λ (l : List ℕ). same l form)
          (ap (λ (n : ℕ). take n (drop at store)) (sym (eqb-true (length held) (length form) e)) ∙ h.bytes)
      go false e =
          sym (not_true_false (same held form) (λ t. eqb-false _ _ e (ap length (same_true held form t))))

  -- and its answer, read for a problem with as many objectives and variables
  pub holds_answer : (q : Problem) → length a.costs ≡ a.count * q.objectives
      → length a.choices ≡ a.count * length q.domains → loaded q (drop at store) ≡ a
  unfolding loaded
  holds_answer q costs_long choices_long =
      rw count_read (λ i. record { count = a.count; costs = costs_read i; choices = choices_read i })
    where
      count_read : min (word4 (drop count_at (drop at store))) max_points ≡ a.count
      count_read =
          rw (part_at store at count_at, word_read store (at + count_at) a.count h.count)
          (omega (arith, h.fits.few_points))

      costs_read : words_in (a.count * q.objectives) (drop costs_at (drop at store)) ≡ a.costs
      costs_read =
          let bytes = word_bytes a.costs in
          rw (← costs_long)
          (ap (words_in (length a.costs))
          (part_at store at costs_at ∙ stands_first bytes (at + costs_at) store h.costs)
          ∙ words_read a.costs (drop (length bytes) (drop (at + costs_at) store)))

      choices_read : take (a.count * length q.domains) (drop choices_at (drop at store)) ≡ a.choices
      choices_read = rw (← choices_long) (ap (take (length a.choices)) (part_at store at choices_at) ∙ h.choices)
