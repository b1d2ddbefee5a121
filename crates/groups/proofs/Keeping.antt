-- What is kept of a list by a test: over lists in a row, over one number more; what all have, those kept have.
use mathlib.Core.Path.{◌≡◌, refl, sym, ap, ◌∙◌}
use mathlib.Core.Bool.{Bool, true, false}
use mathlib.Core.List.{List, [], ◌∷◌, ◌++◌}
use Prim.Native.Nat.{ℕ, ◌+◌, ◌≤◌, ◌<◌}
use native.Mathlib.Omega.{arith}
use native.Mathlib.Numerals.{add-one}
use lib.ListN.{length, get_or, take, drop, length-append, take-append-drop}
use lib.Seq.{take-suc}
use Rattle.model.specs.Basics.{All, keep_if}
use Rattle.model.specs.Problems.{has_variable}
use Rattle.model.specs.Reading.{table_scope}
use Rattle.model.proofs.Bits.{keep_append, keep_all, keep_few}
use Rattle.groups.specs.Groups.{group_of}

-- `of` keeps, in order, the numbers that pass the test
pub record Keeps (test : ℕ → Bool) (of : List ℕ → List ℕ) : Type 0 where
  pub none : of [] ≡ []
  pub next : (x : ℕ) (xs : List ℕ) → of (x ∷ xs) ≡ keep_if (test x) x (of xs)

module _ {test : ℕ → Bool} {of : List ℕ → List ℕ} (k : Keeps test of) where
  keeps_append : (xs ys : List ℕ) → of (xs ++ ys) ≡ of xs ++ of ys
  keeps_append [] ys = rw k.none
  keeps_append (x ∷ xs) ys =
      rw (k.next x (xs ++ ys), k.next x xs, keeps_append xs ys) (keep_append (test x) x (of xs) (of ys))

  pub keeps_all : (P : ℕ → Type 0) (xs : List ℕ) → All P xs → All P (of xs)
  keeps_all P [] h = rw k.none tt
  keeps_all P (x ∷ xs) h = rw (k.next x xs) (keep_all P (test x) x (of xs) h.0 (keeps_all P xs h.1))

  pub keeps_few : (xs : List ℕ) → length (of xs) ≤ length xs
  keeps_few [] = rw k.none (omega arith)
  keeps_few (x ∷ xs) = rw (k.next x xs) (omega (arith, keep_few (test x) x (of xs), keeps_few xs))

  -- what is kept of the first numbers is part of the whole
  pub keeps_part : (i : ℕ) (xs : List ℕ) → length (of (take i xs)) ≤ length (of xs)
  keeps_part i xs =
      let e : length (of xs) ≡ length (of (take i xs)) + length (of (drop i xs)) =
      ap (λ (l : List ℕ). length (of l)) (sym (take-append-drop i xs))
      ∙ ap length (keeps_append (take i xs) (drop i xs))
      ∙ length-append (of (take i xs)) (of (drop i xs)) in
      omega arith

  module _ (i : ℕ) (xs : List ℕ) (h : i < length xs) where
    keeps_next : of (take (i + 1) xs) ≡ of (take i xs) ++ keep_if (test (get_or xs i 0)) (get_or xs i 0) []
    keeps_next =
        rw (add-one, take-suc xs i 0 h)
        (keeps_append (take i xs) (get_or xs i 0 ∷ []) ∙ rw (k.next (get_or xs i 0) [], k.none))

    pub keeps_with : test (get_or xs i 0) ≡ true → of (take (i + 1) xs) ≡ of (take i xs) ++ get_or xs i 0 ∷ []
    keeps_with e = rw e at keeps_next

    pub keeps_without : test (get_or xs i 0) ≡ false → of (take (i + 1) xs) ≡ of (take i xs) ++ []
    keeps_without e = rw e at keeps_next

-- a group keeps the places of the records whose scope has the variable
abbrev pub touches : List ℕ → ℕ → ℕ → Bool
touches s v at = has_variable v (table_scope (drop at s))

pub group_keeps : (s : List ℕ) (v : ℕ) → Keeps (touches s v) (group_of s v)
unfolding group_of
group_keeps s v = record { none = refl; next = λ x xs. refl }
