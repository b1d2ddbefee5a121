-- Numbers that are marked as they are met: one is met twice as soon as a mark is found.
use mathlib.Core.Path.{◌≡◌, refl, ap, ◌∙◌}
use mathlib.Core.Logic.{⊎_elim}
use mathlib.Core.Bool.{Bool, true, false, ◌||◌}
use mathlib.Core.List.{List, [], ◌∷◌}
use Prim.Native.Nat.{ℕ, ◌<◌}
use lib.Dec.{eqb}
use lib.ListN.{length, get_or, set, replicate, length-set, length-replicate, get_or-replicate}
use lib.Seq.{get_or-set_same, get_or-set_other}
use borrow.Author.Tests.{eqb-true, eqb-false}
use Rattle.model.specs.Basics.{All}
use Rattle.model.specs.Problems.{has_variable}
use Rattle.model.proofs.Bits.{test}
use Rattle.text_networks.specs.Networks.{repeated}

-- a number is marked, or met again later
unfoldable pub meets : List Bool → List ℕ → Bool
meets met [] = false
meets met (i ∷ is) = get_or met i false || meets (set met i true) is

-- some number is marked already
marked : List Bool → List ℕ → Bool
marked met [] = false
marked met (i ∷ is) = get_or met i false || marked met is

Below : List Bool → List ℕ → Type 0
Below met is = All (λ i. i < length met) is

-- a mark more is found by those that are the same
mark_at : (met : List Bool) (i j : ℕ) → i < length met
    → get_or (set met i true) j false ≡ (eqb j i || get_or met j false)
mark_at met i j h =
    ⊎_elim
    (λ (t : eqb j i ≡ true).
    let e : j ≡ i = eqb-true j i t in
    rw (t, e) (get_or-set_same met i true false h))
    (λ (f : eqb j i ≡ false). rw f (get_or-set_other met i j true false (eqb-false j i f))) (test (eqb j i))

or_swap : (a b c d : Bool) → ((a || b) || (c || d)) ≡ ((a || c) || (b || d))
or_swap true b c d = refl
or_swap false true true d = refl
or_swap false true false d = refl
or_swap false false c d = refl

mark_more : (met : List Bool) (i : ℕ) (is : List ℕ) → i < length met
    → marked (set met i true) is ≡ (has_variable i is || marked met is)
unfolding marked has_variable
mark_more met i [] h = refl
mark_more met i (j ∷ is) h =
    rw (mark_at met i j h, mark_more met i is h)
    (or_swap (eqb j i) (get_or met j false) (has_variable i is) (marked met is))

meets_marked : (met : List Bool) (is : List ℕ) → Below met is → meets met is ≡ (marked met is || repeated is)
unfolding meets marked repeated Below
meets_marked met [] h = refl
meets_marked met (i ∷ is) h =
    let more = set met i true in
    ap (λ (b : Bool). get_or met i false || b)
    (meets_marked more is (rw (length-set met i true) h.1)
    ∙ ap (λ (b : Bool). b || repeated is) (mark_more met i is h.0))
    ∙ reorder (get_or met i false) (has_variable i is) (marked met is) (repeated is)
  where
    reorder : (a b c d : Bool) → (a || ((b || c) || d)) ≡ ((a || c) || (b || d))
    reorder true b c d = refl
    reorder false true true d = refl
    reorder false true false d = refl
    reorder false false c d = refl

none_marked : (n : ℕ) (is : List ℕ) → All (λ i. i < n) is → marked (replicate n false) is ≡ false
unfolding marked
none_marked n [] h = refl
none_marked n (i ∷ is) h = rw (get_or-replicate n i false false h.0) (none_marked n is h.1)

pub meets_none : (n : ℕ) (is : List ℕ) → All (λ i. i < n) is → meets (replicate n false) is ≡ repeated is
unfolding Below
meets_none n is h =
    meets_marked (replicate n false) is (rw (length-replicate n false) h)
    ∙ ap (λ (b : Bool). b || repeated is) (none_marked n is h)
