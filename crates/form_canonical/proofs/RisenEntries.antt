-- A table over a rising scope lists its entries by the choices of the scope's variables, with 0 for all others: as many
-- as those choices, and each at the place of its choice.
use mathlib.Core.Path.{◌≡◌, refl, ap₂, ◌∙◌}
use mathlib.Core.Bool.{Bool, true, false, false≢true}
use mathlib.Core.List.{List, [], ◌∷◌}
use Prim.Native.Nat.{ℕ, zero, suc, ◌+◌, ◌*◌, ◌≤◌}
use native.Mathlib.Omega.{arith}
use native.Mathlib.Nat.{add-zero, zero-add, add-suc, suc-add, add-mul, mul_assoc, one-mul}
use lib.Dec.{ltb}
use lib.ListN.{length, get_or}
use borrow.Author.Tests.{ltb-true, lt-ltb}
use Rattle.model.specs.Basics.{pick, keep_if, All}
use Rattle.model.specs.Problems.{has_variable, size_of}
use Rattle.model.specs.Costs.{is_choice, entry_from}
use Rattle.model.proofs.Bits.{and_left, and_right, and_both, pick_both}
use Rattle.model.proofs.Elements.{all_map}
use Rattle.model.proofs.LeastEntry.{entry_same}
use Rattle.form_canonical.specs.Canonical.{risen, sizes_within}
use Rattle.form_canonical.proofs.ChoicePlaces.{product, place_of}
use Rattle.form_canonical.proofs.RisenScopes.{has_each}

-- the values from variable v on, and 0 for a variable that the scope does not have
unfoldable pub values_within : ℕ → List ℕ → List ℕ → List ℕ
values_within v vs [] = []
values_within v vs (x ∷ xs) = pick (has_variable v vs) x 0 ∷ values_within (suc v) vs xs

-- ## they are choices

pub within_choice : (v : ℕ) (ds vs xs : List ℕ) → is_choice ds xs ≡ true
    → is_choice (sizes_within v ds vs) (values_within v vs xs) ≡ true
unfolding sizes_within values_within is_choice
within_choice v [] vs [] h = refl
within_choice v [] vs (x ∷ xs) h = absurd (false≢true h)
within_choice v (d ∷ ds) vs [] h = absurd (false≢true h)
within_choice v (d ∷ ds) vs (x ∷ xs) h =
    and_both (go (has_variable v vs)) (within_choice (suc v) ds vs xs (and_right (ltb x d) _ h))
  where
    go : (b : Bool) → ltb (pick b x 0) (pick b d 1) ≡ true
    go true = and_left (ltb x d) _ h
    go false = lt-ltb 0 1 (omega arith)

-- and choices of all variables too
pub choice_within : (v : ℕ) (ds vs xs : List ℕ) → All (λ d. 1 ≤ d) ds → is_choice (sizes_within v ds vs) xs ≡ true
    → is_choice ds xs ≡ true
unfolding sizes_within is_choice
choice_within v [] vs xs low h = h
choice_within v (d ∷ ds) vs [] low h = h
choice_within v (d ∷ ds) vs (x ∷ xs) low h =
    let size = pick (has_variable v vs) d 1 in
    let most : size ≤ d = pick_both (λ n. n ≤ d) (has_variable v vs) (omega arith) low.0 in
    and_both (lt-ltb x d (omega (arith, ltb-true x size (and_left (ltb x size) _ h))))
    (choice_within (suc v) ds vs xs low.1 (and_right (ltb x size) _ h))

-- ## they have the same values on the scope, so the same entry

within_at : (v : ℕ) (vs xs : List ℕ) (i : ℕ) → has_variable (v + i) vs ≡ true
    → get_or (values_within v vs xs) i 0 ≡ get_or xs i 0
unfolding values_within
within_at v vs [] i h = refl
within_at v vs (x ∷ xs) zero h = rw (rw add-zero at h)
within_at v vs (x ∷ xs) (suc i) h = within_at (suc v) vs xs i (rw (suc-add, ← add-suc) h)

pub within_entry : (ds vs xs : List ℕ) → entry_from 0 ds vs (values_within 0 vs xs) ≡ entry_from 0 ds vs xs
within_entry ds vs xs =
    entry_same ds ds (values_within 0 vs xs) xs 0 vs
    (all_map (λ v. has_variable v vs ≡ true)
    (λ v. (get_or ds v 0 ≡ get_or ds v 0) × (get_or (values_within 0 vs xs) v 0 ≡ get_or xs v 0))
    (λ v h. (refl, within_at 0 vs xs v (rw zero-add h))) vs (has_each vs))

-- ## places

-- what is left of a list from place v on
abbrev From : ℕ → List ℕ → List ℕ → Type 0
From v all xs = (i : ℕ) → get_or all (v + i) 0 ≡ get_or xs i 0

from_head : (v : ℕ) (all xs : List ℕ) (x : ℕ) → From v all (x ∷ xs) → get_or all v 0 ≡ x
from_head v all xs x h = rw add-zero at (h 0)

from_tail : (v : ℕ) (all xs : List ℕ) (x : ℕ) → From v all (x ∷ xs) → From (suc v) all xs
from_tail v all xs x h i = rw (suc-add, ← add-suc) (h (suc i))

from_all : (all : List ℕ) → From 0 all all
from_all all i = rw zero-add refl

module _ (all vs : List ℕ) where
  size_from : (v : ℕ) (ds : List ℕ) → From v all ds → product (sizes_within v ds vs) ≡ size_of all (risen v ds vs)
  unfolding risen sizes_within size_of
  size_from v [] h = refl
  size_from v (d ∷ ds) h = go (has_variable v vs) (size_from (suc v) ds (from_tail v all ds d h))
    where
      go : (b : Bool) → product (sizes_within (suc v) ds vs) ≡ size_of all (risen (suc v) ds vs)
          → pick b d 1 * product (sizes_within (suc v) ds vs) ≡ size_of all (keep_if b v (risen (suc v) ds vs))
      go true rest = rw (from_head v all ds d h, rest)
      go false rest = one-mul (product (sizes_within (suc v) ds vs)) ∙ rest

  module _ (zs : List ℕ) where
    entry_from_lem : (i v : ℕ) (ds xs : List ℕ) → length xs ≡ length ds → From v all ds → From v zs xs
        → entry_from i all (risen v ds vs) zs
        ≡ i * product (sizes_within v ds vs) + place_of (sizes_within v ds vs) (values_within v vs xs)
    unfolding risen sizes_within values_within entry_from
    entry_from_lem i v [] xs e h k = omega arith
    entry_from_lem i v (d ∷ ds) [] e h k = absurd (omega arith)
    entry_from_lem i v (d ∷ ds) (x ∷ xs) e h k =
        go (has_variable v vs)
        (λ j. entry_from_lem j (suc v) ds xs (omega arith) (from_tail v all ds d h) (from_tail v zs xs x k))
      where
        sizes : List ℕ
        sizes = sizes_within (suc v) ds vs

        values : List ℕ
        values = values_within (suc v) vs xs

        go : (b : Bool)
            → ((j : ℕ) → entry_from j all (risen (suc v) ds vs) zs ≡ j * product sizes + place_of sizes values)
            → entry_from i all (keep_if b v (risen (suc v) ds vs)) zs
            ≡ i * (pick b d 1 * product sizes) + (pick b x 0 * product sizes + place_of sizes values)
        go true rest =
            ap₂ (λ (a b : ℕ). entry_from (i * a + b) all (risen (suc v) ds vs) zs) (from_head v all ds d h)
            (from_head v zs xs x k)
            ∙ rest (i * d + x)
            ∙ omega (arith, add-mul (i * d) x (product sizes), mul_assoc i d (product sizes))
        go false rest = rest i ∙ rw one-mul (omega arith)

pub risen_entry : (ds vs xs : List ℕ) → length xs ≡ length ds
    → entry_from 0 ds (risen 0 ds vs) xs ≡ place_of (sizes_within 0 ds vs) (values_within 0 vs xs)
risen_entry ds vs xs e =
    omega (arith, entry_from_lem ds vs xs 0 0 ds xs e (from_all ds) (from_all xs))

pub risen_entries : (ds vs : List ℕ) → product (sizes_within 0 ds vs) ≡ size_of ds (risen 0 ds vs)
risen_entries ds vs = size_from ds vs 0 ds (from_all ds)
