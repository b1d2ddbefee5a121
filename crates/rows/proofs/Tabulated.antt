-- The numbers that a function gives in turn: how many, each of them, a front of them, and when two such lists are
-- equal.
use mathlib.Core.Path.{◌≡◌, refl, sym, ap, ◌∙◌}
use mathlib.Core.List.{List, ◌∷◌}
use Prim.Native.Nat.{ℕ, zero, suc, ◌+◌, ◌≤◌, ◌<◌}
use native.Mathlib.Omega.{arith}
use native.Mathlib.Nat.{add-zero, zero-add}
use lib.ListN.{length, get_or, take}
use lib.Seq.{ext_get_or}
use Rattle.rows.specs.Rows.{tabulated}

module _ (f : ℕ → ℕ) where
  pub tabulated_length : (i k : ℕ) → length (tabulated f i k) ≡ k
  unfolding tabulated
  tabulated_length i zero = refl
  tabulated_length i (suc k) = ap suc (tabulated_length (i + 1) k)

  pub tabulated_at : (i k j d : ℕ) → j < k → get_or (tabulated f i k) j d ≡ f (i + j)
  unfolding tabulated
  tabulated_at i zero j d l = absurd (omega arith)
  tabulated_at i (suc k) zero d l = rw add-zero
  tabulated_at i (suc k) (suc j) d l =
      let e : i + 1 + j ≡ i + suc j = omega arith in
      rw e at (tabulated_at (i + 1) k j d (omega arith))

  pub tabulated_take : (p i k : ℕ) → p ≤ k → take p (tabulated f i k) ≡ tabulated f i p
  unfolding tabulated
  tabulated_take zero i k l = refl
  tabulated_take (suc p) i zero l = absurd (omega arith)
  tabulated_take (suc p) i (suc k) l = ap (◌∷◌ (f i)) (tabulated_take p (i + 1) k (omega arith))

-- equal number by number, to another list and to what another function gives
pub tabulated_is : (f : ℕ → ℕ) (xs : List ℕ) (k : ℕ) → length xs ≡ k → ((j : ℕ) → j < k → f j ≡ get_or xs j 0)
    → tabulated f 0 k ≡ xs
tabulated_is f xs k e each =
    ext_get_or 0 (tabulated f 0 k) xs (tabulated_length f 0 k ∙ sym e) (λ j h.
    let below : j < k = omega (arith, tabulated_length f 0 k) in
    tabulated_at f 0 k j 0 below ∙ rw zero-add (each j below))

pub tabulated_same : (f g : ℕ → ℕ) (k : ℕ) → ((j : ℕ) → j < k → f j ≡ g j) → tabulated f 0 k ≡ tabulated g 0 k
tabulated_same f g k each =
    tabulated_is f (tabulated g 0 k) k (tabulated_length g 0 k) (λ j l.
    each j l ∙ sym (tabulated_at g 0 k j 0 l ∙ rw zero-add))
