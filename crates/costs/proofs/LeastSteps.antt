-- The least entry, one variable and one value at a time.
use mathlib.Core.Path.{◌≡◌, refl}
use mathlib.Core.List.{List, [], ◌∷◌}
use Prim.Native.Nat.{ℕ, zero, suc, ◌+◌, ◌-◌, ◌*◌, ◌≤◌, ◌<◌, min}
use native.Mathlib.Omega.{arith}
use borrow.Author.Tests.{lt-ltb, le-ltb}
use lib.ListN.{length, get_or}
use Rattle.model.specs.Bounds.{least_to, least_from}

-- the least of f 0 to f i, from that of those before; for f 0 from itself
least_next : (i : ℕ) (f : ℕ → ℕ) → least_to (i + 1 - 1) f ≡ min (least_to (i - 1) f) (f i)
unfolding least_to
least_next zero f = omega arith
least_next (suc i) f =
    let a : suc i + 1 - 1 ≡ suc i = omega arith in
    let b : suc i - 1 ≡ i = omega arith in
    rw (a, b)

-- the same of numbers that are known: the least so far, the next one, and the lesser of both
pub least_grown : (i : ℕ) (f : ℕ → ℕ) {least next both : ℕ} → least ≡ least_to (i - 1) f → next ≡ f i
    → both ≡ min least next → both ≡ least_to (i + 1 - 1) f
least_grown i f e n b = rw (least_next i f, b, e, n)

-- where no variable is left, the entry
pub least_none : (ds pre : List ℕ) (entry : ℕ → ℕ) (i : ℕ) → least_from ds pre entry i [] ≡ entry i
unfolding least_from
least_none ds pre entry i = refl

-- else the prefix's value of the first variable, or the least over its domain
module _ (ds pre : List ℕ) (entry : ℕ → ℕ) (i v : ℕ) (vs : List ℕ) where
  pub least_fixed : v < length pre
      → least_from ds pre entry i (v ∷ vs) ≡ least_from ds pre entry (i * get_or ds v 0 + get_or pre v 0) vs
  unfolding least_from
  least_fixed h = rw (lt-ltb v (length pre) h)

  pub least_free : length pre ≤ v
      → least_from ds pre entry i (v ∷ vs)
      ≡ least_to (get_or ds v 0 - 1) (λ a. least_from ds pre entry (i * get_or ds v 0 + a) vs)
  unfolding least_from
  least_free h = rw (le-ltb v (length pre) h)
