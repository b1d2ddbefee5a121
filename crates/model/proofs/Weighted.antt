-- The weighted sum: it grows with its vector, adds up, and has a limit; where every weight is at least 1, a vector that
-- beats another has the smaller sum.
use mathlib.Core.Path.{◌≡◌, refl}
use mathlib.Core.Logic.{⊎_elim}
use mathlib.Core.List.{List, [], ◌∷◌}
use Prim.Native.Nat.{ℕ, ◌+◌, ◌*◌, ◌≤◌, ◌<◌}
use native.Mathlib.Nat.{suc-mul, mul-add, mul-le-mul, mul-le-mul_left, mul-lt-mul_of_pos_left}
use native.Mathlib.Omega.{arith}
use lib.Dec.{ltb}
use lib.ListN.{length}
use borrow.Author.Tests.{ltb-true, ltb-false}
use Rattle.model.specs.Basics.{All}
use Rattle.model.specs.Vectors.{added}
use Rattle.model.specs.Archive.{weighted}
use Rattle.model.proofs.Bits.{test}
use Rattle.model.proofs.Vectors.{AtMost}

pub weighted_mono : (ws u v : List ℕ) → length u ≡ length v → AtMost u v → weighted ws u ≤ weighted ws v
unfolding weighted
weighted_mono [] u v e h = omega arith
weighted_mono (w ∷ ws) [] v e h = omega arith
weighted_mono (w ∷ ws) (x ∷ u) [] e h = absurd (omega arith)
weighted_mono (w ∷ ws) (x ∷ u) (y ∷ v) e h =
    omega (arith, mul-le-mul_left w h.0, weighted_mono ws u v (omega arith) h.1)

-- the weights that count are at least 1
pub weighted_strict : (ws u v : List ℕ) → length u ≡ length v → length u ≤ length ws → All (λ w. 1 ≤ w) ws → AtMost u v
    → (u ≡ v → ⊥) → weighted ws u < weighted ws v
unfolding weighted
weighted_strict ws [] [] e l p h n = absurd (n refl)
weighted_strict ws [] (y ∷ v) e l p h n = absurd (omega arith)
weighted_strict ws (x ∷ u) [] e l p h n = absurd (omega arith)
weighted_strict [] (x ∷ u) (y ∷ v) e l p h n = absurd (omega arith)
weighted_strict (w ∷ ws) (x ∷ u) (y ∷ v) e l p h n =
    ⊎_elim
    (λ t. omega (arith, mul-lt-mul_of_pos_left (ltb-true x y t) p.0, weighted_mono ws u v (omega arith) h.1))
    (λ t.
    let same : x ≡ y = omega (arith, ltb-false x y t) in
    omega (
      arith,
      mul-le-mul_left w h.0,
      weighted_strict ws u v (omega arith) (omega arith) p.1 h.1 (λ r. n (cc)),
    ))
    (test (ltb x y))

pub weighted_added : (ws u v : List ℕ) → length u ≡ length v → weighted ws (added u v) ≡ weighted ws u + weighted ws v
unfolding weighted added
weighted_added [] u v e = refl
weighted_added (w ∷ ws) [] [] e = refl
weighted_added (w ∷ ws) [] (y ∷ v) e = absurd (omega arith)
weighted_added (w ∷ ws) (x ∷ u) [] e = absurd (omega arith)
weighted_added (w ∷ ws) (x ∷ u) (y ∷ v) e = omega (arith, mul-add w x y, weighted_added ws u v (omega arith))

-- a sum of numbers below m with weights up to w
pub weighted_limit : (w m : ℕ) (ws u : List ℕ) → All (λ k. k ≤ w) ws → All (λ c. c < m) u
    → weighted ws u ≤ length u * (w * m)
unfolding weighted
weighted_limit w m [] u h k = omega arith
weighted_limit w m (x ∷ ws) [] h k = omega arith
weighted_limit w m (x ∷ ws) (c ∷ u) h k =
    let small : c ≤ m = omega (arith, k.0) in
    omega (arith, mul-le-mul h.0 small, suc-mul (length u) (w * m), weighted_limit w m ws u h.1 k.1)
