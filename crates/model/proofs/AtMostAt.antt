-- A vector is at most another: number by number, and of two vectors in a row.
use mathlib.Core.Path.{◌≡◌, refl, ap, ◌∙◌}
use mathlib.Core.Bool.{Bool, ◌&&◌}
use mathlib.Core.List.{List, [], ◌∷◌, ◌++◌}
use Prim.Native.Nat.{ℕ, zero, suc, ◌≤◌, ◌<◌}
use native.Mathlib.Omega.{arith}
use lib.Dec.{leb}
use lib.ListN.{length, get_or}
use Rattle.model.specs.Vectors.{at_most}
use Rattle.model.proofs.Bits.{and_assoc}
use Rattle.model.proofs.Vectors.{AtMost}

pub at_most_each : (u v : List ℕ) → length u ≡ length v → ((j : ℕ) → j < length u → get_or u j 0 ≤ get_or v j 0)
    → AtMost u v
at_most_each [] v e h = tt
at_most_each (x ∷ u) [] e h = tt
at_most_each (x ∷ u) (y ∷ v) e h = (h 0 (omega arith), at_most_each u v (omega arith) (λ j l. h (suc j) (omega arith)))

pub at_most_at : (u v : List ℕ) → length u ≡ length v → AtMost u v → (j : ℕ) → j < length u
    → get_or u j 0 ≤ get_or v j 0
at_most_at [] v e h j l = absurd (omega arith)
at_most_at (x ∷ u) [] e h j l = absurd (omega arith)
at_most_at (x ∷ u) (y ∷ v) e h zero l = h.0
at_most_at (x ∷ u) (y ∷ v) e h (suc j) l = at_most_at u v (omega arith) h.1 j (omega arith)

pub at_most_parts : (u v a b : List ℕ) → length u ≡ length v → at_most (u ++ a) (v ++ b) ≡ (at_most u v && at_most a b)
unfolding at_most
at_most_parts [] [] a b e = refl
at_most_parts [] (y ∷ v) a b e = absurd (omega arith)
at_most_parts (x ∷ u) [] a b e = absurd (omega arith)
at_most_parts (x ∷ u) (y ∷ v) a b e =
    ap (λ (t : Bool). leb x y && t) (at_most_parts u v a b (omega arith))
    ∙ and_assoc (leb x y) (at_most u v) (at_most a b)
