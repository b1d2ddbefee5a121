-- List order of lists of one length is std's order of slices: the first pair of numbers that differ decides.
use Rattle.std.proofs.Common.{◌≡◌, refl, arith, Bool, true, false, ◌&&◌, ◌||◌, List, [], ◌∷◌, ℕ, ◌≤◌, length, take}
use Rattle.std.specs.Prelude.{cond, nat_lt, ◌==◌}
use Rattle.std.specs.Ordering.{nat_cmp, is_lt, ordering_then}
use Rattle.std.proofs.Common.{Ordering, Less, Equal, Greater}
use Rattle.std.specs.Cmp.Lexicographic.{slice_cmp}
use Rattle.model.specs.Vectors.{earlier}
use Rattle.vectors.specs.Fronts.{front_earlier}
use Rattle.vectors.proofs.Fronts.{fronts}

-- whether std says that xs comes before ys
abbrev before : List ℕ → List ℕ → Bool
before xs ys = is_lt (slice_cmp nat_cmp xs ys)

-- one pair of numbers, of which the first is smaller (l) or the same (e), and the rest
step : (l e : Bool) (o : Ordering) {r : Bool} → is_lt o ≡ r
    → is_lt (ordering_then (cond l Less (cond e Equal Greater)) o) ≡ l || (e && r)
step true e o h = refl
step false true o h = h
step false false o h = refl

before_earlier : (xs ys : List ℕ) → length xs ≡ length ys → before xs ys ≡ earlier xs ys
unfolding earlier
before_earlier [] [] h = refl
before_earlier [] (y ∷ ys) h = absurd (omega arith)
before_earlier (x ∷ xs) [] h = refl
before_earlier (x ∷ xs) (y ∷ ys) h = step (nat_lt x y) (x == y) _ (before_earlier xs ys (omega arith))

-- by the first p numbers
pub front_before : (p : ℕ) (a b : List ℕ) → p ≤ length a → p ≤ length b
    → before (take p a) (take p b) ≡ front_earlier p a b
front_before p a b la lb = before_earlier (take p a) (take p b) (fronts p a b la lb)
