-- Lists of zeros: what stands in them, their fronts, and the choice of zeros, the first of all.
use mathlib.Core.Path.{◌≡◌, refl, ap}
use mathlib.Core.Bool.{true}
use mathlib.Core.List.{List, [], ◌∷◌, ◌++◌}
use Prim.Native.Nat.{ℕ, zero, suc, ◌≤◌}
use native.Mathlib.Omega.{arith}
use lib.ListN.{length, get_or, take, set, replicate}
use borrow.Author.Tests.{lt-ltb}
use Rattle.model.specs.Basics.{All}
use Rattle.model.specs.Problems.{DomainSize}
use Rattle.model.specs.Costs.{is_choice}
use Rattle.model.proofs.Bits.{and_both}

pub zeros_at : (n j : ℕ) → ◌≡◌ {A = ℕ} (get_or (replicate n 0) j 0) 0
zeros_at zero j = refl
zeros_at (suc n) zero = refl
zeros_at (suc n) (suc j) = zeros_at n j

pub zeros_set : (n : ℕ) → set {A = ℕ} (replicate n 0) 0 0 ≡ replicate n 0
zeros_set zero = refl
zeros_set (suc n) = refl

-- zeros behind a list
pub behind_zeros : (xs : List ℕ) (n j : ℕ) → get_or (xs ++ replicate n 0) j 0 ≡ get_or xs j 0
behind_zeros [] n j = zeros_at n j
behind_zeros (x ∷ xs) n zero = refl
behind_zeros (x ∷ xs) n (suc j) = behind_zeros xs n j

-- the front of a list of one number
pub front_same : (n m a : ℕ) → n ≤ m → take n (replicate m a) ≡ replicate n a
front_same zero m a l = refl
front_same (suc n) zero a l = absurd (omega arith)
front_same (suc n) (suc m) a l = ap (◌∷◌ a) (front_same n m a (omega arith))

pub zeros_choice : (ds : List ℕ) → All DomainSize ds → is_choice ds (replicate (length ds) 0) ≡ true
unfolding is_choice
zeros_choice [] h = refl
zeros_choice (d ∷ ds) h = and_both (lt-ltb 0 d h.0.0) (zeros_choice ds h.1)
