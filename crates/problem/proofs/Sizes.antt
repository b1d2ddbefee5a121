-- The number of a table's entries: at least one where the scope's variables exist, at most 512 where they are at most
-- three.
use Prim.Native.Nat.{ℕ, ◌^◌, ◌≤◌, ◌<◌}
use mathlib.Core.List.{List, [], ◌∷◌}
use native.Mathlib.Omega.{arith}
use native.Mathlib.Nat.{mul-pos, mul-le-mul, pow-succ', pow-le-pow_right, le_trans}
use lib.ListN.{length, get_or}
use Rattle.model.specs.Basics.{All}
use Rattle.model.specs.Limits.{max_domain, max_arity}
use Rattle.model.specs.Problems.{DomainSize, InRange, size_of}
use Rattle.model.proofs.Elements.{all_below}

module _ (ds : List ℕ) (sizes : All DomainSize ds) where
  pub domain_size_lem : (v : ℕ) → v < length ds → DomainSize (get_or ds v 0)
  domain_size_lem v h = all_below DomainSize ds sizes v 0 h

  pub size_positive : (vs : List ℕ) → InRange (length ds) vs → 1 ≤ size_of ds vs
  unfolding size_of
  size_positive [] h = omega arith
  size_positive (v ∷ vs) h = mul-pos (domain_size_lem v h.0).0 (size_positive vs h.1)

  size_power : (vs : List ℕ) → InRange (length ds) vs → size_of ds vs ≤ max_domain ^ length vs
  unfolding size_of
  size_power [] h = omega arith
  size_power (v ∷ vs) h = rw pow-succ' (mul-le-mul (domain_size_lem v h.0).1 (size_power vs h.1))

  pub size_small : (vs : List ℕ) → InRange (length ds) vs → length vs ≤ max_arity → size_of ds vs ≤ 512
  size_small vs h few = le_trans (size_power vs h) (pow-le-pow_right {n = max_domain} (omega arith) few)
