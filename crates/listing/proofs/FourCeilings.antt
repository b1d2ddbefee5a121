-- Four ceilings of the core, one by one.
use Rattle.std.proofs.Common.{◌≡◌, ℕ, List, [], ◌∷◌, length, get_or, ap}
use Rattle.model.specs.Limits.{max_objectives}
use Rattle.model.specs.Core.{core_ceiling, core_ceilings}
use Rattle.vectors.proofs.Fours.{four_all}

module _ (cs : List ℕ) (four : length cs ≡ max_objectives) where
  pub four_core : (a b c d : ℕ) → a ≡ core_ceiling (get_or cs 0 0) → b ≡ core_ceiling (get_or cs 1 0)
      → c ≡ core_ceiling (get_or cs 2 0) → d ≡ core_ceiling (get_or cs 3 0) → a ∷ b ∷ c ∷ d ∷ [] ≡ core_ceilings cs
  unfolding core_ceilings
  four_core a b c d p q r s = rw (p, q, r, s) (ap core_ceilings (four_all cs four))
