-- Ceilings less one: number by number, a front of them, and that they are words.
use mathlib.Core.Path.{◌≡◌, refl, ap}
use mathlib.Core.List.{List, [], ◌∷◌}
use Prim.Native.Nat.{ℕ, zero, suc, ◌-◌}
use native.Mathlib.Omega.{arith}
use lib.ListN.{length, get_or, take}
use Rattle.model.specs.Basics.{All}
use Rattle.model.specs.Limits.{max_objectives}
use Rattle.model.specs.Problems.{Word}
use Rattle.model.specs.Core.{WordCeiling}
use Rattle.model.specs.Archive.{lowered}
use Rattle.vectors.proofs.Fours.{listed, four_all}

pub lowered_listed : (cs : List ℕ) → length cs ≡ max_objectives → listed (λ i. get_or cs i 0 - 1) ≡ lowered cs
unfolding lowered
lowered_listed cs e = ap lowered (four_all cs e)

pub take_lowered : (p : ℕ) (cs : List ℕ) → take p (lowered cs) ≡ lowered (take p cs)
unfolding lowered
take_lowered zero cs = refl
take_lowered (suc p) [] = refl
take_lowered (suc p) (c ∷ cs) = ap (◌∷◌ (c - 1)) (take_lowered p cs)

pub lowered_words : (cs : List ℕ) → All WordCeiling cs → All Word (lowered cs)
unfolding lowered
lowered_words [] h = tt
lowered_words (c ∷ cs) h = (omega (arith, h.0), lowered_words cs h.1)
