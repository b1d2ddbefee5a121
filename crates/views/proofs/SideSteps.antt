-- The sides of a scope's variables, a scope that lies on a side, and the sides of a side list.
use mathlib.Core.Path.{◌≡◌, refl, ap}
use mathlib.Core.Bool.{◌&&◌, and-true}
use mathlib.Core.List.{List, [], ◌∷◌}
use Prim.Native.Nat.{ℕ}
use lib.Dec.{eqb, leb}
use lib.ListN.{length, get_or, drop}
use Rattle.std.specs.Prelude.{nat_le}
use Rattle.std.specs.List.{list_all}
use Rattle.model.specs.Problems.{InRange}
use Rattle.model.specs.Reading.{table_scope}
use Rattle.model.specs.Cuts.{all_sides, in_half}
use Rattle.model.specs.Views.{all_on, within}
use Rattle.model.proofs.Bits.{and_again}
use Rattle.problem.specs.Records.{Headed, Whole}
use Rattle.problem.proofs.Scopes.{whole_inside}

-- the variables of a whole record have sides
pub whole_sides : {ds s : List ℕ} {at : ℕ} (ss : List ℕ) → length ss ≡ length ds → Whole ds s at
    → Headed s at × InRange (length ss) (table_scope (drop at s))
whole_sides {ds} {s} {at} ss e w = (whole_inside ds s at w, rw e w.range)

-- a scope without variables lies on side 0
pub within_none : (k : ℕ) (ss : List ℕ) → within k ss [] ≡ eqb k 0
unfolding in_half all_on
within_none k ss = and-true (eqb k 0)

-- another lies where all its variables do
pub within_some : (k : ℕ) (ss : List ℕ) (v : ℕ) (vs : List ℕ) → within k ss (v ∷ vs) ≡ all_on k ss (v ∷ vs)
unfolding in_half all_on
within_some k ss v vs = and_again (eqb (get_or ss v 0) k) (all_on k ss vs)

-- each side of a list is 0 or 1
pub sides_all : (ss : List ℕ) → list_all (λ s. nat_le s 1) ss ≡ all_sides ss
unfolding all_sides
sides_all [] = refl
sides_all (s ∷ ss) = ap (◌&&◌ (leb s 1)) (sides_all ss)
