-- Which records of a problem a part of it has, by their places: those of some objectives whose scope lies on one side.
use Rattle.std.specs.Prelude.{Bool, ◌&&◌, List, [], ◌∷◌, ℕ, leb, ltb, drop}
use Rattle.model.specs.Basics.{keep_if}
use Rattle.model.specs.Problems.{Table}
use Rattle.model.specs.Reading.{table_objective, table_scope}
use Rattle.model.specs.Views.{within}
use Rattle.views.specs.declared.Part as DP

-- objectives from low on and below high, one side of the side list ss
abbrev pub wanted : DP.Part → List ℕ → ℕ → List ℕ → Bool
wanted part ss o vs = leb part.low o && (ltb o part.high && within part.side ss vs)

abbrev pub wanted_table : DP.Part → List ℕ → Table → Bool
wanted_table part ss t = wanted part ss t.objective t.scope

-- the places of such records
unfoldable pub kept_places : DP.Part → List ℕ → List ℕ → List ℕ → List ℕ
kept_places part ss s [] = []
kept_places part ss s (at ∷ places) =
    keep_if (wanted part ss (table_objective (drop at s)) (table_scope (drop at s))) at (kept_places part ss s places)
