-- Why `cut_exchanged` asks for scopes in range: a problem, which no bytes give, of which the exchanged cut is not the
-- frontier.
use mathlib.Core.Path.{◌≡◌, refl}
use mathlib.Core.Bool.{true}
use mathlib.Core.List.{[], ◌∷◌}
use Rattle.model.specs.Problems.{Problem}
use Rattle.model.specs.Frontiers.{point, frontier}
use Rattle.model.specs.Cuts.{uncrossed, cut_list, exchanged}
use Rattle.model.proofs.Computing.{computing}

-- The one record has the scope 5, 0 over one variable. Variable 5 counts as side 0 both times, so that the record is
-- uncrossed before the exchange and crossed after it.
abbrev astray : Problem
astray = record {
  objectives = 1;
  ceilings = 9 ∷ [];
  domains = 2 ∷ [];
  tables = record { objective = 0; scope = 5 ∷ 0 ∷ []; costs = 7 ∷ 3 ∷ [] } ∷ [];
}

pub astray_cut :
    (uncrossed (0 ∷ []) astray.tables ≡ true) × (frontier astray ≡ point (3 ∷ []) (1 ∷ []) ∷ [])
    × (cut_list astray (exchanged (0 ∷ [])) ≡ point (7 ∷ []) (0 ∷ []) ∷ [])
unfolding computing
astray_cut = (refl, refl, refl)
