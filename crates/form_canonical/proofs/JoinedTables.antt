-- The bytes of cost records in a row are their byte strings joined, so they depend on these alone.
use mathlib.Core.Path.{◌≡◌, refl, ap, sym, ◌∙◌}
use mathlib.Core.List.{List, [], ◌∷◌, ◌++◌, map, flatten}
use Rattle.model.specs.Problems.{Table}
use Rattle.model.specs.Encoding.{table_bytes, tables_bytes}

pub tables_joined : (ts : List Table) → tables_bytes ts ≡ flatten (map table_bytes ts)
unfolding tables_bytes flatten
tables_joined [] = refl
tables_joined (t ∷ ts) = ap (◌++◌ (table_bytes t)) (tables_joined ts)

pub same_joined : (ts us : List Table) → map table_bytes ts ≡ map table_bytes us → tables_bytes ts ≡ tables_bytes us
same_joined ts us e = tables_joined ts ∙ ap flatten e ∙ sym (tables_joined us)
