-- Canonical forms by computation: rows that near but wrong definitions fail.
use mathlib.Core.Path.{◌≡◌, refl}
use mathlib.Core.List.{List, [], ◌∷◌}
use Prim.Native.Nat.{ℕ}
use Rattle.model.proofs.Computing.{computing}
use Rattle.model.proofs.ExampleBytes.{table, problem}
use Rattle.form_canonical.specs.Order.{not_after, filed_by, ordered_by}
use Rattle.form_canonical.specs.Canonical.{risen, sizes_within, turned, turned_tables, canonical, canonical_bytes}

-- one name that opens every definition
unfoldable opened : Unit {0}
unfolding computing not_after filed_by ordered_by risen sizes_within turned turned_tables canonical
opened = tt

-- bytes, and those of their canonical form
pub data Row : Type 0 where
  has : (s form : List ℕ) → canonical_bytes s ≡ form → Row

-- a problem of cost records over domain sizes 2 and 3, with one ceiling or with two
abbrev of_one : List (List ℕ) → List ℕ
of_one tables = problem (9 ∷ []) (2 ∷ 3 ∷ []) tables

abbrev of_two : List (List ℕ) → List ℕ
of_two tables = problem (9 ∷ 9 ∷ []) (2 ∷ 3 ∷ []) tables

pub form_rows : List Row
unfolding opened
form_rows =
    -- the scope (1,0): the table is turned with it; the form byte by byte
    has (of_one (table 0 (1 ∷ 0 ∷ []) (4 ∷ 1 ∷ 3 ∷ 5 ∷ 2 ∷ 0 ∷ []) ∷ []))
    (72 ∷ 68 ∷ 2 ∷ 1 ∷ 1 ∷ 0 ∷ 9 ∷ 0 ∷ 0 ∷ 0 ∷ 68 ∷ 79 ∷ 2 ∷ 68 ∷ 79 ∷ 3 ∷ 67 ∷ 70 ∷ 0 ∷ 2 ∷ 0 ∷ 1
    ∷ 4 ∷ 0 ∷ 0 ∷ 0 ∷ 3 ∷ 0 ∷ 0 ∷ 0 ∷ 2 ∷ 0 ∷ 0 ∷ 0 ∷ 1 ∷ 0 ∷ 0 ∷ 0 ∷ 5 ∷ 0 ∷ 0 ∷ 0 ∷ 0 ∷ 0 ∷ 0 ∷ 0 ∷ []) refl ∷
    -- the scope (2,0,1) over domain sizes 2, 2 and 3, a rotation, which is not its own inverse
    has (problem (9 ∷ []) (2 ∷ 2 ∷ 3 ∷ [])
    (table 0 (2 ∷ 0 ∷ 1 ∷ []) (1 ∷ 2 ∷ 3 ∷ 4 ∷ 5 ∷ 6 ∷ 7 ∷ 8 ∷ 9 ∷ 10 ∷ 11 ∷ 12 ∷ []) ∷ []))
    (problem (9 ∷ []) (2 ∷ 2 ∷ 3 ∷ [])
    (table 0 (0 ∷ 1 ∷ 2 ∷ []) (1 ∷ 5 ∷ 9 ∷ 2 ∷ 6 ∷ 10 ∷ 3 ∷ 7 ∷ 11 ∷ 4 ∷ 8 ∷ 12 ∷ []) ∷ [])) refl ∷
    -- the entry 256, bytes 0, 1, 0, 0, stands before the entry 1, bytes 1, 0, 0, 0
    has (of_one (table 0 (0 ∷ []) (1 ∷ 5 ∷ []) ∷ table 0 (0 ∷ []) (256 ∷ 5 ∷ []) ∷ []))
    (of_one (table 0 (0 ∷ []) (256 ∷ 5 ∷ []) ∷ table 0 (0 ∷ []) (1 ∷ 5 ∷ []) ∷ [])) refl ∷
    -- records in order once turned, not as they are written
    has (of_one (table 0 (0 ∷ 1 ∷ []) (2 ∷ 0 ∷ 0 ∷ 0 ∷ 0 ∷ 0 ∷ []) ∷
    table 0 (1 ∷ 0 ∷ []) (1 ∷ 7 ∷ 0 ∷ 0 ∷ 0 ∷ 0 ∷ []) ∷ []))
    (of_one (table 0 (0 ∷ 1 ∷ []) (1 ∷ 0 ∷ 0 ∷ 7 ∷ 0 ∷ 0 ∷ []) ∷
    table 0 (0 ∷ 1 ∷ []) (2 ∷ 0 ∷ 0 ∷ 0 ∷ 0 ∷ 0 ∷ []) ∷ [])) refl ∷
    -- records that are repeated, one of them turned, are all kept
    has (of_one (table 0 (0 ∷ 1 ∷ []) (1 ∷ 2 ∷ 3 ∷ 4 ∷ 5 ∷ 6 ∷ []) ∷ table 0 [] (7 ∷ []) ∷
    table 0 (1 ∷ 0 ∷ []) (1 ∷ 4 ∷ 2 ∷ 5 ∷ 3 ∷ 6 ∷ []) ∷ table 0 [] (7 ∷ []) ∷ []))
    (of_one (table 0 [] (7 ∷ []) ∷ table 0 [] (7 ∷ []) ∷ table 0 (0 ∷ 1 ∷ []) (1 ∷ 2 ∷ 3 ∷ 4 ∷ 5 ∷ 6 ∷ []) ∷
    table 0 (0 ∷ 1 ∷ []) (1 ∷ 2 ∷ 3 ∷ 4 ∷ 5 ∷ 6 ∷ []) ∷ [])) refl ∷
    -- arity 0 before arity 1 and that before arity 2, whatever the scopes and the entries are
    has (of_one (table 0 (0 ∷ 1 ∷ []) (0 ∷ 0 ∷ 0 ∷ 0 ∷ 0 ∷ 0 ∷ []) ∷ table 0 (1 ∷ []) (1 ∷ 1 ∷ 1 ∷ []) ∷
    table 0 [] (255 ∷ []) ∷ []))
    (of_one (table 0 [] (255 ∷ []) ∷ table 0 (1 ∷ []) (1 ∷ 1 ∷ 1 ∷ []) ∷
    table 0 (0 ∷ 1 ∷ []) (0 ∷ 0 ∷ 0 ∷ 0 ∷ 0 ∷ 0 ∷ []) ∷ [])) refl ∷
    -- the objective comes before the arity
    has (of_two (table 1 [] (0 ∷ []) ∷ table 0 (1 ∷ []) (8 ∷ 8 ∷ 8 ∷ []) ∷ []))
    (of_two (table 0 (1 ∷ []) (8 ∷ 8 ∷ 8 ∷ []) ∷ table 1 [] (0 ∷ []) ∷ [])) refl ∷
    []
