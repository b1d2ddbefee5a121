-- Runs of calls by computation: which of them hit, in rows that near but wrong definitions fail.
use mathlib.Core.Path.{◌≡◌, refl}
use mathlib.Core.Bool.{Bool, true, false}
use mathlib.Core.List.{List, [], ◌∷◌, map}
use Prim.Native.Nat.{ℕ}
use lib.ListN.{replicate}
use Rattle.model.specs.Limits.{work_need}
use Rattle.model.proofs.Computing.{computing}
use Rattle.model.proofs.ExampleBytes.{table, problem}
use Rattle.form_canonical.specs.Order.{not_after, filed_by, ordered_by}
use Rattle.form_canonical.specs.Canonical.{risen, sizes_within, turned, turned_tables, canonical}
use Rattle.cache_answers.specs.Runs.{Call, Told, is_among, is_asked, fresh_told, forms_after, fresh_run}

-- one name that opens every definition
unfoldable opened : Unit {0}
unfolding computing not_after filed_by ordered_by risen sizes_within turned turned_tables canonical
    is_among is_asked fresh_told forms_after fresh_run
opened = tt

-- how many slots there are, the calls, and which of them hit
pub data Row : Type 0 where
  has : (m : ℕ) (calls : List Call) (hits : List Bool) → map (λ (t : Told). t.hit) (fresh_run m [] calls) ≡ hits → Row

-- a call with a work buffer of so many bytes, for a problem of one variable and these cost records
abbrev call_with : ℕ → List (List ℕ) → Call
call_with n tables =
    record {
      problem = problem (9 ∷ []) (1 ∷ []) tables;
      costs = 0 ∷ [];
      choices = 0 ∷ [];
      work = replicate n 0;
    }

-- the same with one cost record, of one cost
abbrev asks : ℕ → Call
asks cost = call_with work_need (table 0 [] (cost ∷ []) ∷ [])

pub run_rows : List Row
unfolding opened
run_rows =
    -- one slot: a hit on the form stored last alone
    has 1 (asks 1 ∷ asks 1 ∷ asks 2 ∷ asks 2 ∷ asks 1 ∷ []) (false ∷ true ∷ false ∷ true ∷ false ∷ []) refl ∷
    -- two slots: the oldest form gives way, also where it was hit last
    has 2 (asks 1 ∷ asks 2 ∷ asks 1 ∷ asks 3 ∷ asks 2 ∷ asks 1 ∷ [])
    (false ∷ false ∷ true ∷ false ∷ true ∷ false ∷ []) refl ∷
    -- cost records in another order are the same form
    has 1 (call_with work_need (table 0 [] (1 ∷ []) ∷ table 0 (0 ∷ []) (2 ∷ []) ∷ []) ∷
    call_with work_need (table 0 (0 ∷ []) (2 ∷ []) ∷ table 0 [] (1 ∷ []) ∷ []) ∷ []) (false ∷ true ∷ []) refl ∷
    -- a call that is refused stores nothing and hits nothing
    has 1 (call_with 8191 (table 0 [] (1 ∷ []) ∷ []) ∷ asks 1 ∷ call_with 8191 (table 0 [] (1 ∷ []) ∷ []) ∷ [])
    (false ∷ false ∷ false ∷ []) refl ∷
    -- one whose answer the caller has no room for does
    has 1 (record { problem = (asks 1).problem; costs = []; choices = []; work = (asks 1).work } ∷ asks 1 ∷ [])
    (false ∷ true ∷ []) refl ∷
    []
