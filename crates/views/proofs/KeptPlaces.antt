-- The places of the wanted records: how many, that their records are whole over the sizes that the side leaves, and
-- which tables they have.
use mathlib.Core.Path.{◌≡◌, refl, ap, ap₂}
use mathlib.Core.Bool.{Bool, true, false}
use mathlib.Core.List.{List, [], ◌∷◌}
use Prim.Native.Nat.{ℕ, ◌≤◌}
use lib.Dec.{leb, ltb}
use lib.ListN.{length, drop}
use Rattle.model.specs.Basics.{All, keep_if}
use Rattle.model.specs.Reading.{table_objective, table_scope, table_of}
use Rattle.model.specs.Core.{core_table}
use Rattle.model.specs.Views.{narrowed, within, kept}
use Rattle.model.proofs.Bits.{and_right}
use Rattle.problem.specs.Records.{Whole}
use Rattle.costs.specs.Entries.{table_at}
use Rattle.groups.specs.Groups.{tables_over}
use Rattle.groups.proofs.Keeping.{Keeps, keeps_few}
use Rattle.views.specs.Wanted.{wanted, wanted_table, kept_places}
use Rattle.views.specs.declared.Part as DP
use Rattle.views.proofs.NarrowedRecords.{table_same, whole_same}

module _ (part : DP.Part) (ss s : List ℕ) where
  abbrev pub wanted_at : ℕ → Bool
  wanted_at at = wanted part ss (table_objective (drop at s)) (table_scope (drop at s))

  pub wanted_keeps : Keeps wanted_at (kept_places part ss s)
  unfolding kept_places
  wanted_keeps = record { none = refl; next = λ x xs. refl }

  pub kept_count : (places : List ℕ) → length (kept_places part ss s places) ≤ length places
  kept_count places = keeps_few wanted_keeps places

  -- a wanted record lies on the side
  wanted_inside : (at : ℕ) → wanted_at at ≡ true → within part.side ss (table_scope (drop at s)) ≡ true
  wanted_inside at e =
      let o = table_objective (drop at s) in
      and_right (ltb o part.high) _ (and_right (leb part.low o) _ e)

  module _ (ds : List ℕ) (same : length ss ≡ length ds) where
    pub kept_whole : (places : List ℕ) → All (Whole ds s) places
        → All (Whole (narrowed part.side ss ds) s) (kept_places part ss s places)
    unfolding kept_places
    kept_whole [] h = tt
    kept_whole (at ∷ places) h = go (wanted_at at) refl (kept_whole places h.1)
      where
        go : (b : Bool) → wanted_at at ≡ b → All (Whole (narrowed part.side ss ds) s) (kept_places part ss s places)
            → All (Whole (narrowed part.side ss ds) s) (keep_if b at (kept_places part ss s places))
        go true e r = (whole_same part.side ss ds same s at (wanted_inside at e) h.0, r)
        go false e r = r

    pub kept_tables : (places : List ℕ)
        → tables_over (narrowed part.side ss ds) s (kept_places part ss s places)
        ≡ kept (wanted_table part ss) (tables_over ds s places)
    unfolding kept_places tables_over kept table_of
    kept_tables [] = refl
    kept_tables (at ∷ places) = go (wanted_at at) refl (kept_tables places)
      where
        go : (b : Bool) → wanted_at at ≡ b
            → tables_over (narrowed part.side ss ds) s (kept_places part ss s places)
            ≡ kept (wanted_table part ss) (tables_over ds s places)
            → tables_over (narrowed part.side ss ds) s (keep_if b at (kept_places part ss s places))
            ≡ keep_if b (table_at ds s at) (kept (wanted_table part ss) (tables_over ds s places))
        go true e r = ap₂ ◌∷◌ (ap core_table (table_same part.side ss ds same (drop at s) (wanted_inside at e))) r
        go false e r = r
