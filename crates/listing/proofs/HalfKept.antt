-- One side's records, kept of all that were accepted: over the domain sizes that the side leaves they make the view of
-- the problem.
use Rattle.std.proofs.Common.{◌≡◌, ℕ, ◌+◌, ◌≤◌, ◌⊎◌, List, ◌++◌, length, take, drop, ap, ◌∙◌, subst, inl, arith}
use Rattle.model.specs.Basics.{All}
use Rattle.model.specs.Limits.{max_tables, max_points}
use Rattle.model.specs.Reading.{tables_at, places_at}
use Rattle.model.specs.Problems.{Problem}
use Rattle.model.specs.Core.{core_tables, core_of, with_ceilings, core_frontier}
use Rattle.model.specs.Views.{narrowed, within, kept, view}
use Rattle.model.specs.Calls.{over as filled}
use Rattle.problem.specs.Records.{Whole}
use Rattle.problem.proofs.RecordPlaces.{places_count, places_whole, places_owners}
use Rattle.layout.specs.Layout.{records_at, source_at}
use Rattle.groups.specs.Groups.{tables_over, places_in}
use Rattle.groups.proofs.Overwritten.{over, over_length, over_here}
use Rattle.views.specs.Wanted.{wanted_table, kept_places}
use Rattle.views.proofs.Narrowing.{narrowed_length, narrowed_small}
use Rattle.views.proofs.KeptPlaces.{kept_count, kept_whole, kept_tables}
use Rattle.views.proofs.KeptTables.{side_part, wanted_view}
use Rattle.groups.specs.Sources.{source_in, source_problem, Source}
use Rattle.groups.specs.declared.Task as DT
use Rattle.listing.specs.Says.{problem_at, Accepted}
use Rattle.pass_list.specs.Says.{FoundSays, CoreFound}
use Rattle.std.specs.Prelude.{Option}
use Rattle.pass_list.proofs.Since.{says_since}
use Rattle.listing.proofs.PlacesKept.{places_tables, core_owners, behind_at, written}
use Rattle.listing.proofs.PlacesKept.{written_places, written_length}

-- the side's records among some
abbrev pub on_side : ℕ → List ℕ → List ℕ → List ℕ → List ℕ
on_side side ss s places = kept_places (side_part side) ss s places

module _
    (p r at side : ℕ) (ds ss s work : List ℕ) (a : Accepted p r at ds s work) (same : length ss ≡ length ds) where
  side_tables : tables_over (narrowed side ss ds) s (on_side side ss s (places_at r ds s at))
      ≡ kept (λ t. within side ss t.scope) (core_tables (tables_at r ds s at))
  side_tables =
      let owners = core_owners (tables_at r ds s at) (places_owners ds s r at a.whole) in
      kept_tables (side_part side) ss s ds same (places_at r ds s at)
      ∙ ap (kept (wanted_table (side_part side) ss)) (places_tables ds s r at)
      ∙ wanted_view side ss (core_tables (tables_at r ds s at)) owners

  -- all records are kept where the search looks
  module _ (all : List ℕ) (says : all ≡ filled (places_at r ds s at) (behind_at work records_at)) where
    inside : records_at + r ≤ length work
    inside = omega (arith, a.tables, a.memory)

    abbrev before : List ℕ
    before = written work records_at all

    read : places_in before r ≡ places_at r ds s at
    read = written_places r at ds s work records_at inside all says

    before_length : length before ≡ length work
    before_length = written_length r at ds s work records_at inside all says

    pub side_asked :
        All (Whole ds s) (places_in before r) × (length ss ≡ length ds) × (r ≤ max_tables)
        × (records_at + r ≤ length before) × (source_at + r ≤ length before)
        × ((records_at + r ≤ source_at) ⊎ (source_at + r ≤ records_at))
    side_asked = (
      rw read (places_whole ds s r at a.whole),
      same,
      a.tables,
      omega (arith, before_length),
      omega (arith, before_length, a.tables, a.memory),
      inl (omega (arith, a.tables)),
    )

    -- of these the side's are the records of its problem
    module _ (count : ℕ) (after : List ℕ)
        (keeps : (count ≡ length (on_side side ss s (places_in before r)))
        × (after
        ≡ take source_at before ++ on_side side ss s (places_in before r) ++ drop (source_at + count) before)) where
      abbrev places : List ℕ
      places = on_side side ss s (places_at r ds s at)

      number : count ≡ length places
      number = rw read at keeps.0

      few : count ≤ r
      few = omega (arith, number, kept_count (side_part side) ss s (places_at r ds s at), places_count ds s r at)

      ends : source_at + count ≡ source_at + length places
      ends = omega (arith, number)

      fits : source_at + count ≤ length before
      fits = omega (arith, few, before_length, a.tables, a.memory)

      is : after ≡ over before source_at places (source_at + count)
      is = rw read at keeps.1

      after_places : source_in after count ≡ places
      after_places = rw is (rw (← number) at (over_here before source_at places (source_at + count) ends fits))

      after_length : length after ≡ length work
      after_length = rw is (over_length before source_at places (source_at + count) ends fits ∙ before_length)

      -- under ceilings of its own
      module _ (ceilings narrow : List ℕ) (sizes : narrow ≡ narrowed side ss ds) where
        abbrev task : DT.Task
        task = record { records = count; objectives = p; ceilings = ceilings; room = max_points }

        narrow_length : length narrow ≡ length ds
        narrow_length = rw sizes (narrowed_length side ss ds same)

        pub side_source : Source task narrow s after
        side_source =
            let all_whole = places_whole ds s r at a.whole in
            record {
              whole = rw (after_places, sizes)
                  (kept_whole (side_part side) ss s ds same (places_at r ds s at) all_whole);
              few = omega (arith, few, a.tables);
              small = rw sizes (narrowed_small side ss ds a.small);
              variables = omega (arith, narrow_length, a.variables);
              objectives = a.objectives;
              long = omega (arith, after_length, a.memory);
            }

        abbrev pub half : Problem
        half = view side (with_ceilings (take p ceilings) (core_of (problem_at p ceilings ds s at r))) ss

        side_problem : source_problem task narrow s after ≡ half
        unfolding view
        side_problem = rw (sizes, after_places, side_tables)

        pub side_says : (work' : List ℕ) (f : Option ℕ)
            → CoreFound (source_problem task narrow s after) max_points after work' f
            → FoundSays p (length ds) (core_frontier half) max_points work work' f
        side_says work' f h =
            subst (λ (n : ℕ). FoundSays p n (core_frontier half) max_points work work' f) narrow_length
            (says_since after_length (ap core_frontier side_problem) h)
