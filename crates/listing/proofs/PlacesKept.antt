-- The places of accepted records, written over work memory: the records are whole, and their tables are those read.
use Rattle.std.proofs.Common.{◌≡◌, ℕ, zero, suc, ◌+◌, ◌-◌, ◌<◌, ◌≤◌, List, [], ◌∷◌, ◌++◌, length, take, drop, sym, refl}
use Rattle.std.proofs.Common.{ap, append_assoc, append-nil, arith, drop-drop}
use lib.Seq.{drop-length}
use Rattle.model.specs.Basics.{All}
use Rattle.model.specs.Limits.{max_objectives}
use Rattle.model.specs.Problems.{Table}
use Rattle.model.specs.Core.{core_tables, core_ceilings, core_of, core_frontier}
use Rattle.model.specs.Reading.{table_length, tables_at, places_at}
use Rattle.model.proofs.Core.{take_ceilings}
use Rattle.model.specs.Calls.{over as filled}
use Rattle.model.proofs.Lists.{take_rest}
use Rattle.problem.proofs.RecordPlaces.{places_count, places_whole}
use Rattle.costs.specs.Entries.{table_at}
use Rattle.layout.specs.Layout.{source_at}
use Rattle.groups.specs.Groups.{tables_over}
use Rattle.groups.proofs.Overwritten.{over, over_length, over_here}
use Rattle.groups.specs.Sources.{source_problem, Source}
use Rattle.groups.specs.declared.Task as DT
use Rattle.listing.specs.Says.{problem_at, Accepted}
use Rattle.pass_list.specs.Says.{FoundSays, CoreFound}
use Rattle.std.specs.Prelude.{Option}
use Rattle.pass_list.proofs.Since.{says_since}

module _ (ds s : List ℕ) where
  pub places_tables : (r at : ℕ) → tables_over ds s (places_at r ds s at) ≡ core_tables (tables_at r ds s at)
  unfolding places_at tables_at tables_over core_tables
  places_tables zero at = refl
  places_tables (suc r) at = ap (◌∷◌ (table_at ds s at)) (places_tables r (at + table_length ds (drop at s)))

-- a record of the core belongs to the same objective
pub core_owners : (ts : List Table) → All (λ t. t.objective < max_objectives) ts
    → All (λ t. t.objective < max_objectives) (core_tables ts)
unfolding core_tables
core_owners [] h = tt
core_owners (t ∷ ts) h = (h.0, core_owners ts h.1)

-- they are kept in the part of work memory from `from` on
abbrev pub behind_at : List ℕ → ℕ → List ℕ
behind_at work from = take (length work - from) (drop from work)

abbrev pub written : List ℕ → ℕ → List ℕ → List ℕ
written work from kept = take from work ++ (kept ++ drop (length work - from) (drop from work))

module _ (r at : ℕ) (ds s work : List ℕ) (from : ℕ) (inside : from + r ≤ length work) (kept : List ℕ)
    (says : kept ≡ filled (places_at r ds s at) (behind_at work from)) where
  abbrev places : List ℕ
  places = places_at r ds s at

  ends : from + r ≡ from + length places
  ends = omega (arith, places_count ds s r at)

  written_over : written work from kept ≡ over work from places (from + r)
  unfolding filled
  written_over =
      let all : from + (length work - from) ≡ length work = omega arith in
      let part : behind_at work from ≡ drop from work = take_rest work from in
      rw (
        says,
        part,
        drop-drop (length places) from work,
        drop-drop (length work - from) from work,
        all,
        drop-length work,
        ← ends,
        append-nil (places ++ drop (from + r) work),
      )
      (sym (append_assoc (take from work) places (drop (from + r) work)))

  pub written_places : take r (drop from (written work from kept)) ≡ places_at r ds s at
  written_places = rw written_over (rw (places_count ds s r at) at (over_here work from places (from + r) ends inside))

  pub written_length : length (written work from kept) ≡ length work
  written_length = rw written_over (over_length work from places (from + r) ends inside)

-- they are kept as the problem's records
module _
    (p r at room : ℕ) (ceilings ds s work : List ℕ) (a : Accepted p r at ds s work) (kept : List ℕ)
    (says : kept ≡ filled (places_at r ds s at) (behind_at work source_at))
    (wide : List ℕ) (same : wide ≡ core_ceilings ceilings) where
  abbrev task : DT.Task
  task = record { records = r; objectives = p; ceilings = wide; room = room }

  inside : source_at + r ≤ length work
  inside = omega (arith, a.tables, a.memory)

  abbrev after : List ℕ
  after = written work source_at kept

  pub kept_source : Source task ds s after
  kept_source =
      record {
        whole = rw (written_places r at ds s work source_at inside kept says) (places_whole ds s r at a.whole);
        few = a.tables;
        small = a.small;
        variables = a.variables;
        objectives = a.objectives;
        long = omega (arith, written_length r at ds s work source_at inside kept says, a.memory);
      }

  pub kept_says : (work' : List ℕ) (f : Option ℕ) → CoreFound (source_problem task ds s after) room after work' f
      → FoundSays p (length ds) (core_frontier (core_of (problem_at p ceilings ds s at r))) room work work' f
  kept_says work' f =
      let read = written_places r at ds s work source_at inside kept says in
      let q : source_problem task ds s after ≡ core_of (problem_at p ceilings ds s at r) =
      rw (same, read, places_tables ds s r at, take_ceilings p ceilings) in
      says_since (written_length r at ds s work source_at inside kept says) (ap core_frontier q)
