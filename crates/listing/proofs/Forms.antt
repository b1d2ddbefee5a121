-- The two forms of the search: what planning for the second one needs, and the first one after it.
use Rattle.std.proofs.Common.{◌≡◌, ℕ, List, take, drop, refl, ap, arith}
use Rattle.model.specs.Core.{core_frontier}
use Rattle.layout.specs.Layout.{source_at}
use Rattle.groups.specs.Sources.{source_in, Source, source_problem}
use Rattle.groups.specs.declared.Task as DT
use Rattle.pass_list.specs.Says.{CoreFound}
use Rattle.std.specs.Prelude.{Option}
use Rattle.pass_list.proofs.Since.{says_since}
use Rattle.listing.specs.Says.{Plannable, Kept}
use Rattle.listing.proofs.PlacesKept.{behind_at}
use Rattle.listing.proofs.PlanKept.{behind_all}

-- a task under other ceilings
abbrev pub under_ceilings : DT.Task → List ℕ → DT.Task
under_ceilings task fs =
    record { records = task.records; objectives = task.objectives; ceilings = fs; room = task.room }

module _ {task : DT.Task} {ds s work : List ℕ} (source : Source task ds s work) where
  abbrev r : ℕ
  r = task.records

  pub source_plannable : Plannable r ds s work
  source_plannable = record {
    whole = source.whole;
    few = source.few;
    small = source.small;
    variables = source.variables;
    long = source.long;
  }

  -- the records' places stand behind what is lent
  source_behind : behind_at work source_at ≡ drop source_at work
  source_behind = behind_all work source_at (omega (arith, source.long)) (behind_at work source_at) refl

  pub source_places : take r (behind_at work source_at) ≡ source_in work r
  source_places = ap (take r) source_behind

  -- memory in which the records are kept
  module _ {work' : List ℕ} (kept : Kept r work work') where
    pub source_kept : Source task ds s work'
    source_kept =
        record {
          whole = rw kept.source source.whole;
          few = source.few;
          small = source.small;
          variables = source.variables;
          objectives = source.objectives;
          long = omega (arith, kept.long, source.long);
        }

    same_problem : source_problem task ds s work' ≡ source_problem task ds s work
    same_problem = rw kept.source

    pub first_after : (after : List ℕ) (f : Option ℕ)
        → CoreFound (source_problem task ds s work') task.room work' after f
        → CoreFound (source_problem task ds s work) task.room work after f
    first_after after f = says_since kept.long (ap core_frontier same_problem)
