-- The turns of the second form: what one needs and leaves, and that the next may go on from there.
use Rattle.std.proofs.Common.{◌≡◌, ℕ, ◌≤◌, List, length, sym, refl, ◌∙◌, subst, arith}
use Rattle.std.specs.Prelude.{Bool, true, false, not, ltb, Some, None}
use Rattle.model.specs.Basics.{pick, when}
use Rattle.model.specs.Limits.{max_objectives}
use Rattle.model.specs.Frontiers.{Point}
use Rattle.model.specs.Core.{core_frontier}
use Rattle.model.proofs.Bits.{true_false}
use Rattle.groups.specs.Sources.{source_in, source_problem}
use Rattle.groups.specs.declared.Task as DT
use Rattle.pass_list.specs.Says.{FoundSays}
use Rattle.rows.specs.Rows.{list_in}
use Rattle.plan_spreads.specs.LargestCosts.{Reaches}
use Rattle.plan_spreads.specs.Ceilings.{Fitted}
use Rattle.branch_directions.specs.declared.Directions as DD
use Rattle.branch_search.specs.States.{rows_in, Ready, Between, ExploredSays, LeftOver, unended}
use Rattle.branch_search.specs.declared.Explored as DE
use Rattle.branch_search.specs.declared.Effort as DF
use Rattle.branch_search.proofs.Archives.{between_moved, between_source, between_framed}
use Rattle.listing.specs.Says.{Kept, PlanSays, Explorable, Turned, Ended, found_of}
use Rattle.listing.proofs.FittedCeilings.{fitted_frontier}
use Rattle.listing.proofs.Forms.{under_ceilings, source_kept, first_after}

pub kept_same : (r : ℕ) (work : List ℕ) → Kept r work work
kept_same r work = record { long = refl; source = refl }

kept_trans : {r : ℕ} {work work' work'' : List ℕ} → Kept r work work' → Kept r work' work'' → Kept r work work''
kept_trans k l = record { long = l.long ∙ k.long; source = l.source ∙ k.source }

-- no turn ended the search: its archive is left
pub turned_undecided :
    (task : DT.Task) (ds s : List ℕ) {work work' : List ℕ} {points : ℕ} → Kept task.records work work' →
    Between (source_problem task ds s work) task.room work' points → (effort : DF.Effort) →
    Turned task ds s work work' (unended points effort)
turned_undecided task ds s k b effort =
    record { kept = k; found = λ t. absurd (true_false t refl); between = λ f. b }

-- turns under ceilings that are fitted to what sums can reach find the task's list
pub ended_fitted :
    (task : DT.Task) (ds s work : List ℕ) (ms fs : List ℕ) → task.objectives ≤ max_objectives →
    length task.ceilings ≡ max_objectives → Fitted task.ceilings ms fs →
    Reaches ds s (source_in work task.records) task.ceilings ms → (work' : List ℕ) (e : DE.Explored) →
    Turned (under_ceilings task fs) ds s work work' e → Ended task ds s work work' e
ended_fitted task ds s work ms fs few four fit reach work' e t =
    let q = source_problem task ds s work in
    record {
      kept = t.kept;
      found = λ is.
          subst (λ (ps : List Point). FoundSays task.objectives (length ds) ps task.room work work' (found_of e))
          (fitted_frontier q task.ceilings ms fs fit few four refl reach.most) (t.found is);
    }

module _ {task : DT.Task} {ds s work : List ℕ} (h : Explorable task ds s work) where
  -- memory in which the records are kept
  module _ {work' : List ℕ} (kept : Kept task.records work work') where
    pub explorable_kept : Explorable task ds s work'
    explorable_kept =
        record {
          source = source_kept h.source kept;
          some_variable = h.some_variable;
          some_objective = h.some_objective;
          short = h.short;
          room_small = h.room_small;
        }

    -- a turn in it is one from the memory before
    pub turned_since :
        (after : List ℕ) (e : DE.Explored) → Turned task ds s work' after e → Turned task ds s work after e
    turned_since after e t =
        record {
          kept = kept_trans kept t.kept;
          found = λ is. first_after h.source kept after (found_of e) (t.found is);
          between = λ is. between_source task ds s work' work (sym kept.source) after e.count (t.between is);
        }

    -- a plan that passed its test is searched by
    module _ {points : ℕ} (rows : rows_in work' ≡ rows_in work)
        (b : Between (source_problem task ds s work) task.room work points) where
      pub plan_between : Between (source_problem task ds s work') task.room work' points
      plan_between =
          between_framed task ds s work work' kept.source points h.source.objectives h.source.variables
          h.room_small rows b

      -- one that failed it leaves the archive as it was
      pub plan_failed : (effort : DF.Effort) → Turned task ds s work work' (unended points effort)
      plan_failed effort =
          turned_undecided task ds s kept
          (between_moved h.source.objectives h.source.variables h.room_small rows b) effort

    pub plan_ready :
        (d : DD.Directions) → d.objectives ≡ task.objectives → PlanSays d task.records ds s work work' →
        Ready d task ds s work'
    plan_ready d same says =
        record {
          sound = says.sound;
          planned = says.planned;
          objectives = same;
          some_variable = h.some_variable;
          limited = h.short;
          room_small = h.room_small;
          long = omega (arith, kept.long, h.source.long);
        }

-- what was found, told by a flag and a count
found_told :
    {p n : ℕ} {fs : List Point} {room : ℕ} {was after : List ℕ} (b : Bool) (k : ℕ) →
    b ≡ ltb room (length fs) → k ≡ when (not b) (length fs) → (b ≡ false → list_in p n after 0 k ≡ fs) →
    length after ≡ length was → FoundSays p n fs room was after (pick b None (Some k))
found_told true k full count list long =
    record { full = full; count = refl; list = λ t. absurd (true_false refl t); long = long }
found_told false k full count list long = record { full = full; count = count; list = λ t. list refl; long = long }

-- what a search says and leaves is what a turn does
pub explored_turned :
    (task : DT.Task) (ds s work after : List ℕ) (e : DE.Explored) (budget : ℕ) →
    ExploredSays task (length ds) (core_frontier (source_problem task ds s work)) work after e →
    LeftOver (source_problem task ds s work) task.room budget after e → Turned task ds s work after e
explored_turned task ds s work after e budget says left =
    record {
      kept = record { long = says.still.long; source = says.still.source };
      found = λ t. found_told e.full e.count (says.full t) (says.count t) (says.list t) says.still.long;
      between = left.between;
    }
