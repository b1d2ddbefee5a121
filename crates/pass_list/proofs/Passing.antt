-- The passes: after k of them, work memory holds the first k points of the frontier list; the records with their
-- groups, the gains and what stands behind the list are as before.
use mathlib.Core.Path.{◌≡◌, refl, sym, ap, ◌∙◌, subst}
use Rattle.std.specs.Prelude.{Option, Some, None}
use mathlib.Core.List.Memᴰ.{append_right as in_right}
use mathlib.Core.List.Memᴰ.{head as here}
use mathlib.Core.List.{List, [], ◌∷◌, ◌++◌}
use Prim.Native.Nat.{ℕ, ◌+◌, ◌≤◌, ◌<◌}
use native.Mathlib.Omega.{arith}
use lib.ListN.{length, take}
use Rattle.model.specs.Limits.{max_objectives, max_points}
use Rattle.model.specs.Problems.{Problem}
use Rattle.model.specs.Frontiers.{Point, point}
use Rattle.model.specs.Core.{core_frontier, CoreReached}
use Rattle.model.specs.Search.{pass}
use Rattle.model.specs.Suffixes.{Gains}
use Rattle.model.specs.Calls.{padded}
use Rattle.model.proofs.Passes.{Prefix, found_count}
use Rattle.model.proofs.Frontier.{reached_width}
use Rattle.model.proofs.Search.{After, pass_holds, pass_none, pass_some}
use Rattle.model.proofs.Suffixes.{gains_sound}
use Rattle.groups.specs.Groups.{tables_over, places_in, Grouped}
use Rattle.groups.specs.declared.Task as DT
use Rattle.rows.specs.Rows.{RowWritten}
use Rattle.pass_search.specs.States.{held_of, problem_in, listed_in, gains_in, rule_of, Setting, Stands}
use Rattle.pass_search.specs.declared.Partial as DP
use Rattle.pass_search.specs.declared.Met as DM
use Rattle.pass_list.specs.Says.{CoreFound}
use Rattle.pass_list.proofs.Made.{Made, made_start, made_done, made_full, made_next}
use Rattle.pass_list.proofs.Kept.{kept_places_lem, kept_gains, kept_grouped}

module _ (task : DT.Task) (ds s was : List ℕ) where
  pub record Passing (work : List ℕ) (k : ℕ) : Type 0 where
    pub made : Made (CoreReached (problem_in task ds s was)) task.objectives (length ds) was work k
    pub grouped : Grouped ds s work task.records
    pub places : places_in work task.records ≡ places_in was task.records
    pub gains : (w j : ℕ) → w ≤ max_objectives → j ≤ length ds → gains_in w work j ≡ gains_in w was j

  pub passing_start : Grouped ds s was task.records → Passing was 0
  passing_start g =
      record {
        made = made_start (CoreReached (problem_in task ds s was)) task.objectives (length ds) was;
        grouped = g;
        places = refl;
        gains = λ w j few h. refl;
      }

module _ {task : DT.Task} {ds s was : List ℕ} (setting : Setting task 0 ds s was)
    (known : Gains (problem_in task ds s was) (gains_in task.objectives was)) {work : List ℕ} {k : ℕ}
    (u : Passing task ds s was work k) where
  abbrev p : ℕ
  p = task.objectives

  abbrev r : ℕ
  r = task.records

  abbrev q : Problem
  q = problem_in task ds s was

  -- the problem of some places
  abbrev problem_over : List ℕ → Problem
  problem_over places = record {
    objectives = p;
    ceilings = take p task.ceilings;
    domains = ds;
    tables = tables_over ds s places;
  }

  abbrev ps : List Point
  ps = listed_in task ds work k

  pub passing_setting : k ≤ max_points → Setting task k ds s work
  passing_setting h = record {
    grouped = u.grouped;
    objectives = setting.objectives;
    count = h;
    last = u.gains max_objectives (length ds) (omega arith) (omega arith) ∙ setting.last;
  }

  pub passing_stands : (x : DP.Partial) → Stands r ds s was x → Stands r ds s work x
  passing_stands x st = record { short = st.short; good = st.good; exact = rw u.places st.exact }

  passing_gains : Gains q (gains_in p work)
  passing_gains =
      let same : (j : ℕ) → j ≤ length ds → gains_in p work j ≡ gains_in p was j =
      λ j h. u.gains p j setting.objectives h in
      record {
        width = λ j h. rw (same j h) (known.width j h);
        sound = λ o j l h. rw (same j h) (known.sound o j l h);
      }

  -- what a pass gives
  module _ (best : Option DM.Met)
      (gives : held_of p (length ds) best
      ≡ pass (problem_in task ds s work) (rule_of (problem_in task ds s work) work) ps) where
    after : After q ps [] (held_of p (length ds) best)
    after =
        let e : held_of p (length ds) best ≡ pass q (rule_of q work) ps =
        gives ∙ ap (λ (l : List ℕ). pass (problem_over l) (rule_of (problem_over l) work) ps) u.places in
        subst (After q ps []) (sym e)
        (pass_holds q (rule_of q work) (gains_sound q (gains_in p work) passing_gains) ps u.made.found)

    -- no point is left
    module _ (none : best ≡ None) where
      listed : ps ≡ core_frontier q
      listed = pass_none q ps u.made.found (rw none at after)

      pub says_done : (room : ℕ) → k ≤ room → CoreFound q room was work (Some k)
      says_done = made_done u.made (core_frontier q) listed

    -- a point is found
    module _ (met : DM.Met) (some : best ≡ Some met) where
      abbrev x : Point
      x = point (take p met.costs) (take (length ds) met.choice)

      longer : Prefix (CoreReached q) (ps ++ (x ∷ []))
      longer = pass_some q ps x u.made.found (rw some at after)

      pub says_full : (room : ℕ) → room ≤ k → CoreFound q room was work None
      says_full = made_full u.made (core_frontier q) x (found_count q (ps ++ (x ∷ [])) longer)

      reached : CoreReached q x
      reached = longer.listed.sound x (in_right ps (here refl))

      pub costs_wide : length (take p met.costs) ≡ p
      costs_wide = reached_width q x reached

      pub passing_next : k < max_points → (stored : List ℕ)
          → RowWritten work k (point (padded max_objectives (take p met.costs)) met.choice) stored
          → Passing task ds s was stored (k + 1)
      passing_next h stored w =
          let few = setting.objectives in
          let values = u.grouped.placed.variables in
          let count : k ≤ max_points = omega arith in
          let f = w.frame in
          record {
            made = made_next u.made few values count met.costs met.choice stored costs_wide w longer;
            grouped = kept_grouped ds s work r u.grouped f;
            places = kept_places_lem ds s work r u.grouped f ∙ u.places;
            gains = λ w j small i. kept_gains ds s work r u.grouped f w j small i ∙ u.gains w j small i;
          }
