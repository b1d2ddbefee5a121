-- From a problem's records in work memory to the search: once the gains are found, the records are copied to where the
-- search looks, and grouped.
use mathlib.Core.Path.{◌≡◌, sym, ap, ◌∙◌, subst, fun_ext}
use mathlib.Core.Logic.{◌⊎◌, inr}
use mathlib.Core.List.{List}
use Prim.Native.Nat.{ℕ, ◌+◌, ◌*◌, ◌≤◌}
use native.Mathlib.Omega.{arith}
use lib.ListN.{length, take, drop, length-drop, replicate}
use lib.Seq.{length-take-le}
use Rattle.model.specs.Limits.{max_objectives}
use Rattle.model.specs.Problems.{Problem}
use Rattle.model.specs.Core.{core_frontier}
use Rattle.model.specs.Suffixes.{Gains}
use Rattle.model.proofs.Lists.{drop_later}
use Rattle.layout.specs.Layout.{records_at, gains_at, source_at}
use Rattle.groups.specs.Groups.{places_in, Placed, Grouped}
use Rattle.groups.proofs.Overwritten.{over, over_length, over_behind, over_here}
use Rattle.pass_search.specs.States.{problem_in, gains_in, Setting}
use Rattle.groups.specs.Sources.{source_in, source_problem, Source}
use Rattle.groups.specs.declared.Task as DT
use Rattle.pass_suffixes.specs.Gained.{Left}
use Rattle.pass_list.specs.Says.{CoreFound}
use Rattle.std.specs.Prelude.{Option}
use Rattle.pass_list.proofs.Since.{says_since}

-- the gains of a problem's records are found
pub record Gained (task : DT.Task) (ds s was work : List ℕ) : Type 0 where
  pub source : Source task ds s was
  pub known : Gains (source_problem task ds s was) (gains_in task.objectives work)
  pub none : gains_in max_objectives work (length ds) ≡ replicate max_objectives 0
  pub left : Left was work

pub gained_here : {task : DT.Task} {ds s was work : List ℕ} → Source task ds s was
    → Gains (source_problem task ds s was) (gains_in task.objectives work)
    × (gains_in max_objectives work (length ds) ≡ replicate max_objectives 0) × Left was work
    → Gained task ds s was work
gained_here source (known, none, left) = record { source = source; known = known; none = none; left = left }

module _ {task : DT.Task} {ds s was gained : List ℕ} (u : Gained task ds s was gained) where
  abbrev p : ℕ
  p = task.objectives

  abbrev r : ℕ
  r = task.records

  pub source_apart :
      (source_at + r ≤ length gained) × (records_at + r ≤ length gained)
      × ((source_at + r ≤ records_at) ⊎ (records_at + r ≤ source_at))
  source_apart =
      let inside : source_at + r ≤ length gained = omega (arith, u.source.few, u.source.long, u.left.1) in
      (inside, omega arith, inr (omega (arith, u.source.few)))

  count : length (source_in gained r) ≡ r
  count = length-take-le r (drop source_at gained) (omega (arith, source_apart.0, length-drop source_at gained))

  ends : records_at + r ≡ records_at + length (source_in gained r)
  ends = omega (arith, count)

  -- the records are copied
  module _ (copied : List ℕ) (says : copied ≡ over gained records_at (source_in gained r) (records_at + r)) where
    copied_places : places_in copied r ≡ source_in was r
    copied_places =
        rw says
        ((rw count at (over_here gained records_at (source_in gained r) (records_at + r) ends source_apart.1))
        ∙ ap (take r) u.left.0)

    copied_length : length copied ≡ length was
    copied_length =
        rw says (over_length gained records_at (source_in gained r) (records_at + r) ends source_apart.1 ∙ u.left.1)

    pub copied_placed : Placed ds s copied r
    copied_placed =
        record {
          few = u.source.few;
          small = u.source.small;
          variables = u.source.variables;
          long = omega (arith, copied_length, u.source.long);
          whole = rw copied_places u.source.whole;
        }

    -- and grouped
    module _ (work : List ℕ)
        (after : Grouped ds s work r × (drop records_at work ≡ drop records_at copied)
        × (length work ≡ length copied)) where
      behind : (k : ℕ) → records_at + r ≤ k → drop k work ≡ drop k gained
      behind k h =
          drop_later records_at k work copied (omega arith) after.1
          ∙ rw says (over_behind gained records_at (source_in gained r) (records_at + r) ends source_apart.1 k h)

      same_gains : (w j : ℕ) → gains_in w work j ≡ gains_in w gained j
      same_gains w j = ap (take w) (behind (gains_at + 4 * j) (omega (arith, u.source.few)))

      same_problem : problem_in task ds s work ≡ source_problem task ds s was
      same_problem =
          let places : places_in work r ≡ source_in was r = ap (take r) after.1 ∙ copied_places in
          rw places

      pub grouped_setting : Setting task 0 ds s work
      grouped_setting = record {
        grouped = after.0;
        objectives = u.source.objectives;
        count = omega arith;
        last = same_gains max_objectives (length ds) ∙ u.none;
      }

      pub grouped_known : Gains (problem_in task ds s work) (gains_in p work)
      grouped_known =
          let e : ◌≡◌ {A = ℕ → List ℕ} (gains_in p gained) (gains_in p work) = fun_ext (λ j. sym (same_gains p j)) in
          subst (λ (q : Problem). Gains q (gains_in p work)) (sym same_problem)
          (subst (λ (gs : ℕ → List ℕ). Gains (source_problem task ds s was) gs) e u.known)

      pub grouped_says : (room : ℕ) (work' : List ℕ) (f : Option ℕ)
          → CoreFound (problem_in task ds s work) room work work' f
          → CoreFound (source_problem task ds s was) room was work' f
      grouped_says room work' f =
          says_since (after.2 ∙ copied_length) (ap core_frontier same_problem)
