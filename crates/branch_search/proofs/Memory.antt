-- What stays of work memory where only rows of the archive, or only zones, are written; and what a search relies on
-- stays with it.
use Rattle.std.proofs.Common.{◌≡◌, ℕ, ◌+◌, ◌-◌, ◌≤◌, List, ◌++◌, length, take, drop, sym, refl, ap, ◌∙◌, subst, arith}
use Rattle.std.proofs.Common.{drop-drop, take_at, drop_at}
use Rattle.model.specs.Limits.{max_tables}
use Rattle.model.specs.Problems.{Problem}
use Rattle.model.proofs.Lists.{take_rest}
use Rattle.layout.specs.Layout.{zones_end, source_at, list_end}
use Rattle.groups.specs.Groups.{tables_over}
use Rattle.rows.specs.Rows.{costs_in, list_in, Framed}
use Rattle.rows.proofs.RowsKept.{behind_costs, behind_rows, framed_part}
use Rattle.groups.specs.Sources.{source_in}
use Rattle.groups.specs.declared.Task as DT
use Rattle.branch_directions.specs.declared.Directions as DD
use Rattle.branch_buckets.specs.Content.{Planned}
use Rattle.branch_buckets.specs.Sound.{Sound}
use Rattle.branch_pruning.specs.Tests.{zones_of}
use Rattle.branch_search.specs.States.{plan_in, problem_of, Ready, Still}

pub still_refl : (task : DT.Task) (work : List ℕ) → Still task work work
still_refl task work = record { long = refl; plan = refl; source = refl }

pub still_trans :
    {task : DT.Task} {one two three : List ℕ} → Still task one two → Still task two three → Still task one three
still_trans f g = record { long = g.long ∙ f.long; plan = g.plan ∙ f.plan; source = g.source ∙ f.source }

-- the problem and what is relied on, of the memory after
module _
    {task : DT.Task} {work work' : List ℕ} (k : Still task work work') (d : DD.Directions) (ds s : List ℕ) where
  abbrev r : ℕ
  r = task.records

  abbrev problem_over_lem : List ℕ → Problem
  problem_over_lem places =
      record {
        objectives = d.objectives;
        ceilings = take d.objectives task.ceilings;
        domains = ds;
        tables = tables_over ds s places;
      }

  pub problem_still : problem_of d task ds s work' ≡ problem_of d task ds s work
  problem_still = ap problem_over_lem k.source

  pub ready_still : Ready d task ds s work → Ready d task ds s work'
  ready_still h =
      record {
        sound =
            subst (λ (l : List ℕ). Sound d r ds s l (plan_in work')) (sym k.source)
            (subst (λ (l : List ℕ). Sound d r ds s (source_in work r) l) (sym k.plan) h.sound);
        planned = subst (λ (l : List ℕ). Planned d r ds s l) (sym k.plan) h.planned;
        objectives = h.objectives;
        some_variable = h.some_variable;
        limited = h.limited;
        room_small = h.room_small;
        long = omega (arith, h.long, k.long);
      }

-- rows of the archive
module _ {work work' : List ℕ} (f : Framed work work') where
  pub framed_zones : zones_of work' ≡ zones_of work
  framed_zones = framed_part f zones_end 0 (omega arith)

  pub framed_still : (task : DT.Task) → task.records ≤ max_tables → Still task work work'
  framed_still task l =
      record {
        long = f.long;
        plan = f.behind;
        source = framed_part f task.records source_at (omega arith);
      }

-- zones
module _ (work work' : List ℕ) (long : length work' ≡ length work)
    (behind : drop zones_end work' ≡ drop zones_end work) where
  same_from : (k : ℕ) → zones_end ≤ k → drop k work' ≡ drop k work
  same_from k l =
      let e : zones_end + (k - zones_end) ≡ k = omega arith in
      rw e
      at (sym (drop-drop (k - zones_end) zones_end work')
      ∙ ap (λ (u : List ℕ). drop (k - zones_end) u) behind
      ∙ drop-drop (k - zones_end) zones_end work)

  pub zones_still : (task : DT.Task) → Still task work work'
  zones_still task =
      record {
        long = long;
        plan = same_from list_end (omega arith);
        source = ap (λ (u : List ℕ). take task.records u) (same_from source_at (omega arith));
      }

  pub zones_costs : (p i : ℕ) → costs_in p work' i ≡ costs_in p work i
  zones_costs p i = behind_costs zones_end work' work behind p i (omega arith)

  pub zones_rows : (p n i c : ℕ) → list_in p n work' i c ≡ list_in p n work i c
  zones_rows p n i c = behind_rows zones_end work' work behind p n i c (omega arith)

-- the plan, as it is lent
pub lent_plan : (work : List ℕ) → take (length work - list_end) (drop list_end work) ≡ plan_in work
lent_plan work = take_rest work list_end

-- memory whose zones were lent and came back as z
module _ (z rest : List ℕ) (e : length z ≡ zones_end) where
  pub lent_front : take zones_end (z ++ rest) ≡ z
  lent_front = take_at z rest zones_end e

  pub lent_behind : drop zones_end (z ++ rest) ≡ rest
  lent_behind = drop_at z rest zones_end e
