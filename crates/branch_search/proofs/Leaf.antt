-- A complete choice: its bound is its costs, it is the only completion of itself, and taking it in covers it.
use Rattle.std.proofs.Common.{◌≡◌, ℕ, ◌<◌, ◌≤◌, true, false, List, length, get_or, take, drop, sym, refl, ap, ◌∙◌}
use Rattle.std.proofs.Common.{subst, arith, length-take-le, get_or-take, take-take, ext_get_or}
use mathlib.Core.List.{Memᴰ as In}
use Rattle.model.specs.Problems.{Problem}
use Rattle.model.specs.Costs.{is_choice, cost_of, costs_of}
use Rattle.model.specs.Frontiers.{Point, point}
use Rattle.model.specs.Core.{under, core_consistent, CoreReached}
use Rattle.model.specs.Archive.{weighted, Covered, Archived, Follows, Zoned}
use Rattle.model.proofs.Bits.{true_false}
use Rattle.model.proofs.Points.{point_eq}
use Rattle.model.proofs.Choices.{choice_length}
use Rattle.model.proofs.Core.{core_under}
use Rattle.model.proofs.Archive.{archived_wide}
use Rattle.model.proofs.Zones.{zones_follow}
use Rattle.model.proofs.Totals.{totals_from_length}
use Rattle.groups.specs.Groups.{tables_over}
use Rattle.rows.specs.Rows.{list_in}
use Rattle.groups.specs.Sources.{source_in}
use Rattle.groups.specs.declared.Task as DT
use Rattle.branch_archive.specs.declared.Taken as DA
use Rattle.branch_archive.specs.Says.{Meets, Takes}
use Rattle.branch_directions.specs.Directions.{max_directions, directions_of, width_of, lead_weights, lead_at, Sensible}
use Rattle.branch_directions.specs.declared.Directions as DD
use Rattle.branch_directions.proofs.DirectionLaws.{directions_costs, directions_lead}
use Rattle.layout.specs.Layout.{zones_end}
use Rattle.branch_zones.specs.Zones.{corners_in, Measured, SplitAt}
use Rattle.branch_zones.proofs.ZoneRows.{corners_wide}
use Rattle.branch_buckets.specs.Bounds.{costs_over, Agree}
use Rattle.branch_buckets.proofs.Bounds.{bound_exact}
use Rattle.branch_pruning.specs.declared.Progress as DP
use Rattle.branch_pruning.specs.Tests.{zones_of}
use Rattle.branch_search.specs.declared.Node as DN
use Rattle.branch_search.specs.States.{plan_in, archive_in, problem_of, leaf, met_with, Completes, AllCovered}
use Rattle.branch_search.specs.States.{Standing, OpenedFrom}
use Rattle.branch_search.proofs.Meeting.{meeting_met}
use Rattle.branch_search.proofs.Memory.{still_trans, framed_zones, framed_still, zones_still, zones_rows}
use Rattle.branch_directions.proofs.Widths.{lead_inside, width_few}
use Rattle.branch_search.proofs.Completions.{costs_over_lem, costs_over_wide}
use Rattle.branch_search.proofs.Zoning.{zoned_split}

-- with the leading weights by another name
pub weighed :
    {p n room : ℕ} {ws us v x : List ℕ} {points limit : ℕ} {work : List ℕ} {t : DA.Taken} {work' : List ℕ} →
    us ≡ ws → Takes p n room us v x points limit work t work' → Takes p n room ws v x points limit work t work'
weighed {p} {n} {room} {ws} {us} {v} {x} {points} {limit} {work} {t} {work'} e h =
    subst (λ (u : List ℕ). Takes p n room u v x points limit work t work') e h

-- a partial choice with no variable left
pub leaf_standing :
    {d : DD.Directions} {task : DT.Task} {ds s work : List ℕ} {run : DP.Progress} {node : DN.Node} →
    Standing d task ds s work run node → node.depth ≡ length ds →
    Standing d task ds s work run (leaf ds node.choice node.bound)
leaf_standing h e = record { ready = h.ready; running = h.running; partial = rw e at h.partial }

-- and what is then ensured
pub leaf_opened :
    (d : DD.Directions) (task : DT.Task) (ds s work : List ℕ) (run : DP.Progress) (work' : List ℕ)
    (run' : DP.Progress) (node : DN.Node) → node.depth ≡ length ds →
    OpenedFrom d task ds s (leaf ds node.choice node.bound) work run work' run' →
    OpenedFrom d task ds s node work run work' run'
leaf_opened d task ds s work run work' run' node e o =
    record {
      still = o.still;
      running = o.running;
      follows = o.follows;
      fewer = o.fewer;
      meeting = o.meeting;
      covered = λ some y m g.
          o.covered some y m
          (subst (λ (k : ℕ). Agree (plan_in work) k (take (length ds) node.choice) y.choice) e g);
    }

module _
    {d : DD.Directions} {task : DT.Task} {ds s work : List ℕ} {run : DP.Progress} {values acc : List ℕ}
    (h : Standing d task ds s work run (leaf ds values acc)) (wide : max_directions ≡ length acc) where
  abbrev problem : Problem
  problem = problem_of d task ds s work

  abbrev x : List ℕ
  x = take (length ds) values

  abbrev ceilings : List ℕ
  ceilings = take d.objectives task.ceilings

  abbrev costs : List ℕ
  costs = take d.objectives acc

  abbrev source_costs : List ℕ
  source_costs = costs_over d ds s (source_in work task.records) x

  sensible : Sensible d
  sensible = h.ready.planned.sensible

  exact_at : (j : ℕ) → j < width_of d → get_or acc j 0 ≡ get_or (directions_of d source_costs) j 0
  exact_at j l = h.partial.exact j l ∙ bound_exact h.ready.sound x h.partial.choice j l

  whole : take (width_of d) acc ≡ directions_of d source_costs
  whole =
      let long : length (take (width_of d) acc) ≡ width_of d = length-take-le (width_of d) acc
      (omega (arith, width_few d sensible)) in
      ext_get_or 0 _ _ (long ∙ sym (costs_over_wide d ds s (source_in work task.records) x))
      (λ j l.
      let m : j < width_of d = omega arith in get_or-take (width_of d) acc j 0 m ∙ exact_at j m)

  source_wide : length source_costs ≡ d.objectives
  source_wide = totals_from_length d.objectives 0 (cost_of ds x) (tables_over ds s (source_in work task.records))

  in_front : costs ≡ source_costs
  in_front =
      sym (take-take d.objectives (width_of d) acc (omega arith))
      ∙ ap (λ (u : List ℕ). take d.objectives u) whole
      ∙ directions_costs d source_costs source_wide

  leaf_costs : costs ≡ costs_of problem x
  leaf_costs = in_front ∙ sym (costs_over_lem d task ds s work x)

  pub leaf_wide : length (take d.objectives acc) ≡ d.objectives
  leaf_wide = ap length in_front ∙ source_wide

  pub leaf_lead : get_or acc (lead_at d) 0 ≡ weighted (lead_weights d) (take d.objectives acc)
  leaf_lead =
      exact_at (lead_at d) (lead_inside d sensible) ∙ directions_lead d source_costs sensible source_wide
      ∙ ap (λ (u : List ℕ). weighted (lead_weights d) u) (sym in_front)

  only_choice : (y : List ℕ) → is_choice ds y ≡ true → Completes (plan_in work) (length ds) (leaf ds values acc) y
      → x ≡ y
  only_choice y c g =
      let long = choice_length ds x h.partial.choice in
      ext_get_or 0 x y (long ∙ sym (choice_length ds y c))
      (λ v l. g v l (h.ready.sound.tested.ordered.position v (omega arith)))

  leaf_only :
      (y : Point) → CoreReached problem y → Completes (plan_in work) (length ds) (leaf ds values acc) y.choice →
      y ≡ point costs x
  leaf_only y m g =
      let e : x ≡ y.choice = only_choice y.choice m.complete g in
      point_eq (m.exact ∙ ap (λ (u : List ℕ). costs_of problem u) (sym e) ∙ sym leaf_costs) (sym e)

  -- what covers the point covers the completions
  leaf_covers :
      (archive : List Point) (limit : ℕ) →
      (CoreReached problem (point costs x) → Covered (lead_weights d) archive limit (point costs x)) →
      AllCovered problem d (Completes (plan_in work) (length ds) (leaf ds values acc)) archive limit
  leaf_covers archive limit c y m g =
      let e = leaf_only y m g in
      subst (λ (u : Point). Covered (lead_weights d) archive limit u) (sym e)
      (c (subst (λ (u : Point). CoreReached problem u) e m))

  -- over a ceiling
  pub over_covers :
      under (take d.objectives acc) ceilings ≡ false →
      AllCovered problem d (Completes (plan_in work) (length ds) (leaf ds values acc))
      (archive_in d (length ds) work run)
      run.limit
  over_covers o = leaf_covers _ _ (λ m. absurd (true_false (core_under problem (point costs x) m) o))

  leaf_reached : under costs ceilings ≡ true → CoreReached problem (point costs x)
  unfolding core_consistent
  leaf_reached u = record { complete = h.partial.choice; allowed = rw (← leaf_costs) u; exact = leaf_costs }

  -- taken in
  module _
      (allowed : under (take d.objectives acc) ceilings ≡ true)
      (early : get_or acc (lead_at d) 0 < run.limit)
      (v : List ℕ) (front : take d.objectives v ≡ take d.objectives acc) (t : DA.Taken) (work' : List ℕ)
      (takes :
      Takes d.objectives (length ds) task.room (lead_weights d) v values run.points run.limit work t
      work') where
    abbrev taken : List Point
    taken = list_in d.objectives (length ds) work' 0 t.points

    same_point : point (take d.objectives v) x ≡ point costs x
    same_point = point_eq front refl

    met :
        Archived problem (lead_weights d) taken t.limit
        × Follows (lead_weights d) (archive_in d (length ds) work run) run.limit taken t.limit
        × Covered (lead_weights d) taken t.limit (point costs x)
    met =
        let meets = subst
        (λ (y : Point). Meets (lead_weights d) (archive_in d (length ds) work run) run.limit y taken t.limit)
        same_point takes.meets in
        meets problem h.running.archived (leaf_reached allowed) (omega (arith, leaf_lead))

    zoned :
        Zoned d.objectives ceilings (lead_weights d) taken t.limit
        (corners_in d.objectives (zones_of work') 0 run.zones)
    zoned =
        let corners = corners_in d.objectives (zones_of work) 0 run.zones in
        rw (framed_zones takes.frame)
        (zones_follow d.objectives ceilings corners met.1 (archived_wide h.running.archived)
        (archived_wide met.0) h.running.zoned)

    measured : Measured d (zones_of work') run.zones
    measured = rw (framed_zones takes.frame) h.running.measured

    pub leaf_kept :
        1 ≤ run.meets →
        OpenedFrom d task ds s (leaf ds values acc) work run work' (met_with run t.points run.zones t.limit)
    leaf_kept some =
        record {
          still = framed_still takes.frame task h.ready.planned.few;
          running = record {
            few = takes.few;
            archived = met.0;
            distinct = takes.distinct;
            measured = measured;
            zoned = zoned;
          };
          follows = met.1;
          fewer = omega arith;
          meeting = meeting_met some;
          covered = λ left. leaf_covers taken t.limit (λ m. met.2);
        }

    -- and out of the zones
    module _ (added : t.added ≡ true) (work'' : List ℕ) (m : ℕ) (long : length work'' ≡ length work')
        (behind : drop zones_end work'' ≡ drop zones_end work') (measured'' : Measured d (zones_of work'') m)
        (parts : SplitAt d.objectives (take d.objectives v)
        (corners_in d.objectives (zones_of work') 0 run.zones)
        (corners_in d.objectives (zones_of work'') 0 m)) where
      same_list : list_in d.objectives (length ds) work'' 0 t.points ≡ taken
      same_list = zones_rows work' work'' long behind d.objectives (length ds) 0 t.points

      inside : In (point costs x) taken
      inside = subst (λ (y : Point). In y taken) same_point (takes.stored added)

      zoned_after :
          Zoned d.objectives ceilings (lead_weights d) taken t.limit
          (corners_in d.objectives (zones_of work'') 0 m)
      zoned_after =
          zoned_split d.objectives ceilings (lead_weights d) taken t.limit
          (corners_in d.objectives (zones_of work') 0 run.zones) (corners_in d.objectives (zones_of work'') 0 m)
          (corners_wide sensible measured) (point costs x) inside leaf_wide (rw front at parts) zoned

      pub leaf_split :
          1 ≤ run.meets →
          OpenedFrom d task ds s (leaf ds values acc) work run work'' (met_with run t.points m t.limit)
      leaf_split some =
          record {
            still =
                still_trans (framed_still takes.frame task h.ready.planned.few)
                (zones_still work' work'' long behind task);
            running = record {
              few = takes.few;
              archived = rw same_list met.0;
              distinct = rw same_list takes.distinct;
              measured = measured'';
              zoned = rw same_list zoned_after;
            };
            follows = rw same_list met.1;
            fewer = omega arith;
            meeting = meeting_met some;
            covered = λ left. rw same_list (leaf_covers taken t.limit (λ m. met.2));
          }
