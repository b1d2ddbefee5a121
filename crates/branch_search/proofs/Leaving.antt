-- What the tests leave out is covered: a partial choice that is dead has no completion that is sought.
use Rattle.std.proofs.Common.{◌≡◌, ℕ, ◌<◌, ◌≤◌, List, length, get_or, take, sym, refl, ap, ◌∙◌, subst, inl, inr, arith}
use Rattle.std.proofs.Common.{length-take-le}
use mathlib.Core.List.{Memᴰ as In}
use Rattle.model.specs.Limits.{max_points}
use Rattle.model.specs.Problems.{Problem}
use Rattle.model.specs.Frontiers.{Point}
use Rattle.model.specs.Core.{CoreReached}
use Rattle.model.specs.Archive.{weighted}
use Rattle.model.proofs.Bits.{true_false}
use Rattle.model.proofs.Vectors.{AtMost, NotLater, at_most_test}
use Rattle.model.proofs.Frontier.{reached_width}
use Rattle.model.proofs.Archive.{follows_refl}
use Rattle.model.proofs.Zones.{dead_covered}
use Rattle.rows.specs.Rows.{costs_in, values_in}
use Rattle.rows.proofs.RowNumbers.{values_long}
use Rattle.rows.proofs.RowPlaces.{listed_row}
use Rattle.groups.specs.Sources.{source_in}
use Rattle.groups.specs.declared.Task as DT
use Rattle.branch_directions.specs.Directions.{max_directions, directions_of, width_of, lead_weights, lead_at}
use Rattle.branch_directions.specs.declared.Directions as DD
use Rattle.branch_directions.proofs.DirectionLaws.{directions_mono, directions_lead}
use Rattle.branch_zones.specs.Zones.{corners_in}
use Rattle.branch_zones.proofs.ZoneRows.{listed_corner, corners_wide}
use Rattle.branch_buckets.specs.Bounds.{costs_over}
use Rattle.branch_pruning.specs.declared.Progress as DP
use Rattle.branch_search.specs.declared.Node as DN
use Rattle.branch_search.specs.States.{plan_in, archive_in, problem_of, stopped, Completes, AllCovered}
use Rattle.branch_search.specs.States.{Standing, OpenedFrom}
use Rattle.branch_pruning.specs.Tests.{zones_of, Untied, Dead}
use Rattle.branch_search.proofs.Memory.{still_refl}
use Rattle.branch_search.proofs.Meeting.{meeting_refl}
use Rattle.branch_directions.proofs.Widths.{lead_inside, width_few}
use Rattle.branch_search.proofs.Completions.{costs_over_lem, costs_over_wide, completion_not_later, completion_bound}
use Rattle.branch_search.proofs.Completions.{completion_above}

module _
    {d : DD.Directions} {task : DT.Task} {ds s work : List ℕ} {run : DP.Progress} {node : DN.Node}
    (h : Standing d task ds s work run node) where
  abbrev problem : Problem
  problem = problem_of d task ds s work

  abbrev archive : List Point
  archive = archive_in d (length ds) work run

  abbrev acc : List ℕ
  acc = node.bound

  -- nothing was done, and nothing had to be; or the pass is given up
  pub opened_same :
      (1 ≤ run.left → AllCovered problem d (Completes (plan_in work) (length ds) node) archive run.limit) →
      OpenedFrom d task ds s node work run work run
  opened_same c =
      record {
        still = still_refl task work;
        running = h.running;
        follows = follows_refl (lead_weights d) archive run.limit;
        fewer = omega arith;
        meeting = meeting_refl work run;
        covered = c;
      }

  -- no more complete choices may be met
  pub opened_stopped : OpenedFrom d task ds s node work run work (stopped run)
  opened_stopped =
      record {
        still = still_refl task work;
        running =
            record {
              few = h.running.few;
              archived = h.running.archived;
              distinct = h.running.distinct;
              measured = h.running.measured;
              zoned = h.running.zoned;
            };
        follows = follows_refl (lead_weights d) archive run.limit;
        fewer = omega arith;
        meeting = record { fewer = omega arith; idle = λ e. (refl, refl, refl) };
        covered = λ some. absurd (omega arith);
      }

  module _ (y : Point) (m : CoreReached problem y) where
    -- its costs, by the records' places
    exact : y.costs ≡ costs_over d ds s (source_in work task.records) y.choice
    exact = m.exact ∙ costs_over_lem d task ds s work y.choice

    pub lead_exact :
        get_or (directions_of d (costs_over d ds s (source_in work task.records) y.choice)) (lead_at d) 0
        ≡ weighted (lead_weights d) y.costs
    lead_exact = rw (← exact) (directions_lead d y.costs h.ready.planned.sensible (reached_width problem y m))

  -- by the leading sum alone
  pub late_covers :
      run.limit ≤ get_or node.bound (lead_at d) 0 →
      AllCovered problem d (Completes (plan_in work) (length ds) node) archive run.limit
  late_covers l y m g =
      let lead = lead_inside d h.ready.planned.sensible in
      let below = completion_bound h.ready.sound h.partial y.choice m.complete g (lead_at d) lead in
      inl (omega (arith, below, lead_exact y m))

  module _ (wide : max_directions ≡ length node.bound) where
    enough : width_of d ≤ length acc
    enough = omega (arith, width_few d h.ready.planned.sensible)

    -- an archived point that may have the costs of a completion has a choice that is not later
    untied_not_later :
        (y : Point) → CoreReached problem y → Completes (plan_in work) (length ds) node y.choice →
        ((i : ℕ) → i < run.points → Untied d (length ds) work node.choice acc i) →
        (a : Point) → In a archive → AtMost (take (width_of d) acc) (directions_of d a.costs) →
        NotLater a.choice y.choice
    untied_not_later y m g none a i low =
        let (j, l, is) = listed_row d.objectives (length ds) work run.points a i in
        let costs : a.costs ≡ costs_in d.objectives work j = ap (λ (t : Point). t.costs) is in
        let choice : a.choice ≡ values_in (length ds) work j = ap (λ (t : Point). t.choice) is in
        let inside : j ≤ max_points = omega (arith, h.running.few, h.ready.room_small) in
        let later = none j l (at_most_test _ _ (rw costs at low)) in
        let long = values_long work j (length ds) in
        let after = completion_not_later h.ready.sound h.partial y.choice m.complete g in
        rw choice (after (values_in (length ds) work j) long later)

    pub dead_covers :
        Dead d (length ds) work run node.choice node.bound →
        AllCovered problem d (Completes (plan_in work) (length ds) node) archive run.limit
    dead_covers (inl l) y m g = late_covers l y m g
    dead_covers (inr (unreached, untied)) y m g =
        let b = take (width_of d) acc in
        let zones = corners_in d.objectives (zones_of work) 0 run.zones in
        let above : AtMost b (directions_of d y.costs) =
        rw (exact y m) (completion_above h.ready.sound h.partial y.choice m.complete g enough) in
        let wide-costs = costs_over_wide d ds s (source_in work task.records) y.choice in
        let long : length b ≡ length (directions_of d y.costs) =
        length-take-le (width_of d) acc enough ∙ sym (rw (← exact y m) at wide-costs) in
        dead_covered (lead_weights d) archive run.limit zones (directions_of d) (directions_mono d) h.running.zoned
        (corners_wide h.ready.planned.sensible h.running.measured) y m b long above
        (λ t i low.
        let (j, l, is) = listed_corner d.objectives (zones_of work) run.zones t i in
        true_false (at_most_test _ _ (subst (λ (u : List ℕ). AtMost b (directions_of d u)) is low)) (unreached j l))
        (untied_not_later y m g untied)
