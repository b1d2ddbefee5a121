-- What the tests of a partial choice ask, of a search that runs; and what a partial choice may reach once others were
-- tried.
use Rattle.std.proofs.Common.{◌≡◌, ℕ, ◌≤◌, List, length, refl, ap, arith}
use Rattle.model.specs.Limits.{max_objectives}
use Rattle.groups.specs.declared.Task as DT
use Rattle.branch_directions.specs.declared.Directions as DD
use Rattle.branch_pruning.specs.declared.Progress as DP
use Rattle.branch_pruning.specs.Tests.{Reached, Searched}
use Rattle.branch_pruning.proofs.Reaches.{reached_same}
use Rattle.branch_search.specs.States.{problem_of, spent, Ready, Running, Still, Meeting}
use Rattle.branch_search.proofs.ArchivedWords.{archived_small}

pub running_searched :
    {d : DD.Directions} {task : DT.Task} {ds s work : List ℕ} → Ready d task ds s work →
    length task.ceilings ≡ max_objectives → {work' : List ℕ} {run : DP.Progress} → Still task work work' →
    Running (problem_of d task ds s work) d task (length ds) work' run → Searched d work' run
running_searched {d} {task} {ds} {s} {work} h four {work'} {run} still running =
    let wide : d.objectives ≤ length task.ceilings = omega (arith, four, h.planned.sensible.few) in
    record {
      sensible = h.planned.sensible;
      long = omega (arith, h.long, still.long);
      measured = running.measured;
      few = omega (arith, running.few, h.room_small);
      small =
          archived_small d task ds s work wide h.limited (length ds) run.points work'
          running.archived.reached;
    }

-- one partial choice less may be opened
pub reached_spent :
    {d : DD.Directions} {work : List ℕ} {run less : DP.Progress} {b reach : List ℕ} → less ≡ spent run →
    Reached d work run b reach → Reached d work less b reach
reached_spent {run = run} e h =
    let points = ap (λ (r : DP.Progress). r.points) e in
    let zones = ap (λ (r : DP.Progress). r.zones) e in
    reached_same refl points zones h

-- while no complete choice is met, what was reached is
pub reached_idle :
    {d : DD.Directions} {work : List ℕ} {run : DP.Progress} {work' : List ℕ} {run' : DP.Progress} {b reach : List ℕ}
    {seen : ℕ} → Meeting work run work' run' → Reached d work run b reach → seen ≡ run.meets → seen ≡ run'.meets →
    Reached d work' run' b reach
reached_idle {run = run} {run' = run'} m h before after =
    let same : run'.meets ≡ run.meets = omega arith in
    let (work, points, zones) = m.idle same in
    reached_same work points zones h
