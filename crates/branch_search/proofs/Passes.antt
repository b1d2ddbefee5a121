-- A pass begins at the empty choice, which every choice completes; and what is left after one: the frontier, or more of
-- it than there is room for.
use Rattle.std.proofs.Common.{◌≡◌, ℕ, ◌*◌, ◌<◌, ◌≤◌, true, false, List, length, get_or, take, drop, replicate, sym}
use Rattle.std.proofs.Common.{refl, ap, ◌∙◌, subst, arith, length-take-le, le-ltb, lt-ltb}
use Rattle.model.specs.Basics.{All}
use Rattle.model.specs.Limits.{max_variables, byte_end}
use Rattle.model.specs.Problems.{Problem, Word}
use Rattle.model.specs.Frontiers.{Point, sorted}
use Rattle.model.specs.Core.{WordCeiling, core_frontier, CoreReached}
use Rattle.model.specs.Archive.{weighted, Distinct}
use Rattle.model.proofs.Bits.{true_false}
use Rattle.model.proofs.Elements.{all_take}
use Rattle.model.proofs.Frontier.{reached_width, reached_length}
use Rattle.model.proofs.Core.{core_under, under_ceilings}
use Rattle.model.proofs.Archive.{archived_wide}
use Rattle.model.proofs.ArchiveEnd.{archive_frontier, archive_full}
use Rattle.model.proofs.Sorting.{AllSized}
use Rattle.model.proofs.Distinct.{sorted_length}
use Rattle.groups.specs.Groups.{tables_over}
use Rattle.groups.specs.Sources.{source_in, source_problem}
use Rattle.groups.specs.declared.Task as DT
use Rattle.rows.specs.Rows.{costs_in, list_in, Framed}
use Rattle.rows.proofs.RowParts.{rows_length}
use Rattle.branch_directions.specs.Directions.{width_of, lead_weights, Sensible}
use Rattle.branch_directions.specs.declared.Directions as DD
use Rattle.branch_buckets.specs.Bounds.{base_at, bound_at}
use Rattle.branch_buckets.proofs.Bounds.{bound_limit}
use Rattle.branch_pruning.specs.declared.Progress as DP
use Rattle.branch_search.specs.declared.Explored as DE
use Rattle.branch_search.specs.declared.Effort as DF
use Rattle.branch_search.specs.declared.Node as DN
use Rattle.branch_search.specs.States.{no_limit, plan_in, archive_in, problem_of}
use Rattle.branch_search.specs.States.{Ready, Running, Partial, Still}
use Rattle.branch_search.specs.States.{Standing, OpenedFrom, Between, Passed, ExploredSays, unended, LeftOver}
use Rattle.branch_search.specs.Passes.{ZonesWritten, ZonesHold}
use Rattle.branch_search.proofs.Memory.{still_trans, problem_still, ready_still, framed_still, zones_still}
use Rattle.branch_search.proofs.Memory.{zones_rows}
use Rattle.branch_search.proofs.ArchivedWords.{words_below}
use Rattle.branch_search.proofs.Archives.{archived_between, between_archived}
use Rattle.model.proofs.Zeros.{zeros_at, zeros_choice, front_same}

-- the empty choice with its bound
abbrev pub root_node : List ℕ → DN.Node
root_node b = record { depth = 0; choice = replicate max_variables 0; bound = b }

-- where a pass begins
abbrev pub root_run : ℕ → ℕ → ℕ → ℕ → DP.Progress
root_run points zones limit left =
    record { points = points; zones = zones; limit = limit; left = left; done = 0; meets = 9223372036854775808 }

module _ {d : DD.Directions} {task : DT.Task} {ds s work : List ℕ} (h : Ready d task ds s work) where
  abbrev problem : Problem
  problem = problem_of d task ds s work

  sensible : Sensible d
  sensible = h.planned.sensible

  -- what holds of the problem with the directions' objectives holds of the task's
  abbrev over : ℕ → Problem
  over p =
      record {
        objectives = p;
        ceilings = take p task.ceilings;
        domains = ds;
        tables = tables_over ds s (source_in work task.records);
      }

  of_task : (P : Problem → Type 0) → P problem → P (source_problem task ds s work)
  of_task P held = subst (λ (p : ℕ). P (over p)) h.objectives held

  -- ## the start

  -- an archive of the task's problem, with the directions' objectives
  pub own_between :
      {points : ℕ} → Between (source_problem task ds s work) task.room work points →
      Between (problem_of d task ds s work) task.room work points
  own_between {points} b =
      subst (λ (p : ℕ). Between (over p) task.room work points) (sym h.objectives) b

  root_partial :
      (bytes : (at : ℕ) → get_or s at 0 < byte_end) (b : List ℕ) →
      ((j : ℕ) → j < width_of d →
      get_or b j 0 ≡ base_at d ds s (plan_in work) task.records (replicate (length ds) 0) j) →
      Partial d task.records ds s (plan_in work) 0 (replicate (length ds) 0) b
  unfolding bound_at
  root_partial bytes b is =
      let choice = zeros_choice ds h.planned.small in
      record {
        short = omega arith;
        choice = choice;
        unset = λ v l p. zeros_at (length ds) v;
        exact = is;
        small = λ j l.
            let zeros : List ℕ = replicate (length ds) 0 in
            let limit = bound_limit h.sound zeros choice j l h.planned bytes 0 (omega arith) in
            omega (arith, is j l, limit);
      }

  -- the zones are those that the archive leaves
  module _
      {points limit : ℕ} (between : Between (source_problem task ds s work) task.room work points)
      (sums : (i : ℕ) → i < points → weighted (lead_weights d) (costs_in d.objectives work i) ≤ limit) (left : ℕ)
      {work' : List ℕ} {m : ℕ} (written : ZonesWritten d work work' m)
      (hold : ZonesHold d points task.ceilings work work' m) where
    abbrev run : DP.Progress
    run = root_run points m limit left

    zones_kept : Still task work work'
    zones_kept = zones_still work work' written.long written.behind task

    same_points : archive_in d (length ds) work' run ≡ list_in d.objectives (length ds) work 0 points
    same_points = zones_rows work work' written.long written.behind d.objectives (length ds) 0 points

    running : Running problem d task (length ds) work' run
    running =
        record {
          few = between.few;
          archived = rw same_points (between_archived (own_between between) (lead_weights d) limit sums);
          distinct = rw same_points (own_between between).distinct;
          measured = written.measured;
          zoned = rw same_points (hold (length ds) limit (lead_weights d));
        }

    pub root_standing :
        ((at : ℕ) → get_or s at 0 < byte_end) → (b : List ℕ) →
        ((j : ℕ) → j < width_of d →
        get_or b j 0 ≡ base_at d ds s (plan_in work') task.records (replicate (length ds) 0) j) →
        Standing d task ds s work' (root_run points m limit left) (root_node b)
    root_standing bytes b is =
        let zeros : take {A = ℕ} (length ds) (replicate max_variables 0) ≡ replicate (length ds) 0 =
        front_same (length ds) max_variables 0 h.planned.variables in
        record {
          ready = ready_still zones_kept d ds s h;
          running =
              subst (λ (q : Problem). Running q d task (length ds) work' run)
              (sym (problem_still zones_kept d ds s)) running;
          partial = rw (zeros, zones_kept.plan) (root_partial bytes b (rw zones_kept.plan at is));
        }

    -- every choice completes the empty one
    pub root_passed :
        (b : List ℕ) (work'' : List ℕ) (run'' : DP.Progress) →
        OpenedFrom d task ds s (root_node b) work' (root_run points m limit left) work'' run'' →
        Passed (problem_of d task ds s work) d task (length ds) left work work'' run''
    root_passed b work'' run'' o =
        record {
          still = still_trans zones_kept o.still;
          running = subst (λ (q : Problem). Running q d task (length ds) work'' run'') same_problem o.running;
          fewer = o.fewer;
          covered = λ some y m'.
              o.covered some y (subst (λ (q : Problem). CoreReached q y) (sym same_problem) m')
              (λ v l p. absurd (omega arith));
        }
      where
        same_problem : problem_of d task ds s work' ≡ problem
        same_problem = problem_still zones_kept d ds s

  -- ## the end

  -- sums of consistent choices are below the limit while nothing is left out
  module _ (four : d.objectives ≤ length task.ceilings) where
    sum_below : (y : Point) → CoreReached problem y → weighted (lead_weights d) y.costs < no_limit
    sum_below y m =
        let p = d.objectives in
        let wide : length y.costs ≡ p = reached_width problem y m in
        let long = wide ∙ sym (length-take-le p task.ceilings four) in
        let limits = all_take WordCeiling p task.ceilings h.limited in
        let words : All Word y.costs =
        under_ceilings y.costs (take p task.ceilings) long (core_under problem y m) limits in
        words_below d sensible y.costs wide words

    module _
        {left : ℕ} {work' : List ℕ} {run : DP.Progress}
        (passed : Passed (problem_of d task ds s work) d task (length ds) left work work' run) where
      abbrev archive : List Point
      archive = archive_in d (length ds) work' run

      sized : AllSized d.objectives (length ds) archive
      sized a i =
          let reached = passed.running.archived.reached a i in
          (archived_wide passed.running.archived a i, reached_length problem a reached)

      pub passed_between : Between (source_problem task ds s work) task.room work' run.points
      passed_between =
          of_task (λ q. Between q task.room work' run.points)
          (archived_between passed.running.few passed.running.archived passed.running.distinct)

      -- more points than room
      pub passed_full :
          1 ≤ run.left → length d.weights ≡ 16 → task.room < run.points → (effort : DF.Effort) →
          ExploredSays task (length ds) (core_frontier (source_problem task ds s work)) work work'
          (record { decided = true; full = true; count = 0; effort = effort })
      passed_full some weights more effort =
          let long : length (lead_weights d) ≡ d.objectives =
          length-take-le d.objectives (drop (4 * 0) d.weights) (omega (arith, sensible.few)) in
          let held =
          archive_full passed.running.archived (passed.covered some) (omega arith) sensible.every
          passed.running.distinct in
          let rows = rows_length d.objectives (length ds) work' 0 run.points in
          let longer : task.room < length (core_frontier problem) = omega (arith, held, rows) in
          record {
            full = λ e. sym (lt-ltb task.room _ (of_task (λ q. task.room < length (core_frontier q)) longer));
            count = λ e. refl;
            list = λ e f. absurd (true_false refl f);
            still = passed.still;
          }

      -- nothing was left out
      pub passed_list :
          1 ≤ run.left → run.points ≤ task.room → run.limit ≡ no_limit → (work'' : List ℕ) → Framed work' work'' →
          (Distinct (list_in d.objectives (length ds) work' 0 run.points) →
          list_in d.objectives (length ds) work'' 0 run.points
          ≡ sorted (list_in d.objectives (length ds) work' 0 run.points)) →
          (effort : DF.Effort) →
          ExploredSays task (length ds) (core_frontier (source_problem task ds s work)) work work''
          (record { decided = true; full = false; count = run.points; effort = effort })
      passed_list some few none work'' framed order effort =
          let distinct = passed.running.distinct in
          let is : sorted archive ≡ core_frontier problem =
          archive_frontier passed.running.archived (passed.covered some) (λ y m. rw none (sum_below y m)) in
          let sorts = sorted_length d.objectives (length ds) archive sized distinct in
          let rows = rows_length d.objectives (length ds) work' 0 run.points in
          let long : length (core_frontier (source_problem task ds s work)) ≡ run.points =
          of_task (λ q. length (core_frontier q) ≡ run.points) (sym (ap length is) ∙ sorts ∙ rows) in
          record {
            full = λ e. sym (le-ltb task.room (length (core_frontier (source_problem task ds s work))) (omega arith));
            count = λ e. sym long;
            list = λ e f.
                of_task (λ q. list_in q.objectives (length ds) work'' 0 run.points ≡ core_frontier q)
                (order distinct ∙ is);
            still = still_trans passed.still (framed_still framed task h.planned.few);
          }

-- what is found in memory that is still what it was is found in the memory before
pub explored_still :
    {task : DT.Task} {work work' : List ℕ} → Still task work work' →
    (ds s work'' : List ℕ) (e : DE.Explored) →
    ExploredSays task (length ds) (core_frontier (source_problem task ds s work')) work' work'' e →
    ExploredSays task (length ds) (core_frontier (source_problem task ds s work)) work work'' e
explored_still {task} {work} {work'} k ds s work'' e h =
    let same : source_problem task ds s work' ≡ source_problem task ds s work = rw k.source in
    let g =
    subst (λ (u : Problem). ExploredSays task (length ds) (core_frontier u) work' work'' e) same h in
    record { full = g.full; count = g.count; list = g.list; still = still_trans k g.still }

-- no pass ended it: what is left is an archive
pub undecided :
    (task : DT.Task) (n : ℕ) (fs : List Point) (q : Problem) (budget : ℕ) (work work' : List ℕ) (points : ℕ)
    (effort : DF.Effort) → Still task work work' → Between q task.room work' points → effort.left ≤ budget →
    ExploredSays task n fs work work' (unended points effort)
    × LeftOver q task.room budget work' (unended points effort)
undecided task n fs q budget work work' points effort k b less = (
  record {
    full = λ e. absurd (true_false e refl);
    count = λ e. absurd (true_false e refl);
    list = λ e f. absurd (true_false e refl);
    still = k;
  },
  record { between = λ e. b; fewer = less },
)

-- an end: nothing is left to go on from
pub ended_left :
    (q : Problem) (room budget : ℕ) (work : List ℕ) (e : DE.Explored) → e.decided ≡ true →
    e.effort.left ≤ budget → LeftOver q room budget work e
ended_left q room budget work e is less = record { between = λ no. absurd (true_false is no); fewer = less }
