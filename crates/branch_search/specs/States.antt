-- What the second form of the search relies on and ensures. Work memory: zones, the places of the problem's records,
-- the archive, and the plan.
use Rattle.std.specs.Prelude.{◌≡◌, ℕ, ◌+◌, ◌-◌, ◌<◌, ◌≤◌, true, false, not, List, length, take, drop, nat_lt}
use Rattle.std.specs.Prelude.{slice_index, slice_range, slice_set}
use mathlib.Core.List.{Memᴰ as In}
use Rattle.model.specs.Basics.{All, when}
use Rattle.model.specs.Limits.{max_points}
use Rattle.model.specs.Problems.{Problem}
use Rattle.model.specs.Vectors.{at_most}
use Rattle.model.specs.Costs.{is_choice}
use Rattle.model.specs.Frontiers.{Point}
use Rattle.model.specs.Core.{WordCeiling, CoreReached}
use Rattle.model.specs.Archive.{Covered, Archived, Distinct, Follows, Zoned}
use Rattle.layout.specs.Layout.{list_at, list_end}
use Rattle.rows.specs.Rows.{list_in}
use Rattle.groups.specs.Groups.{tables_over}
use Rattle.groups.specs.Sources.{source_in}
use Rattle.groups.specs.declared.Task as DT
use Rattle.branch_directions.specs.Directions.{direction_end, width_of, lead_weights}
use Rattle.branch_directions.specs.declared.Directions as DD
use Rattle.branch_zones.specs.Zones.{corners_in, Measured}
use Rattle.layout.specs.Places.{position_in, numbers_at}
use Rattle.branch_buckets.specs.Bounds.{bound_at, Agree}
use Rattle.branch_buckets.specs.Content.{Planned}
use Rattle.branch_buckets.specs.Sound.{Sound}
use Rattle.branch_pruning.specs.declared.Progress as DP
use Rattle.branch_pruning.specs.Tests.{zones_of}
use Rattle.branch_search.specs.declared.Node as DN
use Rattle.branch_search.specs.declared.Explored as DE
use Rattle.branch_search.specs.declared.Effort as DF

-- the plan begins behind the archive
abbrev pub plan_in : List ℕ → List ℕ
plan_in work = drop list_end work

-- the numbers of the archive's rows
abbrev pub rows_in : List ℕ → List ℕ
rows_in work = slice_range work list_at list_end

abbrev pub archive_in : DD.Directions → ℕ → List ℕ → DP.Progress → List Point
archive_in d n work run = list_in d.objectives n work 0 run.points

-- the problem that is searched, with the directions' objectives, which are as many as the task's
abbrev pub problem_of : DD.Directions → DT.Task → List ℕ → List ℕ → List ℕ → Problem
problem_of d task ds s work =
    record {
      objectives = d.objectives;
      ceilings = take d.objectives task.ceilings;
      domains = ds;
      tables = tables_over ds s (source_in work task.records);
    }

-- the limit while nothing is left out: no sum is as large
abbrev pub no_limit : ℕ
no_limit = 18446744073709551615

-- what does not change while a search runs
pub record Ready (d : DD.Directions) (task : DT.Task) (ds s work : List ℕ) : Type 0 where
  pub sound : Sound d task.records ds s (source_in work task.records) (plan_in work)
  pub planned : Planned d task.records ds s (plan_in work)
  pub objectives : d.objectives ≡ task.objectives
  pub some_variable : 1 ≤ length ds
  pub limited : All WordCeiling task.ceilings
  pub room_small : task.room ≤ max_points
  pub long : list_end + numbers_at ≤ length work

-- the archive and the zones
pub record Running
    (q : Problem) (d : DD.Directions) (task : DT.Task) (n : ℕ) (work : List ℕ) (run : DP.Progress) : Type 0 where
  pub few : run.points ≤ task.room + 1
  pub archived : Archived q (lead_weights d) (archive_in d n work run) run.limit
  pub distinct : Distinct (archive_in d n work run)
  pub measured : Measured d (zones_of work) run.zones
  pub zoned : Zoned q.objectives q.ceilings (lead_weights d) (archive_in d n work run) run.limit
      (corners_in d.objectives (zones_of work) 0 run.zones)

-- a partial choice: values at the first k positions, 0 at the others, and its bound in every direction, which does not
-- wrap when more is added
pub record Partial (d : DD.Directions) (r : ℕ) (ds s plan : List ℕ) (k : ℕ) (x acc : List ℕ) : Type 0 where
  pub short : k ≤ length ds
  pub choice : is_choice ds x ≡ true
  pub unset : (v : ℕ) → v < length ds → k ≤ position_in plan v → slice_index x v ≡ 0
  pub exact : (j : ℕ) → j < width_of d → slice_index acc j ≡ bound_at d ds s plan r k x j
  pub small : (j : ℕ) → j < width_of d → slice_index acc j < direction_end

-- a partial choice with the value a of one more variable, v, and the bound that it then has
abbrev pub extended : DN.Node → ℕ → ℕ → List ℕ → DN.Node
extended node v a bound = record { depth = node.depth + 1; choice = slice_set node.choice v a; bound = bound }

-- a complete choice, as a partial choice with no variable left
abbrev pub leaf : List ℕ → List ℕ → List ℕ → DN.Node
leaf ds x bound = record { depth = length ds; choice = x; bound = bound }

-- y has the values of a partial choice
abbrev pub Completes : List ℕ → ℕ → DN.Node → List ℕ → Type 0
Completes plan n node y = Agree plan node.depth (take n node.choice) y

-- the same, but for how far it came, of which nothing is said
abbrev pub reaching : DP.Progress → ℕ → DP.Progress
reaching run done =
    record {
      points = run.points;
      zones = run.zones;
      limit = run.limit;
      left = run.left;
      done = done;
      meets = run.meets;
    }

-- of the partial choices that may be opened this is one
abbrev pub spent : DP.Progress → DP.Progress
spent run =
    record {
      points = run.points;
      zones = run.zones;
      limit = run.limit;
      left = run.left - 1;
      done = run.done;
      meets = run.meets;
    }

-- the pass is given up
abbrev pub stopped : DP.Progress → DP.Progress
stopped run =
    record {
      points = run.points;
      zones = run.zones;
      limit = run.limit;
      left = 0;
      done = run.done;
      meets = run.meets;
    }

-- a complete choice is met, after which there are so many points and zones, and this limit
abbrev pub met_with : DP.Progress → ℕ → ℕ → ℕ → DP.Progress
met_with run points zones limit =
    record {
      points = points;
      zones = zones;
      limit = limit;
      left = run.left;
      done = run.done;
      meets = run.meets - 1;
    }

-- while no complete choice is met, memory stays as it is
pub record Meeting (work : List ℕ) (run : DP.Progress) (work' : List ℕ) (run' : DP.Progress) : Type 0 where
  pub fewer : run'.meets ≤ run.meets
  pub idle : run'.meets ≡ run.meets
      → (work' ≡ work) × (run'.points ≡ run.points) × (run'.zones ≡ run.zones)

-- what stays
pub record Still (task : DT.Task) (work work' : List ℕ) : Type 0 where
  pub long : length work' ≡ length work
  pub plan : plan_in work' ≡ plan_in work
  pub source : source_in work' task.records ≡ source_in work task.records

-- every consistent choice that a test lets through is covered
abbrev pub AllCovered : Problem → DD.Directions → (List ℕ → Type 0) → List Point → ℕ → Type 0
AllCovered q d among archive limit =
    (y : Point) → CoreReached q y → among y.choice → Covered (lead_weights d) archive limit y

-- what opening a partial choice ensures: what was covered stays so, and the completions are covered where the pass was
-- not given up
pub record Opened
    (q : Problem) (d : DD.Directions) (task : DT.Task) (n : ℕ) (plan : List ℕ) (node : DN.Node)
    (work : List ℕ) (run : DP.Progress) (work' : List ℕ) (run' : DP.Progress) : Type 0 where
  pub still : Still task work work'
  pub running : Running q d task n work' run'
  pub follows : Follows (lead_weights d) (archive_in d n work run) run.limit (archive_in d n work' run') run'.limit
  pub fewer : run'.left ≤ run.left
  pub meeting : Meeting work run work' run'
  pub covered : 1 ≤ run'.left → AllCovered q d (Completes plan n node) (archive_in d n work' run') run'.limit

-- what opening a partial choice relies on
pub record Standing
    (d : DD.Directions) (task : DT.Task) (ds s work : List ℕ) (run : DP.Progress) (node : DN.Node) : Type 0 where
  pub ready : Ready d task ds s work
  pub running : Running (problem_of d task ds s work) d task (length ds) work run
  pub partial :
      Partial d task.records ds s (plan_in work) node.depth (take (length ds) node.choice) node.bound

abbrev pub OpenedFrom :
    (d : DD.Directions) (task : DT.Task) (ds s : List ℕ) (node : DN.Node) (work : List ℕ) (run : DP.Progress)
    (work' : List ℕ) (run' : DP.Progress) → Type 0
OpenedFrom d task ds s node work run work' run' =
    Opened (problem_of d task ds s work) d task (length ds) (plan_in work) node work run work' run'

-- so many rows, as points of a problem
abbrev pub points_in : Problem → List ℕ → ℕ → List Point
points_in q work points = list_in q.objectives (length q.domains) work 0 points

-- between passes, and between searches: an archive of so many points. No limit and no direction is in it, so that a
-- search by another plan may go on from it
pub record Between (q : Problem) (room : ℕ) (work : List ℕ) (points : ℕ) : Type 0 where
  pub few : points ≤ room + 1
  pub reached : (a : Point) → In a (points_in q work points) → CoreReached q a
  pub apart :
      (a b : Point) → In a (points_in q work points) → In b (points_in q work points) →
      at_most a.costs b.costs ≡ true → a ≡ b
  pub distinct : Distinct (points_in q work points)

-- after a pass: every consistent choice is covered, where the pass was not given up
pub record Passed
    (q : Problem) (d : DD.Directions) (task : DT.Task) (n : ℕ) (left : ℕ) (work work' : List ℕ) (run' : DP.Progress)
    : Type 0 where
  pub still : Still task work work'
  pub running : Running q d task n work' run'
  pub fewer : run'.left ≤ left
  pub covered :
      1 ≤ run'.left → (y : Point) → CoreReached q y →
      Covered (lead_weights d) (archive_in d n work' run') run'.limit y

-- the list fs is in work memory, or it is longer than the room; or the search was given up
pub record ExploredSays
    (task : DT.Task) (n : ℕ) (fs : List Point) (work work' : List ℕ) (e : DE.Explored) : Type 0 where
  pub full : e.decided ≡ true → e.full ≡ nat_lt task.room (length fs)
  pub count : e.decided ≡ true → e.count ≡ when (not e.full) (length fs)
  pub list : e.decided ≡ true → e.full ≡ false → list_in task.objectives n work' 0 e.count ≡ fs
  pub still : Still task work work'

-- what is said of a search that was given up
abbrev pub unended : ℕ → DF.Effort → DE.Explored
unended points effort = record { decided = false; full = false; count = points; effort = effort }

-- what it leaves: an archive, from which the next one may go on, and what is left of the budget
pub record LeftOver (q : Problem) (room budget : ℕ) (work' : List ℕ) (e : DE.Explored) : Type 0 where
  pub between : e.decided ≡ false → Between q room work' e.count
  pub fewer : e.effort.left ≤ budget
