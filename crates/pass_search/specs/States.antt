-- What the search's functions rely on and ensure.
use Rattle.std.specs.Prelude.{◌≡◌, Bool, true, ◌||◌, not, List, [], ◌∷◌, ◌++◌, ℕ, ◌+◌, ◌-◌, ◌*◌, ◌≤◌, ◌<◌}
use Rattle.std.specs.Prelude.{length, get_or, take, drop, replicate, Option, Some, None}
use Rattle.model.specs.Basics.{when}
use Rattle.model.specs.Limits.{max_objectives, max_points}
use Rattle.model.specs.Problems.{Table, Problem, has_variable}
use Rattle.model.specs.Core.{under}
use Rattle.model.specs.Costs.{totals_from}
use Rattle.model.specs.Frontiers.{Point, point}
use Rattle.model.specs.Bounds.{prefix_ok, least_of}
use Rattle.model.specs.Search.{Held, nothing, just, matched, late, dead, tries, opens}
use Rattle.model.specs.Suffixes.{sharper}
use Rattle.layout.specs.Layout.{gains_at}
use Rattle.groups.specs.Groups.{tables_over, places_in, Grouped}
use Rattle.groups.specs.declared.Task as DT
use Rattle.rows.specs.Rows.{list_in}
use Rattle.pass_search.specs.declared.Partial as DP
use Rattle.pass_search.specs.declared.Branch as DC
use Rattle.pass_search.specs.declared.Met as DM

-- what a pass holds
abbrev pub held_of : ℕ → ℕ → Option DM.Met → Held
held_of p n None = nothing
held_of p n (Some h) = just (point (take p h.costs) (take n h.choice))

-- the tables in work memory, the problem that a task makes of them, and the first k listed points
abbrev pub tables_in : ℕ → List ℕ → List ℕ → List ℕ → List Table
tables_in r ds s work = tables_over ds s (places_in work r)

abbrev pub problem_in : DT.Task → List ℕ → List ℕ → List ℕ → Problem
problem_in task ds s work =
    record {
      objectives = task.objectives;
      ceilings = take task.objectives task.ceilings;
      domains = ds;
      tables = tables_in task.records ds s work;
    }

abbrev pub listed_in : DT.Task → List ℕ → List ℕ → ℕ → List Point
listed_in task ds work k = list_in task.objectives (length ds) work 0 k

-- the prefix of a partial choice
abbrev pub prefix_of : DP.Partial → List ℕ
prefix_of x = take x.len x.values

-- what the test for a hopeless branch computes: the model's `dead`, of any problem with these ceilings
abbrev pub dead_under : List ℕ → List Point → Held → List ℕ → Bool
dead_under ceilings ps h b = not (under b ceilings) || (matched b ps || late h b)

-- what the variables from j on add to a bound, for p objectives
abbrev pub gains_in : ℕ → List ℕ → ℕ → List ℕ
gains_in p work j = take p (drop (gains_at + 4 * j) work)

-- the rule of the search: the bound with the gains of the variables after the prefix is dead
abbrev pub rule_of : Problem → List ℕ → List Point → List ℕ → Held → Bool
rule_of q work ps pre h = dead q ps h (sharper q (gains_in q.objectives work) pre)

-- memory in which a pass may run: a task's grouped records, k listed points, and gains, of which a complete choice has
-- none
pub record Setting (task : DT.Task) (k : ℕ) (ds s work : List ℕ) : Type 0 where
  pub grouped : Grouped ds s work task.records
  pub objectives : task.objectives ≤ max_objectives
  pub count : k ≤ max_points
  pub last : gains_in max_objectives work (length ds) ≡ replicate max_objectives 0

-- a partial choice stands for its prefix, with the prefix's bound in all four objectives
pub record Stands (r : ℕ) (ds s work : List ℕ) (x : DP.Partial) : Type 0 where
  pub short : x.len ≤ length ds
  pub good : prefix_ok ds (prefix_of x) ≡ true
  pub exact : x.bound ≡ totals_from max_objectives 0 (least_of ds (prefix_of x)) (tables_in r ds s work)

-- what the records that variable v does not touch add to the bound of a prefix
abbrev pub untouched : ℕ → List ℕ → List ℕ → Table → ℕ
untouched v ds pre t = when (not (has_variable v t.scope)) (least_of ds pre t)

abbrev pub rest_of : ℕ → List ℕ → List ℕ → List ℕ → DP.Partial → List ℕ
rest_of r ds s work x = totals_from max_objectives 0 (untouched x.len ds (prefix_of x)) (tables_in r ds s work)

-- a branch: a partial choice with a variable left, one of its values or the end of them, and that sum
pub record Branching (r : ℕ) (ds s work : List ℕ) (b : DC.Branch) : Type 0 where
  pub stands : Stands r ds s work b.partial
  pub more : b.partial.len < length ds
  pub value : b.value ≤ get_or ds b.partial.len 0
  pub rest : b.rest ≡ rest_of r ds s work b.partial

-- the search of all that goes on from a prefix, and of its values from v on
abbrev pub opens_from : Problem → List ℕ → List Point → List ℕ → Held → Held
opens_from q work ps pre h = opens q ps (rule_of q work ps) (drop (length pre) q.domains) pre h

abbrev pub tries_from : (q : Problem) (work : List ℕ) (ps : List Point) (pre : List ℕ) (v : ℕ) (h : Held) → Held
tries_from q work ps pre v h =
    tries (get_or q.domains (length pre) 0 - v) v (λ a g. opens_from q work ps (pre ++ (a ∷ [])) g) h
