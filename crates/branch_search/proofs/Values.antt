-- A partial choice whose next variable is known, with what its bucket holds for each value and what was sent on ahead.
use Rattle.std.proofs.Common.{◌≡◌, ℕ, ◌+◌, ◌-◌, ◌<◌, ◌≤◌, List, length, get_or, take, drop, sym, subst, arith}
use Rattle.std.proofs.Common.{length-drop}
use Rattle.model.specs.Limits.{byte_end}
use Rattle.model.specs.Problems.{DomainSize}
use Rattle.model.proofs.Elements.{all_below}
use Rattle.groups.specs.declared.Task as DT
use Rattle.layout.specs.Layout.{list_end}
use Rattle.layout.specs.Places.{numbers_at, order_in}
use Rattle.branch_directions.specs.Directions.{width_of, lead_at}
use Rattle.branch_directions.specs.declared.Directions as DD
use Rattle.branch_directions.proofs.Widths.{lead_inside}
use Rattle.branch_buckets.specs.Content.{Planned}
use Rattle.branch_buckets.specs.Sound.{Tested}
use Rattle.branch_values.specs.Rows.{Holding, next_bound, Bucket, Away}
use Rattle.branch_pruning.specs.declared.Progress as DP
use Rattle.branch_search.specs.declared.Node as DN
use Rattle.branch_search.specs.States.{plan_in, Partial, Standing}
use Rattle.branch_search.proofs.Memory.{lent_plan}
use Rattle.branch_search.proofs.Nodes.{with_next}
use Rattle.branch_search.proofs.Opening.{variable_inside, next_holding, next_exact, next_partial}
use Rattle.branch_search.proofs.Trying.{lead_with}

-- the plan as it is lent
module _
    {d : DD.Directions} {task : DT.Task} {ds s work : List ℕ} {run : DP.Progress} {node : DN.Node}
    (h : Standing d task ds s work run node)
  where
    pub lent_planned : Planned d task.records ds s (take (length work - list_end) (drop list_end work))
    lent_planned = rw (lent_plan work) h.ready.planned

    pub lent_tested : Tested d task.records ds s (take (length work - list_end) (drop list_end work))
    lent_tested = rw (lent_plan work) h.ready.sound.tested

    pub lent_numbers : numbers_at ≤ length (take (length work - list_end) (drop list_end work))
    lent_numbers = rw (lent_plan work) (omega (arith, h.ready.long, length-drop list_end work))

-- the choice is not complete, and v is its next variable
pub record Named
    (d : DD.Directions) (task : DT.Task) (ds s work : List ℕ) (run : DP.Progress) (node : DN.Node) (v : ℕ)
    : Type 0 where
  pub standing : Standing d task ds s work run node
  pub inside : node.depth < length ds
  pub variable : v ≡ order_in (plan_in work) node.depth

module _
    {d : DD.Directions} {task : DT.Task} {ds s work : List ℕ} {run : DP.Progress} {node : DN.Node} {v : ℕ}
    (u : Named d task ds s work run node v)
  where
    pub variable_below : v < length ds
    variable_below =
        subst (λ (i : ℕ). i < length ds) (sym u.variable)
        (variable_inside u.standing.ready.sound u.standing.partial u.inside)

    pub variable_size : DomainSize (get_or ds v 0)
    variable_size = all_below DomainSize ds u.standing.ready.planned.small v 0 variable_below

    value_below : (a : ℕ) → a < get_or ds v 0 → a < get_or ds (order_in (plan_in work) node.depth) 0
    value_below a l = subst (λ (i : ℕ). a < get_or ds i 0) u.variable l

    module _
        (rows away : List ℕ) (held : Bucket d ds s (plan_in work) node.depth v (take (length ds) node.choice) rows)
        (sends : Away d (plan_in work) node.depth (take (length ds) node.choice) away)
      where
        bucket :
            Bucket d ds s (plan_in work) node.depth (order_in (plan_in work) node.depth)
            (take (length ds) node.choice) rows
        bucket =
            subst (λ (i : ℕ). Bucket d ds s (plan_in work) node.depth i (take (length ds) node.choice) rows) u.variable
            held

        pub value_holds : (a : ℕ) → a < get_or ds v 0 → Holding (width_of d) node.bound away rows a
        value_holds a l =
            next_holding u.standing.ready.sound u.standing.partial u.inside rows away bucket sends a (value_below a l)

        pub value_leads : (a : ℕ) → a < get_or ds (order_in (plan_in work) node.depth) 0
            → next_bound node.bound away rows a (lead_at d) ≡ lead_with d task ds s (plan_in work) node a
        value_leads a l =
            next_exact u.standing.ready.sound u.standing.partial u.inside rows away bucket sends a l (lead_at d)
            (lead_inside d u.standing.ready.planned.sensible)

        pub value_partial : ((at : ℕ) → get_or s at 0 < byte_end) → (a : ℕ) → a < get_or ds v 0 → (b : List ℕ)
            → ((j : ℕ) → j < width_of d → get_or b j 0 ≡ next_bound node.bound away rows a j)
            → Partial d task.records ds s (plan_in work) (node.depth + 1)
            (with_next (plan_in work) (length ds) node a) b
        value_partial bytes a l b read =
            next_partial u.standing.ready.sound u.standing.partial u.inside rows away bucket sends
            u.standing.ready.planned bytes a (value_below a l) b read
