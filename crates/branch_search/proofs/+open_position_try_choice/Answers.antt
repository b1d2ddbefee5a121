-- What `open_position` and `try_choice` leave to show: every completion of a partial choice is covered.
use Rattle.std.proofs.Common.{◌≡◌, ℕ, ◌<◌, List, length, get_or, take, sym, refl, ◌∙◌, subst}
use Rattle.std.proofs.Common.{arith}
use Rattle.model.specs.Limits.{max_objectives}
use Rattle.branch_directions.specs.Directions.{width_of}
use Rattle.branch_directions.proofs.Widths.{width_few}
use Rattle.branch_buckets.proofs.ContentRows.{planned_fewer}
use Rattle.branch_buckets.proofs.Ends.{bucket_ranged}
use Rattle.branch_buckets.proofs.Bounds.{records_inside}
use Rattle.branch_values.specs.Rows.{Holding, Bucket, Away}
use Rattle.branch_pruning.specs.declared.Progress as DP
use Rattle.branch_pruning.specs.Tests.{Reached, Searched}
use Rattle.branch_pruning.proofs.Reaches.{reached_long, reached_rises}
use Rattle.branch_search.specs.States.{plan_in, Standing}
use Rattle.branch_search.proofs.Nodes.{bound_long, Extends, extends}
use Rattle.branch_search.proofs.Aims.{aim_ceilings}
use Rattle.branch_search.proofs.Testing.{running_searched, reached_spent, reached_idle}
use Rattle.branch_search.proofs.Memory.{lent_plan, still_refl}
use Rattle.branch_search.proofs.Leaving.{opened_same, dead_covers}
use Rattle.branch_search.proofs.Leaf.{leaf_opened}
use Rattle.branch_search.proofs.Trying.{Trying, tried_fewer, spent_standing, spent_opened}
use Rattle.branch_search.proofs.Trying.{trying_start, trying_standing, trying_next, trying_end}
use Rattle.branch_search.proofs.Values.{lent_planned, lent_tested, lent_numbers}
use Rattle.branch_search.proofs.Values.{Named, variable_below, variable_size, value_holds, value_leads, value_partial}
use Rattle.branch_search.proofs.+open_position_try_choice.Goals.{open_position-After-variable_at-v}
use Rattle.branch_search.proofs.+open_position_try_choice.Goals.{open_position-After-away_at-away}
use Rattle.branch_search.proofs.+open_position_try_choice.Goals.{open_position-After-count_opened-t}
use Rattle.branch_search.proofs.+open_position_try_choice.Goals.{open_position-Joined-seen-t}
use Rattle.branch_search.proofs.+open_position_try_choice.Goals.{open_position-After-with-next}
use Rattle.branch_search.proofs.+open_position_try_choice.Goals.{open_position-then-seen-t, open_position-else-seen-t}
use Rattle.branch_search.proofs.+open_position_try_choice.Goals as goal

-- ## what is known once the next variable is, once its values are, and in the loop over them

named :
    (t : ℕ) (c : open_position-After-variable_at-v t)
    → Named c.args.aim.d c.args.aim.task c.args.sizes.now c.args.s.now c.args.work.now c.args.run c.args.node
    c.variable_at-v.result
named t c =
    record {
      standing = c.requires.0;
      inside = omega (arith, c.requires.0.partial.short, c.if-k-n.false);
      variable = rw (lent_plan c.args.work.now) at c.variable_at-v.ensures.0;
    }

module _ (t : ℕ) (c : open_position-After-away_at-away t) (u : Named c.args.aim.d c.args.aim.task c.args.sizes.now
    c.args.s.now c.args.work.now c.args.run c.args.node c.variable_at-v.result) where
  held :
      Bucket c.args.aim.d c.args.sizes.now c.args.s.now (plan_in c.args.work.now) c.args.node.depth
      c.variable_at-v.result (take (length c.args.sizes.now) c.args.node.choice) c.bucket_at-rows.result
  held =
      subst
      (λ (l : List ℕ). Bucket c.args.aim.d c.args.sizes.now c.args.s.now l c.args.node.depth c.variable_at-v.result
      (take (length c.args.sizes.now) c.args.node.choice) c.bucket_at-rows.result)
      (lent_plan c.args.work.now) c.bucket_at-rows.ensures

  sends :
      Away c.args.aim.d (plan_in c.args.work.now) c.args.node.depth
      (take (length c.args.sizes.now) c.args.node.choice) c.away_at-away.result
  sends = rw (lent_plan c.args.work.now) at c.away_at-away.ensures

  holds :
      (a : ℕ) → a < get_or c.args.sizes.now c.variable_at-v.result 0
      → Holding (width_of c.args.aim.d) c.args.node.bound c.away_at-away.result c.bucket_at-rows.result a
  holds = value_holds u c.bucket_at-rows.result c.away_at-away.result held sends

-- one partial choice less may be opened, and this is it; what the tests ask, once values were tried
module _ (t : ℕ) (c : open_position-After-count_opened-t t) where
  starts :
      Standing c.args.aim.d c.args.aim.task c.args.sizes.now c.args.s.now c.args.work.now c.count_opened-t.result
      c.args.node
  starts = spent_standing c.requires.0 c.count_opened-t.ensures

  four : length c.args.aim.task.ceilings ≡ max_objectives
  four = aim_ceilings c.args.aim _ c.well_formed.1.1.1.1.1.0

  tests :
      {work' : List ℕ} {run' : DP.Progress} {leads : List ℕ}
      → Trying c.args.aim.d c.args.aim.task c.args.sizes.now c.args.s.now c.args.work.now c.count_opened-t.result
      c.args.node work' run' leads
      → Searched c.args.aim.d work' run'
  tests w = running_searched c.requires.0.ready four w.still w.running

-- what may be reached is known, as it is with so many complete choices still to be met
reach_known :
    (t : ℕ) (c : open_position-Joined-seen-t t)
    → Reached c.args.aim.d c.loop-leads.work c.loop-leads.t c.args.node.bound c.if-seen-t.reach
    × (c.if-seen-t.seen ≡ c.loop-leads.t.meets)
reach_known t c =
    let w = c.loop-leads in
    let Known = Reached c.args.aim.d w.work w.t c.args.node.bound in
    elim c.if-seen-t.branch [
      | open_position-then-seen-t b ↦ (subst Known (sym b.reach-is) b.reach_anew.ensures, b.seen-is)
      | open_position-else-seen-t b ↦ let same : w.seen ≡ w.t.meets = omega (arith, b.if-seen-t.false) in
          (subst Known (sym b.reach-is) (w.invariant.4 same), b.seen-is ∙ same)
    ]

-- the partial choice with the value that is next
next_extends :
    (t : ℕ) (c : open_position-After-with-next t)
    → Named c.args.aim.d c.args.aim.task c.args.sizes.now c.args.s.now c.args.work.now c.args.run c.args.node
    c.variable_at-v.result
    → Extends (plan_in c.args.work.now) (length c.args.sizes.now) c.args.node c.loop-leads.a c.row_of-b.result
    c.with-next.result
next_extends t c u = extends c.with-next.ensures u.variable (variable_below u)

-- ## open_position

pub open_position-returns-then-run-eq0 : goal.open_position-returns-then-run-eq0
open_position-returns-then-run-eq0 t c = opened_same c.requires.0 (λ some. absurd (omega arith))

pub open_position-returns-then-k-n : goal.open_position-returns-then-k-n
open_position-returns-then-k-n t c =
    let a = c.args in
    leaf_opened a.aim.d a.aim.task a.sizes.now a.s.now a.work.now a.run
    _ c.take_leaf.result a.node c.if-k-n.true c.take_leaf.ensures

pub open_position-bounds-sizes-v : goal.open_position-bounds-sizes-v
open_position-bounds-sizes-v t c =
    variable_below (named t (goal.at.open_position-bounds-sizes-v t c).After-variable_at-v)

pub open_position-bucket_at-rows-requires : goal.open_position-bucket_at-rows-requires
open_position-bucket_at-rows-requires t c =
    let u = named t (goal.at.open_position-bucket_at-rows-requires t c).After-variable_at-v in
    let h = c.requires.0 in
    let k = c.args.node.depth in (
      planned_fewer (lent_planned h) _ (records_inside (lent_tested h) k (omega (arith, u.inside))),
      bucket_ranged (lent_tested h).ends k u.inside,
      lent_numbers h,
      u.inside,
      variable_below u,
      h.partial.choice,
    )

pub open_position-away_at-away-requires : goal.open_position-away_at-away-requires
open_position-away_at-away-requires t c =
    let u = named t (goal.at.open_position-away_at-away-requires t c).After-variable_at-v in
    (lent_planned c.requires.0, lent_tested c.requires.0, lent_numbers c.requires.0, u.inside)

pub open_position-leads_of-leads-requires : goal.open_position-leads_of-leads-requires
open_position-leads_of-leads-requires t c =
    let at = goal.at.open_position-leads_of-leads-requires t c in
    let u = named t at.After-variable_at-v in
    (c.requires.0.ready.planned.sensible, (variable_size u).1, holds t at.After-away_at-away u)

pub open_position-least_value-a-requires : goal.open_position-least_value-a-requires
open_position-least_value-a-requires t c =
    variable_size (named t (goal.at.open_position-least_value-a-requires t c).After-variable_at-v)

pub open_position-reach_of-requires : goal.open_position-reach_of-requires
open_position-reach_of-requires t c =
    let o = (goal.at.open_position-reach_of-requires t c).After-count_opened-t in
    let h = starts t o in (
      running_searched h.ready (four t o) (still_refl c.args.aim.task c.args.work.now) h.running,
      reached_spent c.count_opened-t.ensures c.requires.1,
      refl,
    )

pub open_position-loop-leads-init : goal.open_position-loop-leads-init
open_position-loop-leads-init t c =
    let at = goal.at.open_position-loop-leads-init t c in
    let u = named t at.After-variable_at-v in
    let o = at.After-count_opened-t in
    let w = at.After-away_at-away in
    let read = c.leads_of-leads.ensures in
    let least = c.least_value-a.ensures in
    let leads = value_leads u c.bucket_at-rows.result c.away_at-away.result (held t w u) (sends t w u) in
    let all = trying_start (starts t o) c.leads_of-leads.result read.0 in (
      least.0,
      least.1,
      all (λ a l. read.1 a (rw (← u.variable) at l) ∙ leads a l),
      reached_long c.reach_of.ensures,
      λ same. c.reach_of.ensures,
    )

pub open_position-bounds-leads-a : goal.open_position-bounds-leads-a
open_position-bounds-leads-a t c =
    let u = named t (goal.at.open_position-bounds-leads-a t c).After-variable_at-v in
    omega (arith, c.loop-leads.invariant.0, c.loop-leads.invariant.2.long, variable_size u)

pub open_position-reach_anew-requires : goal.open_position-reach_anew-requires
open_position-reach_anew-requires t c =
    let o = (goal.at.open_position-reach_anew-requires t c).After-count_opened-t in
    (tests t o c.loop-leads.invariant.2, c.loop-leads.invariant.3)

pub open_position-row_of-b-requires : goal.open_position-row_of-b-requires
open_position-row_of-b-requires t c =
    let at = goal.at.open_position-row_of-b-requires t c in
    let u = named t at.After-variable_at-v in
    let a = c.loop-leads.invariant.0 in (
      omega (arith, a, variable_size u),
      width_few c.args.aim.d c.requires.0.ready.planned.sensible,
      holds t at.After-away_at-away u c.loop-leads.a a,
    )

pub open_position-with-next-requires : goal.open_position-with-next-requires
open_position-with-next-requires t c =
    let u = named t (goal.at.open_position-with-next-requires t c).After-variable_at-v in
    let few = c.requires.0.ready.planned.variables in (
      omega (arith, u.inside, few),
      omega (arith, variable_below u, few),
      omega (arith, c.loop-leads.invariant.0, variable_size u),
    )

pub open_position-try_choice-t-requires : goal.open_position-try_choice-t-requires
open_position-try_choice-t-requires t c =
    let at = goal.at.open_position-try_choice-t-requires t c in
    let u = named t at.After-variable_at-v in
    let o = at.After-count_opened-t in
    let w = at.After-away_at-away in
    let l = c.loop-leads in
    let d = c.args.aim.d in
    let e = next_extends t at.After-with-next u in
    let partial = value_partial u c.bucket_at-rows.result c.away_at-away.result (held t w u) (sends t w u)
    (λ i. omega (arith, c.type_inv.s i)) l.a l.invariant.0 c.row_of-b.result c.row_of-b.ensures.1 in
    let next = trying_standing (starts t o) l.invariant.2 l.a c.row_of-b.result c.with-next.result e partial in
    let may = reached_rises d c.requires.0.ready.planned.sensible c.args.node.bound
    c.row_of-b.result (bound_long c.args.node _ c.well_formed.0) (sym c.row_of-b.ensures.0)
    (λ j l. omega (arith, c.row_of-b.ensures.1 j l)) (tests t o l.invariant.2)
    (reach_known t at.Joined-seen-t).0 in
    (omega (arith, e.deeper, u.inside), (next, rw e.bounded may))

pub open_position-bounds-leads-a-in-loop-leads : goal.open_position-bounds-leads-a-in-loop-leads
open_position-bounds-leads-a-in-loop-leads t c =
    let u = named t (goal.at.open_position-bounds-leads-a-in-loop-leads t c).After-variable_at-v in
    omega (arith, c.loop-leads.invariant.0, c.loop-leads.invariant.2.long, variable_size u)

pub open_position-least_value-a-requires-in-loop-leads : goal.open_position-least_value-a-requires-in-loop-leads
open_position-least_value-a-requires-in-loop-leads t c =
    let at = goal.at.open_position-least_value-a-requires-in-loop-leads t c in
    variable_size (named t at.After-variable_at-v)

pub open_position-loop-leads-smaller : goal.open_position-loop-leads-smaller
open_position-loop-leads-smaller t c =
    let u = named t (goal.at.open_position-loop-leads-smaller t c).After-variable_at-v in
    let l = c.loop-leads in
    let below : l.a < length l.leads = omega (arith, l.invariant.0, l.invariant.2.long, variable_size u) in
    tried_fewer l.leads l.a below (omega arith)

pub open_position-loop-leads-preserved : goal.open_position-loop-leads-preserved
open_position-loop-leads-preserved t c =
    let at = goal.at.open_position-loop-leads-preserved t c in
    let u = named t at.After-variable_at-v in
    let o = at.After-count_opened-t in
    let l = c.loop-leads in
    let least = c.least_value-a-in-loop-leads.ensures in
    let next = trying_next (starts t o) l.invariant.2 l.a c.row_of-b.result c.with-next.result in
    let before = reach_known t at.Joined-seen-t in (
      least.0,
      least.1,
      next (next_extends t at.After-with-next u) _ c.try_choice-t.result c.try_choice-t.ensures,
      reached_long before.0,
      reached_idle c.try_choice-t.ensures.meeting before.0 before.1,
    )

pub open_position-part_done-requires : goal.open_position-part_done-requires
open_position-part_done-requires t c =
    (variable_size (named t (goal.at.open_position-part_done-requires t c).After-variable_at-v)).0

pub open_position-returns : goal.open_position-returns
open_position-returns t c =
    let at = goal.at.open_position-returns t c in
    let u = named t at.After-variable_at-v in
    let o = at.After-count_opened-t in
    let l = c.loop-leads in
    spent_opened c.requires.0 c.count_opened-t.ensures c.part_done.ensures
    (trying_end (starts t o) l.invariant.2 u.inside l.a
    (λ i b. l.invariant.1 i (rw (← u.variable) at b)) c.loop-leads-test.false)

-- ## try_choice

pub try_choice-is_alive-requires : goal.try_choice-is_alive-requires
try_choice-is_alive-requires t c =
    let h = c.requires.0 in
    let four = aim_ceilings c.args.aim _ c.well_formed.1.1.1.1.1.0 in (
      running_searched h.ready four (still_refl c.args.aim.task c.args.work.now) h.running,
      h.ready.planned.variables,
      c.requires.1,
    )

pub try_choice-returns : goal.try_choice-returns
try_choice-returns t c =
    let dead = c.is_alive.ensures c.if-is_alive.false in
    opened_same c.requires.0 (λ some. dead_covers c.requires.0 (bound_long c.args.node _ c.well_formed.0) dead)
