-- What `explore` leaves to show: after a pass the archive is the list, or more than that, or the next pass follows.
use Rattle.std.proofs.Common.{◌≡◌, ◌≤◌, length, sym, refl, arith}
use Rattle.groups.specs.Sources.{source_problem}
use Rattle.groups.proofs.Tasks.{ceilings_long}
use Rattle.branch_directions.proofs.Widths.{weights_long}
use Rattle.branch_search.specs.States.{Ready, Between}
use Rattle.branch_search.proofs.Memory.{still_refl, still_trans, ready_still}
use Rattle.branch_search.proofs.Archives.{between_source}
use Rattle.branch_search.proofs.Passes.{passed_between, passed_full, passed_list, explored_still}
use Rattle.branch_search.proofs.Passes.{undecided, ended_left}
use Rattle.branch_search.proofs.explore.Goals.{After-run_pass-t}
use Rattle.branch_search.proofs.explore.Goals as goal

-- what is known after a pass
module _ (c : After-run_pass-t) where
  ready : Ready c.args.d c.args.task c.args.sizes.now c.args.s.now c.loop-pass.work
  ready = ready_still c.loop-pass.invariant.0 c.args.d c.args.sizes.now c.args.s.now c.requires.0

  four : c.args.d.objectives ≤ length c.args.task.ceilings
  four = omega (arith, ready.planned.sensible.few, ceilings_long c.args.task _ c.well_formed.1.1.1.0)

  weights : length c.args.d.weights ≡ 16
  weights = weights_long c.args.d _ c.well_formed.1.1.1.1.0

  -- the archive that it leaves
  next : Between (source_problem c.args.task c.args.sizes.now c.args.s.now c.args.work.now) c.args.task.room
      c.run_pass-t.new.work c.run_pass-t.result.points
  next =
      between_source c.args.task c.args.sizes.now c.args.s.now c.loop-pass.work c.args.work.now
      (sym c.loop-pass.invariant.0.source) c.run_pass-t.new.work c.run_pass-t.result.points
      (passed_between ready four c.run_pass-t.ensures)

  fewer : c.run_pass-t.result.left ≤ c.args.from.budget
  fewer = omega (arith, c.run_pass-t.ensures.fewer, c.loop-pass.invariant.2)

pub loop-pass-init : goal.loop-pass-init
loop-pass-init c = (still_refl c.args.task c.args.work.now, c.requires.1, omega arith)

pub run_pass-t-requires : goal.run_pass-t-requires
run_pass-t-requires c =
    let a = c.args in
    let w = c.loop-pass in (
      ready_still w.invariant.0 a.d a.sizes.now a.s.now c.requires.0,
      between_source a.task a.sizes.now a.s.now a.work.now w.work w.invariant.0.source w.work w.points w.invariant.1,
    )

pub returns-then-is_given_up : goal.returns-then-is_given_up
returns-then-is_given_up c =
    let r = (goal.at.returns-then-is_given_up c).After-run_pass-t in
    let a = c.args in
    let still = still_trans c.loop-pass.invariant.0 c.run_pass-t.ensures.still in
    rw c.given_up.ensures
    (undecided a.task (length a.sizes.now) _ _ a.from.budget a.work.now c.run_pass-t.new.work _ _ still (next r)
    (fewer r))

pub returns-then-t-task : goal.returns-then-t-task
returns-then-t-task c =
    let r = (goal.at.returns-then-t-task c).After-run_pass-t in
    let some : 1 ≤ c.run_pass-t.result.left = omega arith in
    let full = passed_full (ready r) (four r) c.run_pass-t.ensures some (weights r) c.if-t-task.true in
    let kept = c.loop-pass.invariant.0 in (
      explored_still kept c.args.sizes.now c.args.s.now c.run_pass-t.new.work _ (full _),
      ended_left _ _ _ _ _ refl (fewer r),
    )

pub sort_points-requires : goal.sort_points-requires
sort_points-requires c =
    let r = (goal.at.sort_points-requires c).After-run_pass-t in
    let passed = c.run_pass-t.ensures in (
      omega (arith, (ready r).long, passed.still.long),
      omega (arith, passed.running.few, (ready r).room_small),
      (ready r).planned.sensible.few,
    )

pub returns-then-is_last : goal.returns-then-is_last
returns-then-is_last c =
    let r = (goal.at.returns-then-is_last c).After-run_pass-t in
    let order = c.sort_points.ensures in
    let some : 1 ≤ c.run_pass-t.result.left = omega arith in
    let last : c.run_pass-t.result.limit ≡ 18446744073709551615 = omega arith in
    let listed = passed_list (ready r) (four r) c.run_pass-t.ensures some c.if-t-task.false last in
    let list = listed _ order.0 (order.1 (length c.args.sizes.now) (ready r).planned.variables) in
    let kept = c.loop-pass.invariant.0 in (
      explored_still kept c.args.sizes.now c.args.s.now _ _ (list _),
      ended_left _ _ _ _ _ refl (fewer r),
    )

pub loop-pass-preserved : goal.loop-pass-preserved
loop-pass-preserved c =
    let r = (goal.at.loop-pass-preserved c).After-run_pass-t in
    (still_trans c.loop-pass.invariant.0 c.run_pass-t.ensures.still, next r, fewer r)

pub returns : goal.returns
returns c =
    let a = c.args in
    let w = c.loop-pass in
    rw c.given_up-2.ensures
    (undecided a.task (length a.sizes.now) _ _ a.from.budget a.work.now w.work _ _ w.invariant.0 w.invariant.1
    w.invariant.2)
