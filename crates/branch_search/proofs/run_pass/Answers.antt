-- What `run_pass` leaves to show: the pass begins at the empty choice.
use Rattle.std.proofs.Common.{◌≤◌, length, arith, length-drop}
use Rattle.model.specs.Problems.{Word}
use Rattle.layout.specs.Layout.{list_end}
use Rattle.groups.proofs.Tasks.{ceilings_long}
use Rattle.rows.specs.Rows.{EachCost}
use Rattle.branch_pruning.proofs.Reaches.{reached_full}
use Rattle.branch_search.specs.States.{Ready}
use Rattle.branch_search.proofs.ArchivedWords.{archived_words}
use Rattle.branch_search.proofs.Memory.{ready_still, zones_still, lent_plan}
use Rattle.branch_search.proofs.Passes.{own_between, root_standing, root_passed}
use Rattle.branch_search.proofs.run_pass.Goals.{Start, After-start_zones-m}
use Rattle.branch_search.proofs.run_pass.Goals as goal

-- the archive's costs are words
words : (c : Start) → EachCost Word c.args.d.objectives c.args.work.now c.args.points
words c =
    let a = c.args in
    let h = c.requires.0 in
    let wide : a.d.objectives ≤ length a.task.ceilings =
    omega (arith, ceilings_long a.task _ c.well_formed.1.1.1.1.0, h.planned.sensible.few) in
    archived_words a.d a.task a.sizes.now a.s.now a.work.now wide h.limited
    (length a.sizes.now) a.points a.work.now (own_between h c.requires.1).reached

-- memory once the zones are made
ready : (c : After-start_zones-m) → Ready c.args.d c.args.task c.args.sizes.now c.args.s.now c.start_zones-m.new.work
ready c =
    let zones = c.start_zones-m.ensures.0 in
    let kept = zones_still c.args.work.now c.start_zones-m.new.work zones.long zones.behind c.args.task in
    ready_still kept c.args.d c.args.sizes.now c.args.s.now c.requires.0

pub start_limit-limit-requires : goal.start_limit-limit-requires
start_limit-limit-requires c =
    let h = c.requires.0 in (
      h.planned.sensible,
      omega (arith, h.long),
      omega (arith, c.requires.1.few, h.room_small),
      words (goal.at.start_limit-limit-requires c).Start,
    )

pub start_zones-m-requires : goal.start_zones-m-requires
start_zones-m-requires c =
    let h = c.requires.0 in (
      h.planned.sensible,
      omega (arith, h.long),
      omega (arith, c.requires.1.few, h.room_small),
      h.limited,
      words (goal.at.start_zones-m-requires c).Start,
    )

pub root_bound-bound-requires : goal.root_bound-bound-requires
root_bound-bound-requires c =
    let h = ready (goal.at.root_bound-bound-requires c).After-start_zones-m in
    let made = c.start_zones-m.new.work in
    rw (lent_plan made)
    (h.planned, h.sound.tested, omega (arith, h.long, length-drop list_end made), h.some_variable)

pub open_position-requires : goal.open_position-requires
open_position-requires c =
    let bound = rw (lent_plan c.start_zones-m.new.work) at c.root_bound-bound.ensures in
    let zones = c.start_zones-m.ensures in (
      root_standing c.requires.0 c.requires.1 c.start_limit-limit.ensures c.args.left zones.0 zones.1
          (λ at. omega (arith, c.type_inv.s at)) c.root_bound-bound.result bound,
      reached_full c.full_reach.ensures,
    )

pub returns : goal.returns
returns c =
    let zones = c.start_zones-m.ensures in
    root_passed c.requires.0 c.requires.1 c.start_limit-limit.ensures c.args.left zones.0 zones.1
    c.root_bound-bound.result _ c.open_position.result c.open_position.ensures
