-- What the loop of `find_gains` leaves to show: each turn is one objective more.
use Rattle.std.proofs.Common.{◌-◌, length, arith}
use Rattle.pass_suffixes.proofs.GainRows.{found_next}
use Rattle.pass_suffixes.proofs.FindSteps.{found_asks, objective_next, objectives_end, objectives_start}
use Rattle.pass_suffixes.proofs.find_gains.Goals as goal

pub loop-o-init : goal.loop-o-init
loop-o-init c =
    let none = objectives_start c.requires c.clear_gains.new.work c.clear_gains.ensures in
    record { found = none.0; left = none.1 }

pub objective_gains-requires : goal.objective_gains-requires
objective_gains-requires c =
    let w = c.loop-o in
    let asks = found_asks c.requires w.work w.invariant.left (w.o - 1) (length c.args.sizes.now)
    (found_next w.work (w.o - 1) (omega arith) w.invariant.found) in
    (asks.0, asks.1, omega arith)

pub loop-o-preserved : goal.loop-o-preserved
loop-o-preserved c =
    let w = c.loop-o in
    let g = c.objective_gains in
    let next = objective_next c.requires w.work w.invariant.left (w.o - 1) g.new.work g.ensures in
    record { found = next.0; left = next.1 }

pub returns : goal.returns
returns c =
    objectives_end c.requires c.loop-o.work c.loop-o.invariant.left c.loop-o.o 0 c.loop-o.invariant.found
