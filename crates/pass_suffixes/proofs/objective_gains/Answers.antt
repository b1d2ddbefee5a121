-- What the loop of `objective_gains` leaves to show: each turn is one search more.
use Rattle.std.proofs.Common.{◌≡◌, ◌-◌, refl, arith}
use Rattle.pass_suffixes.proofs.FindSteps.{found_asks, search_next}
use Rattle.pass_suffixes.proofs.objective_gains.Goals as goal

pub loop-k-init : goal.loop-k-init
loop-k-init c =
    let u = c.requires.1 in
    record {
      found = record { sound = u.sound; before = u.before; above = λ j h. u.above j (omega arith); last = u.last };
      left = (refl, refl);
    }

pub suffix_gain-gain-requires : goal.suffix_gain-gain-requires
suffix_gain-gain-requires c =
    let w = c.loop-k in
    let asks = found_asks c.requires.0 w.work w.invariant.left c.args.o (w.k - 1) w.invariant.found in
    (asks.0, asks.1, c.requires.2, omega arith)

pub loop-k-preserved : goal.loop-k-preserved
loop-k-preserved c =
    let w = c.loop-k in
    let g = c.suffix_gain-gain in
    let next = search_next c.requires.0 w.work w.invariant.left c.args.o (w.k - 1) c.requires.2 (omega arith)
    (omega arith) w.invariant.found g.new.work g.result g.ensures in
    record { found = next.0; left = next.1 }

pub returns : goal.returns
returns c =
    let w = c.loop-k in
    let last : w.k - 1 ≡ 0 = omega arith in
    (rw last at w.invariant.found, w.invariant.left)
