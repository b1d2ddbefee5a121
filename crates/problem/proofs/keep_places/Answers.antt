-- What the loop of `keep_places` leaves to show: the record here is whole, and those after it.
use Rattle.std.proofs.Common.{◌≡◌, sym, ◌∙◌, suc, ◌+◌, ◌-◌, ◌<◌, length, drop, arith}
use Rattle.model.specs.Reading.{table_length, places_at}
use Rattle.problem.proofs.Filled.{over_step, over_end}
use Rattle.problem.proofs.TableSteps.{places_none, places_go}
use Rattle.problem.proofs.keep_places.Goals as goal

pub loop-i-preserved : goal.loop-i-preserved
loop-i-preserved c =
    let w = c.loop-i in
    let ds = c.args.sizes.now in
    let s = c.args.s.now in
    let rest = places_at (c.args.r - (w.i + 1)) ds s (w.here + table_length ds (drop w.here s)) in
    let next = c.place_after-here.ensures in
    let room : w.i < length w.places = omega (arith, c.requires.2) in
    let more : c.args.r - w.i ≡ suc (c.args.r - (w.i + 1)) = omega arith in
    record {
      left = rw next (rw more at w.invariant.left).1;
      written = rw next (over_step w.i w.here rest w.places room ∙ rw (more, places_go) at w.invariant.written);
    }

pub returns : goal.returns
returns c =
    let none : c.args.r - c.loop-i.i ≡ 0 = omega arith in
    sym (over_end c.loop-i.i c.loop-i.places) ∙ rw (none, places_none) at c.loop-i.invariant.written
