-- What the loop of `keep_records` leaves to show.
use Rattle.std.proofs.Common.{arith, add-zero}
use native.Mathlib.Nat.{add_assoc}
use Rattle.problem.specs.Records.{Whole}
use Rattle.groups.proofs.Adding.{all_apart, adding_start, adding_length, adding_has, adding_skip}
use Rattle.groups.proofs.Adding.{adding_below, adding_next}
use Rattle.views.proofs.SideSteps.{whole_sides}
use Rattle.views.proofs.KeptPlaces.{wanted_keeps}
use Rattle.views.proofs.keep_records.Goals as goal
use Rattle.views.proofs.keep_records.Goals.{then-is_wanted, else-is_wanted}

pub loop-i-init : goal.loop-i-init
loop-i-init c =
    let w = c.args.which in
    let keeps = wanted_keeps w.part c.args.sides.now c.args.s.now in
    rw add-zero
    (adding_start keeps
    (all_apart keeps c.args.work.now w.records w.from w.to c.requires.3 c.requires.4 c.requires.5))

pub is_wanted-requires : goal.is_wanted-requires
is_wanted-requires c =
    whole_sides c.args.sides.now c.requires.1
    (adding_has c.loop-i.invariant (omega arith) (Whole c.args.sizes.now c.args.s.now) c.requires.0)

pub bounds-work-to : goal.bounds-work-to
bounds-work-to c =
    let u = c.loop-i.invariant in
    let is = rw c.is_wanted.ensures at c.if-is_wanted.true in
    omega (arith, adding_below u (omega arith) is, u.parts.room, adding_length u)

pub loop-i-preserved : goal.loop-i-preserved
loop-i-preserved c =
    let u = c.loop-i.invariant in
    let says = c.is_wanted.ensures in
    elim c.if-is_wanted.branch [
      | then-is_wanted w ↦
          rw (w.work-is, w.count-is)
          (rw (add_assoc c.args.which.to c.loop-i.count 1)
          at (adding_next u (omega arith) (rw says at w.if-is_wanted.true)))
      | else-is_wanted w ↦
          rw (w.work-is, w.count-is) (adding_skip u (omega arith) (rw says at w.if-is_wanted.false))
    ]
