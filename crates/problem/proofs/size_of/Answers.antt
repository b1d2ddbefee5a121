-- What the loop of `size_of` leaves to show: the size stays at most the whole's, and that is at most 512.
use Rattle.std.proofs.Common.{◌≡◌, ◌+◌, ◌-◌, take, drop, arith}
use lib.ListN.{length-take}
use Rattle.model.specs.Problems.{size_of}
use Rattle.problem.proofs.Sizes.{size_small}
use Rattle.problem.proofs.SizeSteps.{sizing_end, sizing_small, sizing_next}
use Rattle.problem.proofs.size_of.Goals as goal

pub overflow_mul-size : goal.overflow_mul-size
overflow_mul-size c =
    let w = c.loop-i in
    let next = sizing_next c.args.sizes.now c.args.s.now _ w.size _ _ w.invariant (omega arith) in
    omega (
      arith,
      size_small c.args.sizes.now c.requires.3 (take c.args.arity (drop c.args.at c.args.s.now)) c.requires.2
          (simp length-take (omega arith)),
      sizing_small c.args.sizes.now c.args.s.now _ _ _ _ next c.requires.3,
    )

pub loop-i-preserved : goal.loop-i-preserved
loop-i-preserved c =
    let w = c.loop-i in
    let further : c.args.at + (w.i + 1) ≡ c.args.at + w.i + 1 = omega arith in
    let fewer : c.args.arity - (w.i + 1) ≡ c.args.arity - w.i - 1 = omega arith in
    rw (further, fewer) (sizing_next c.args.sizes.now c.args.s.now _ w.size _ _ w.invariant (omega arith))

pub returns : goal.returns
returns c =
    let w = c.loop-i in
    let all : w.size ≡ size_of c.args.sizes.now (take c.args.arity (drop c.args.at c.args.s.now)) =
    sizing_end c.args.sizes.now c.args.s.now _ w.size _ _ w.invariant (omega arith) in (
      all,
      rw all
          (size_small c.args.sizes.now c.requires.3 (take c.args.arity (drop c.args.at c.args.s.now)) c.requires.2
          (simp length-take (omega arith))),
    )
