-- What `frame_of` leaves to show: its tests in their order.
use Rattle.std.proofs.Common.{arith}
use Rattle.batch_frames.proofs.FrameSteps.{whole_frame, no_frame}
use Rattle.batch_frames.proofs.frame_of.Goals as goal

pub returns-then-s-lt-FRAME_HEAD : goal.returns-then-s-lt-FRAME_HEAD
returns-then-s-lt-FRAME_HEAD c = no_frame c.args.s.now (λ f. omega arith)

pub returns-then-s-ne66 : goal.returns-then-s-ne66
returns-then-s-ne66 c = no_frame c.args.s.now (λ f. c.if-s-ne66.true f.mark_b)

pub returns-then-s-ne80 : goal.returns-then-s-ne80
returns-then-s-ne80 c = no_frame c.args.s.now (λ f. c.if-s-ne80.true f.mark_p)

pub returns-then-s-size : goal.returns-then-s-size
returns-then-s-size c = no_frame c.args.s.now (λ f. omega arith)

pub returns : goal.returns
returns c = (
  whole_frame c.args.s.now (record {
    head = omega arith;
    mark_b = c.if-s-ne66.false;
    mark_p = c.if-s-ne80.false;
    fits = omega arith;
  }),
  c.four_at-size.ensures,
)
