-- What `frames_of` leaves to show.
use Rattle.std.proofs.Common.{◌≡◌, false, sym, subst, ℕ, List, ◌+◌, ◌-◌, ◌<◌, length, take, drop, Option, None, Some}
use Rattle.std.proofs.Common.{arith}
use Rattle.model.proofs.Lists.{take_rest}
use Rattle.batch_frames.specs.Batches.{max_batch, frame_head, frame_ok, batch_ok}
use Rattle.batch_frames.specs.Says.{FrameSays, FramesSays}
use Rattle.batch_frames.proofs.FramesRead.{Read, too_many, broken_frame, one_more, all_read}
use Rattle.batch_frames.proofs.frames_of.Goals as goal

-- behind a whole frame
next : (s : List ℕ) (at count : ℕ) → Read s at count → at < length s → count < max_batch → (size : ℕ)
    → FrameSays (drop at s) (Some size) → Read s (at + (frame_head + size)) (count + 1)
next s at count u l below size says =
    subst (λ (n : ℕ). Read s (at + (frame_head + n)) (count + 1)) (sym says.1) (one_more s at count u l below says.0)

-- the frames stop there
stopped : (s : List ℕ) (r : Option ℕ) → r ≡ None → batch_ok s ≡ false → FramesSays s r
stopped s r e h = subst (FramesSays s) (sym e) h

pub returns-then-is_full : goal.returns-then-is_full
returns-then-is_full c =
    let w = c.loop-at in
    too_many c.args.batch.now w.at w.count w.invariant (omega arith) (omega arith)

pub returns-in_err-size : goal.returns-in_err-size
returns-in_err-size c =
    let w = c.loop-at in
    let s = c.args.batch.now in
    let left : frame_ok (take (length s - w.at) (drop w.at s)) ≡ false = c.in_err-size.ensures in
    stopped s _ c.from_residual.ensures
    (broken_frame s w.at w.count w.invariant (omega arith) (omega arith) (rw (take_rest s w.at) at left))

-- what was read of the bytes that are left
read : (s : List ℕ) (at size : ℕ) → FrameSays (take (length s - at) (drop at s)) (Some size)
    → FrameSays (drop at s) (Some size)
read s at size says = rw (take_rest s at) at says

pub overflow_add-at : goal.overflow_add-at
overflow_add-at c =
    let w = c.loop-at in
    let s = c.args.batch.now in
    let says = read s w.at c.in_ok-size.size c.in_ok-size.ensures in
    omega (arith, (next s w.at w.count w.invariant (omega arith) (omega arith) c.in_ok-size.size says).inside)

pub overflow_add-at-in-loop-at : goal.overflow_add-at-in-loop-at
overflow_add-at-in-loop-at c =
    let w = c.loop-at in
    let s = c.args.batch.now in
    let says = read s w.at c.in_ok-size.size c.in_ok-size.ensures in
    omega (arith, (next s w.at w.count w.invariant (omega arith) (omega arith) c.in_ok-size.size says).inside)

pub loop-at-preserved : goal.loop-at-preserved
loop-at-preserved c =
    let w = c.loop-at in
    let s = c.args.batch.now in
    let says = read s w.at c.in_ok-size.size c.in_ok-size.ensures in
    next s w.at w.count w.invariant (omega arith) (omega arith) c.in_ok-size.size says

pub returns : goal.returns
returns c =
    let w = c.loop-at in
    let (whole, count) = all_read c.args.batch.now w.at w.count w.invariant (omega arith) in
    (whole, sym count)
