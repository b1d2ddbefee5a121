-- What `solve_frame` leaves to show: what is lent of the frame and of the buffers is what the problem has.
use Rattle.std.proofs.Common.{◌≡◌, true, List, ℕ, ◌∙◌, ◌+◌, ◌≤◌, length, Option, None, Some, arith}
use Rattle.std.specs.Option.{unwrap_or}
use Rattle.model.proofs.Bits.{true_false}
use Rattle.batch_frames.specs.Batches.{frame_head, frame_size, frame_ok}
use Rattle.batch_frames.specs.Says.{FrameSays}
use Rattle.batch_frames.proofs.FrameSteps.{Framed, frame_whole}
use Rattle.batch_call.proofs.Lent.{solved_there}
use Rattle.batch_call.proofs.solve_frame.Goals as goal

-- the frame is whole
size_is : (s : List ℕ) (r : Option ℕ) (size : ℕ) → frame_ok s ≡ true → FrameSays s r → size ≡ unwrap_or r 0
    → size ≡ frame_size s
size_is s None size whole says e = absurd (true_false whole says)
size_is s (Some n) size whole says e = e ∙ says.1

inside : (s : List ℕ) (r : Option ℕ) (size : ℕ) → frame_ok s ≡ true → FrameSays s r → size ≡ unwrap_or r 0
    → frame_head + size ≤ length s
inside s r size whole says e =
    let framed : Framed s = frame_whole s whole in
    omega (arith, size_is s r size whole says e, framed.fits, framed.head)

pub overflow_add-end : goal.overflow_add-end
overflow_add-end c =
    omega (
      arith,
      inside c.args.rest.now c.frame_of.result c.unwrap_or-size.result c.requires.frame c.frame_of.ensures
          c.unwrap_or-size.ensures,
    )

pub slice_bounds-solve_with-end : goal.slice_bounds-solve_with-end
slice_bounds-solve_with-end c =
    omega (
      arith,
      inside c.args.rest.now c.frame_of.result c.unwrap_or-size.result c.requires.frame c.frame_of.ensures
          c.unwrap_or-size.ensures,
    )

pub returns : goal.returns
returns c =
    let a = c.args in
    solved_there a.rest.now a.k a.costs.now a.choices.now a.results.now a.work.now c.unwrap_or-size.result
    (size_is a.rest.now c.frame_of.result c.unwrap_or-size.result c.requires.frame c.frame_of.ensures
    c.unwrap_or-size.ensures)
    c.solve_with-solved.result.answer c.solve_with-solved.ensures c.put_result.ensures
