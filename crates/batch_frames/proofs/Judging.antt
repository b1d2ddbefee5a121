-- What is refused of a whole batch before any of its problems is looked at.
use mathlib.Core.Path.{◌≡◌, refl}
use mathlib.Core.Bool.{true, false}
use mathlib.Core.List.{List}
use Prim.Native.Nat.{ℕ, ◌≤◌, ◌<◌}
use lib.ListN.{length}
use borrow.Author.Tests.{lt-ltb, le-ltb}
use Rattle.model.specs.Limits.{work_need}
use Rattle.model.specs.Refusals.{work_short}
use Rattle.batch_frames.specs.Batches.{batch_ok, batch_of}
use Rattle.batch_frames.specs.Outcomes.{bad_batch, areas_ok, frame_verdict}
use Rattle.batch_frames.specs.Says.{judgement}

module _ (s : List ℕ) (costs choices results memory : ℕ) where
  -- number 21 is told, of wrong framing or of a missing area
  pub framed_wrong : batch_ok s ≡ false → bad_batch ≡ (judgement s costs choices results memory).number
  unfolding judgement frame_verdict
  framed_wrong h = rw h refl

  module _ (frames : batch_ok s ≡ true) where
    pub area_missing : areas_ok (length (batch_of s)) costs choices results ≡ false
        → bad_batch ≡ (judgement s costs choices results memory).number
    unfolding judgement frame_verdict
    area_missing h = rw (frames, h) refl

    module _ (areas : areas_ok (length (batch_of s)) costs choices results ≡ true) where
      pub memory_short : memory < work_need → work_short ≡ (judgement s costs choices results memory).number
      unfolding judgement frame_verdict
      memory_short l = rw (frames, areas, lt-ltb memory work_need l) refl

      pub judged_taken : work_need ≤ memory → 0 ≡ (judgement s costs choices results memory).number
      unfolding judgement frame_verdict
      judged_taken l = rw (frames, areas, le-ltb memory work_need l) refl
