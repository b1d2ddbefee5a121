-- Reading frames in a row: what is known where `count` of them are read and stand before the place `at`.
use mathlib.Core.Path.{◌≡◌, refl, ap, ◌∙◌}
use mathlib.Core.Bool.{true, false}
use mathlib.Core.List.{List}
use Prim.Native.Nat.{ℕ, suc, ◌+◌, ◌-◌, ◌≤◌, ◌<◌}
use native.Mathlib.Omega.{arith}
use lib.ListN.{length, drop, length-drop}
use Rattle.batch_frames.specs.Batches.{max_batch, frame_head, frame_size, frame_ok, frames_ok, frames_in, batch_ok}
use Rattle.batch_frames.specs.Batches.{batch_of}
use Rattle.batch_frames.proofs.FrameSteps.{frames_done, frames_none, frames_over, frames_due, frames_next}
use Rattle.batch_frames.proofs.FrameSteps.{rest_place, Framed, frame_whole}

pub record Read (s : List ℕ) (at count : ℕ) : Type 0 where
  pub inside : at ≤ length s
  pub few : count ≤ max_batch
  pub kept : batch_ok s ≡ frames_ok (max_batch - count) (drop at s)
  pub counted : length (batch_of s) ≡ count + length (frames_in (max_batch - count) (drop at s))

pub none_read : (s : List ℕ) → Read s 0 0
none_read s = record { inside = omega arith; few = omega arith; kept = refl; counted = omega arith }

module _ (s : List ℕ) (at count : ℕ) (r : Read s at count) where
  -- bytes are left
  module _ (l : at < length s) where
    left : length (drop at s) ≡ 0 → ⊥
    left e = omega (arith, length-drop at s)

    pub too_many : count ≡ max_batch → batch_ok s ≡ false
    too_many e =
        let none : max_batch - count ≡ 0 = omega arith in
        r.kept ∙ rw none (frames_over (drop at s) left)

    module _ (below : count < max_batch) where
      one_less : max_batch - count ≡ suc (max_batch - (count + 1))
      one_less = omega arith

      pub broken_frame : frame_ok (drop at s) ≡ false → batch_ok s ≡ false
      broken_frame h = r.kept ∙ rw (one_less, frames_due (max_batch - (count + 1)) (drop at s) left, h) refl

      pub one_more : frame_ok (drop at s) ≡ true → Read s (at + (frame_head + frame_size (drop at s))) (count + 1)
      one_more h =
          let k = max_batch - (count + 1) in
          let f : Framed (drop at s) = frame_whole (drop at s) h in
          let next : length (frames_in (max_batch - count) (drop at s))
          ≡ suc (length (frames_in k (drop (at + (frame_head + frame_size (drop at s))) s))) =
          rw (one_less, frames_next k (drop at s) left, rest_place s at) refl in
          record {
            inside = omega (arith, length-drop at s);
            few = omega arith;
            kept = r.kept ∙ rw (one_less, frames_due k (drop at s) left, h, rest_place s at) refl;
            counted = omega (arith, r.counted);
          }

  pub all_read : length s ≤ at → (batch_ok s ≡ true) × (length (batch_of s) ≡ count)
  all_read l =
      let none : length (drop at s) ≡ 0 = omega (arith, length-drop at s) in
      let last = ap length (frames_none (max_batch - count) (drop at s) none) in
      (r.kept ∙ frames_done (max_batch - count) (drop at s) none, omega (arith, r.counted, last))
