-- What a frame is, and frames in a row, one at a time.
use mathlib.Core.Path.{◌≡◌, refl}
use mathlib.Core.Bool.{Bool, true, false, ◌&&◌}
use mathlib.Core.List.{List, [], ◌∷◌}
use Prim.Native.Nat.{ℕ, zero, suc, ◌+◌, ◌-◌, ◌≤◌}
use native.Mathlib.Omega.{arith}
use lib.Dec.{eqb, leb}
use lib.ListN.{length, get_or, drop}
use lib.Seq.{drop-drop}
use borrow.Author.Tests.{eqb-true, leb-true, eq-eqb, ne_eqb, le-leb}
use Rattle.model.specs.Basics.{pick}
use Rattle.model.proofs.Bits.{and_left, and_right, and_both, not_true_false}
use Rattle.batch_frames.specs.Batches.{letter_b, letter_p, frame_head, frame_size, frame_problem, frame_rest}
use Rattle.batch_frames.specs.Batches.{frame_ok, frames_ok, frames_in}

-- ## one frame

-- what the test of a frame says
pub record Framed (s : List ℕ) : Type 0 where
  pub head : frame_head ≤ length s
  pub mark_b : get_or s 0 0 ≡ letter_b
  pub mark_p : get_or s 1 0 ≡ letter_p
  pub fits : frame_size s ≤ length s - frame_head

module _ (s : List ℕ) where
  pub frame_whole : frame_ok s ≡ true → Framed s
  unfolding frame_ok
  frame_whole h =
      let has_p = eqb (get_or s 1 0) letter_p in
      let has-fit = leb (frame_size s) (length s - frame_head) in
      let marked = and_right (leb frame_head (length s)) (eqb (get_or s 0 0) letter_b && (has_p && has-fit)) h in
      let behind = and_right (eqb (get_or s 0 0) letter_b) (has_p && has-fit) marked in
      record {
        head = leb-true frame_head (length s)
            (and_left (leb frame_head (length s)) (eqb (get_or s 0 0) letter_b && (has_p && has-fit)) h);
        mark_b = eqb-true (get_or s 0 0) letter_b (and_left (eqb (get_or s 0 0) letter_b) (has_p && has-fit) marked);
        mark_p = eqb-true (get_or s 1 0) letter_p (and_left has_p has-fit behind);
        fits = leb-true (frame_size s) (length s - frame_head) (and_right has_p has-fit behind);
      }

  pub whole_frame : Framed s → frame_ok s ≡ true
  unfolding frame_ok
  whole_frame f =
      and_both (le-leb frame_head (length s) f.head) (and_both (eq-eqb (get_or s 0 0) letter_b f.mark_b)
      (and_both (eq-eqb (get_or s 1 0) letter_p f.mark_p) (le-leb (frame_size s) (length s - frame_head) f.fits)))

  pub no_frame : (Framed s → ⊥) → frame_ok s ≡ false
  no_frame n = not_true_false (frame_ok s) (λ h. n (frame_whole h))

-- ## frames in a row

-- what follows the frame at a place
pub rest_place : (s : List ℕ) (at : ℕ) → frame_rest (drop at s) ≡ drop (at + (frame_head + frame_size (drop at s))) s
unfolding frame_rest
rest_place s at = drop-drop (frame_head + frame_size (drop at s)) at s

-- nothing is left
pub frames_done : (k : ℕ) (s : List ℕ) → length s ≡ 0 → frames_ok k s ≡ true
unfolding frames_ok
frames_done zero s e = eq-eqb (length s) 0 e
frames_done (suc k) s e = rw (eq-eqb (length s) 0 e) refl

pub frames_none : (k : ℕ) (s : List ℕ) → length s ≡ 0 → frames_in k s ≡ []
unfolding frames_in
frames_none zero s e = refl
frames_none (suc k) s e = rw (eq-eqb (length s) 0 e) refl

-- something is left, and no frame may follow
pub frames_over : (s : List ℕ) → (length s ≡ 0 → ⊥) → frames_ok 0 s ≡ false
unfolding frames_ok
frames_over s n = ne_eqb (length s) 0 n

-- a frame is due
pub frames_due : (k : ℕ) (s : List ℕ) → (length s ≡ 0 → ⊥)
    → frames_ok (suc k) s ≡ (frame_ok s && frames_ok k (frame_rest s))
unfolding frames_ok
frames_due k s n = rw (ne_eqb (length s) 0 n) refl

pub frames_first : (k : ℕ) (s : List ℕ) → frames_ok (suc k) s ≡ true → (length s ≡ 0 → ⊥)
    → (frame_ok s ≡ true) × (frames_ok k (frame_rest s) ≡ true)
frames_first k s h n =
    let both = rw (frames_due k s n) at h in
    (and_left (frame_ok s) (frames_ok k (frame_rest s)) both, and_right (frame_ok s) (frames_ok k (frame_rest s)) both)

pub frames_next : (k : ℕ) (s : List ℕ) → (length s ≡ 0 → ⊥)
    → frames_in (suc k) s ≡ frame_problem s ∷ frames_in k (frame_rest s)
unfolding frames_in
frames_next k s n = rw (ne_eqb (length s) 0 n) refl

pub frames_few : (k : ℕ) (s : List ℕ) → length (frames_in k s) ≤ k
unfolding frames_in
frames_few zero s = omega arith
frames_few (suc k) s = go (frames_few k (frame_rest s)) (eqb (length s) 0)
  where
    go : length (frames_in k (frame_rest s)) ≤ k → (b : Bool)
        → length (pick b [] (frame_problem s ∷ frames_in k (frame_rest s))) ≤ suc k
    go h true = omega arith
    go h false = omega arith
