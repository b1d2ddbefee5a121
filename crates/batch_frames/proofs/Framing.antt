-- Problems in frames: they are read back, and nothing else is read.
use mathlib.Core.Path.{◌≡◌, refl, sym, ◌∙◌}
use mathlib.Core.Bool.{true}
use mathlib.Core.List.{List, [], ◌∷◌, ◌++◌, append_assoc}
use Prim.Native.Nat.{ℕ, zero, suc, ◌+◌, ◌≤◌, ◌<◌}
use native.Mathlib.Omega.{arith}
use lib.ListN.{length, take, drop, length-append, length-drop, take-append-drop}
use lib.Seq.{length-take-le, take_at, drop_at, drop-drop}
use Rattle.model.specs.Basics.{All}
use Rattle.model.specs.Limits.{word_end}
use Rattle.model.specs.Encoding.{Byte, two_bytes, four_bytes, word_bytes}
use Rattle.model.specs.Reading.{word4}
use Rattle.model.proofs.Bits.{true_false, and_both}
use Rattle.model.proofs.Elements.{all_append, all_drop}
use Rattle.model.proofs.Words.{four_read, four_written}
use Rattle.model.proofs.Bytes.{words_bytes}
use Rattle.batch_frames.specs.Batches.{max_batch, letter_b, letter_p, frame_head, frame_size, frame_problem, frame_rest}
use Rattle.batch_frames.specs.Batches.{frames_ok, frames_in, batch_ok, batch_of, batch_bytes}
use Rattle.batch_frames.proofs.FrameSteps.{Framed, frame_whole, whole_frame}
use Rattle.batch_frames.proofs.FrameSteps.{frames_done, frames_none, frames_over, frames_due}
use Rattle.batch_frames.proofs.FrameSteps.{frames_first, frames_next, frames_few}

-- ## a problem that was framed is read

module _ (p rest : List ℕ) where
  abbrev frame : List ℕ
  frame = (letter_b ∷ letter_p ∷ four_bytes (length p)) ++ p ++ rest

  size_read : frame_size frame ≡ length p
  size_read = rw append_assoc (four_read (length p) (p ++ rest))

  behind_head : drop frame_head frame ≡ p ++ rest
  unfolding four_bytes two_bytes
  behind_head = refl

  long : length frame ≡ frame_head + length (p ++ rest)
  unfolding four_bytes two_bytes
  long = omega arith

  framed_is : Framed frame
  unfolding four_bytes two_bytes
  framed_is = record {
    head = omega arith;
    mark_b = refl;
    mark_p = refl;
    fits = omega (arith, long, size_read, length-append p rest);
  }

  problem_read : frame_problem frame ≡ p
  unfolding frame_problem
  problem_read = rw (size_read, behind_head) (take_at p rest (length p) refl)

  rest_left : frame_rest frame ≡ rest
  unfolding frame_rest
  rest_left =
      rw (size_read, ← drop-drop (length p) frame_head frame, behind_head) (drop_at p rest (length p) refl)

read_back : (k : ℕ) (ps : List (List ℕ)) → length ps ≤ k
    → (frames_ok k (batch_bytes ps) ≡ true) × (frames_in k (batch_bytes ps) ≡ ps)
unfolding batch_bytes
read_back k [] few = (frames_done k [] refl, frames_none k [] refl)
read_back zero (p ∷ ps) few = absurd (omega arith)
read_back (suc k) (p ∷ ps) few =
    let rest = batch_bytes ps in
    let s = frame p rest in
    let there : length s ≡ 0 → ⊥ = λ e. omega (arith, long p rest) in
    let (whole, same) = read_back k ps (omega arith) in (
      frames_due k s there
          ∙ and_both (whole_frame s (framed_is p rest)) (rw (rest_left p rest) whole),
      frames_next k s there ∙ rw (problem_read p rest, rest_left p rest, same) refl,
    )

pub framed : (ps : List (List ℕ)) → length ps ≤ max_batch
    → (batch_ok (batch_bytes ps) ≡ true) × (batch_of (batch_bytes ps) ≡ ps)
framed ps few = read_back max_batch ps few

pub framed_bytes : (ps : List (List ℕ)) → All (λ p. All Byte p × (length p < word_end)) ps → All Byte (batch_bytes ps)
unfolding batch_bytes word_bytes four_bytes two_bytes
framed_bytes [] h = tt
framed_bytes (p ∷ ps) h =
    let rest = all_append Byte p (batch_bytes ps) h.0.0 (framed_bytes ps h.1) in (
      omega arith,
      (
        omega arith,
        all_append Byte (four_bytes (length p)) (p ++ batch_bytes ps)
            (words_bytes (length p ∷ []) (h.0.1, tt)) rest,
      ),
    )

-- ## what is read was framed

written_one : (s : List ℕ) → All Byte s → Framed s → frame (frame_problem s) (frame_rest s) ≡ s
unfolding frame_problem frame_rest
written_one [] h f = absurd (omega (arith, f.head))
written_one (a ∷ []) h f = absurd (omega (arith, f.head))
written_one (a ∷ b ∷ t) h f =
    let n = word4 t in
    let size : length (take n (drop 4 t)) ≡ n =
    length-take-le n (drop 4 t) (omega (arith, f.fits, f.head, length-drop 4 t)) in
    let behind : four_bytes (length (take n (drop 4 t))) ++ take n (drop 4 t) ++ drop (frame_head + n) (a ∷ b ∷ t) ≡ t =
    rw (size, ← drop-drop n frame_head (a ∷ b ∷ t), append_assoc, take-append-drop n (drop 4 t))
    (four_written t (omega (arith, f.head)) h.1.1) in
    λ i. sym f.mark_b i ∷ sym f.mark_p i ∷ behind i

rest_bytes : (s : List ℕ) → All Byte s → All Byte (frame_rest s)
unfolding frame_rest
rest_bytes s h = all_drop Byte (frame_head + frame_size s) s h

written_back : (k : ℕ) (s : List ℕ) → All Byte s → frames_ok k s ≡ true → batch_bytes (frames_in k s) ≡ s
unfolding batch_bytes
written_back zero [] h ok = rw (frames_none zero [] refl) refl
written_back zero (x ∷ t) h ok = absurd (true_false ok (frames_over (x ∷ t) (λ e. omega arith)))
written_back (suc k) [] h ok = rw (frames_none (suc k) [] refl) refl
written_back (suc k) (x ∷ t) h ok =
    let s = x ∷ t in
    let there : length s ≡ 0 → ⊥ = λ e. omega arith in
    let (whole, rest) = frames_first k s ok there in
    let same = written_back k (frame_rest s) (rest_bytes s h) rest in
    rw (frames_next k s there) (rw same (written_one s h (frame_whole s whole)))

pub nothing_else : (s : List ℕ) → All Byte s → batch_ok s ≡ true
    → (length (batch_of s) ≤ max_batch) × (batch_bytes (batch_of s) ≡ s)
nothing_else s h ok = (frames_few max_batch s, written_back max_batch s h ok)
