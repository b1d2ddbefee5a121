-- Batches by computation: which bytes are one, what is refused, and what the result list takes, in rows that near but
-- wrong definitions fail.
use mathlib.Core.Path.{◌≡◌, refl}
use mathlib.Core.Bool.{true, false}
use mathlib.Core.List.{List, [], ◌∷◌, ◌++◌}
use Prim.Native.Nat.{ℕ, zero, suc}
use lib.ListN.{length, replicate}
use Rattle.model.specs.Limits.{work_need}
use Rattle.model.specs.Refusals.{verdict}
use Rattle.model.proofs.Computing.{computing}
use Rattle.model.proofs.ExampleBytes.{word, head, domains, table, problem}
use Rattle.batch_frames.specs.Batches.{frame_problem, frame_rest, frame_ok, frames_ok, frames_in, batch_ok, batch_of}
use Rattle.batch_frames.specs.Outcomes.{areas_ok, in_turn, frame_verdict, batch_verdict, batch_outcome}

-- one name that opens every definition
unfoldable opened : Unit {0}
unfolding computing frame_problem frame_rest frame_ok frames_ok frames_in areas_ok in_turn frame_verdict batch_verdict
    batch_outcome
opened = tt

pub data Row : Type 0 where
  -- a batch of these problems; bytes that are none
  holds : (s : List ℕ) (ps : List (List ℕ)) → batch_ok s ≡ true → batch_of s ≡ ps → Row
  breaks : (s : List ℕ) → batch_ok s ≡ false → Row
  -- what is refused of a batch with buffers of these lengths: cost, choice, result, work
  tells : (s : List ℕ) (costs choices results work number : ℕ)
      → batch_verdict s (replicate costs 0) (replicate choices 0) (replicate results 0) (replicate work 0)
      ≡ verdict number 0 → Row
  -- what the result list holds after a batch, where it held `old`
  answers : (s costs choices old new : List ℕ)
      → (batch_outcome s costs choices old (replicate work_need 0)).results ≡ new
      → Row

-- a frame, and several that are empty
abbrev frame : List ℕ → List ℕ
frame p = 66 ∷ 80 ∷ word (length p) ++ p

abbrev empties : ℕ → List ℕ
empties zero = []
empties (suc n) = frame [] ++ empties n

-- a problem of one point
abbrev plain : List ℕ
plain = problem (9 ∷ []) (1 ∷ []) (table 0 [] (4 ∷ []) ∷ [])

pub batch_rows : List Row
unfolding opened
batch_rows =
    -- no frame
    holds [] [] refl refl ∷
    -- an empty problem
    holds (66 ∷ 80 ∷ 0 ∷ 0 ∷ 0 ∷ 0 ∷ []) ([] ∷ []) refl refl ∷
    -- two
    holds (66 ∷ 80 ∷ 1 ∷ 0 ∷ 0 ∷ 0 ∷ 7 ∷ 66 ∷ 80 ∷ 2 ∷ 0 ∷ 0 ∷ 0 ∷ 8 ∷ 9 ∷ []) ((7 ∷ []) ∷ (8 ∷ 9 ∷ []) ∷ []) refl
    refl ∷
    -- a frame inside a problem is its bytes
    holds (frame (frame []) ++ frame (5 ∷ [])) (frame [] ∷ (5 ∷ []) ∷ []) refl refl ∷
    -- the length's second byte counts 256
    holds (66 ∷ 80 ∷ 0 ∷ 1 ∷ 0 ∷ 0 ∷ replicate 256 5) (replicate 256 5 ∷ []) refl refl ∷
    -- the limit of bytes is the problem's own
    holds (frame (replicate 60001 5)) (replicate 60001 5 ∷ []) refl refl ∷
    -- another mark: each letter, and both in the other order
    breaks (67 ∷ 80 ∷ 0 ∷ 0 ∷ 0 ∷ 0 ∷ []) refl ∷
    breaks (66 ∷ 81 ∷ 0 ∷ 0 ∷ 0 ∷ 0 ∷ []) refl ∷
    breaks (80 ∷ 66 ∷ 0 ∷ 0 ∷ 0 ∷ 0 ∷ []) refl ∷
    -- a length that is one more than the bytes left, that wraps round 32 bits, or that is cut off
    breaks (66 ∷ 80 ∷ 3 ∷ 0 ∷ 0 ∷ 0 ∷ 1 ∷ 2 ∷ []) refl ∷
    breaks (66 ∷ 80 ∷ 255 ∷ 255 ∷ 255 ∷ 255 ∷ 1 ∷ 2 ∷ 3 ∷ 4 ∷ 5 ∷ []) refl ∷
    breaks (66 ∷ 80 ∷ 0 ∷ 0 ∷ 0 ∷ []) refl ∷
    -- a byte behind the last frame
    breaks (frame (7 ∷ []) ++ 0 ∷ []) refl ∷
    -- a second frame that is broken
    breaks (frame [] ++ 66 ∷ 80 ∷ 1 ∷ 0 ∷ 0 ∷ 0 ∷ []) refl ∷
    -- 16 frames and 17
    holds (empties 16) (replicate 16 []) refl refl ∷
    breaks (empties 17) refl ∷
    -- areas that just suffice, and each an element short
    tells (empties 2) 512 3072 6 8192 0 refl ∷
    tells (empties 2) 511 3072 6 8192 21 refl ∷
    tells (empties 2) 512 3071 6 8192 21 refl ∷
    tells (empties 2) 512 3072 5 8192 21 refl ∷
    tells (empties 16) 4096 24576 48 8192 0 refl ∷
    tells (empties 16) 4095 24576 48 8192 21 refl ∷
    -- an empty batch needs no areas
    tells [] 0 0 0 8192 0 refl ∷
    -- 21 comes before 12, and 12 before what is wrong with a problem
    tells (0 ∷ []) 256 1536 3 8191 21 refl ∷
    tells (empties 1) 256 1536 3 8191 12 refl ∷
    tells [] 0 0 0 8191 12 refl ∷
    -- number, place inside the problem, and count
    answers (frame plain ++ frame (head 1 1 1 (1 ∷ []) ++ domains (1 ∷ 1 ∷ [])) ++ frame plain) (replicate 768 0)
    (replicate 4608 0) (replicate 10 7) (0 ∷ 0 ∷ 1 ∷ 3 ∷ 13 ∷ 0 ∷ 0 ∷ 0 ∷ 1 ∷ 7 ∷ []) refl ∷
    []
