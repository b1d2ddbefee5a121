-- What reading the frames of a batch gives, and what stands in a problem's areas.
use Rattle.std.specs.Prelude.{◌≡◌, true, false, Option, MatchOption, List, ◌++◌, ℕ, ◌+◌, ◌*◌, ◌≤◌, ltb, length}
use Rattle.std.specs.Prelude.{take, drop, Result, IfOk}
use Rattle.model.specs.Basics.{pick}
use Rattle.model.specs.Limits.{work_need}
use Rattle.model.specs.Refusals.{work_short, Verdict, verdict, accepted, first}
use Rattle.model.specs.Reasons.{number_in}
use Rattle.model.specs.declared.Reason.{Reason}
use Rattle.batch_frames.specs.Batches.{max_batch, frame_ok, frame_size, batch_ok, batch_of}
use Rattle.batch_frames.specs.Outcomes.{frame_verdict}

-- the frame that starts s: how many bytes its problem has, where it is whole
abbrev pub FrameSays : List ℕ → Option ℕ → Type 0
FrameSays s r = MatchOption r (frame_ok s ≡ false) (λ size. (frame_ok s ≡ true) × (size ≡ frame_size s))

-- all frames of s: how many they are, where they make up all of it
abbrev pub FramesSays : List ℕ → Option ℕ → Type 0
FramesSays s r = MatchOption r (batch_ok s ≡ false) (λ count. (batch_ok s ≡ true) × (count ≡ length (batch_of s)))

-- what is refused before any problem is looked at, by the lengths of the lent buffers: `batch_verdict`
unfoldable pub judgement : List ℕ → (costs choices results memory : ℕ) → Verdict
judgement s costs choices results memory =
    first (frame_verdict s costs choices results) (pick (ltb memory work_need) (verdict work_short 0) accepted)

-- its number, and how many problems the batch has where nothing is refused
pub record JudgedSays (s : List ℕ) (costs choices results memory : ℕ) (r : Result ℕ Reason) : Type 0 where
  pub number : number_in r ≡ (judgement s costs choices results memory).number
  pub count : IfOk r (λ k. (k ≡ length (batch_of s)) × (k ≤ max_batch))

-- xs in the area of problem k, where each problem has n elements
unfoldable pub in_area : ℕ → ℕ → List ℕ → List ℕ → List ℕ
in_area n k xs buffer = take (n * k) buffer ++ (xs ++ drop (n * k + n) buffer)
