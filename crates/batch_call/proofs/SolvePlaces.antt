-- The place that a single call tells is in the problem's bytes, so that a number of the result list holds it.
use Rattle.std.proofs.Common.{◌≤◌, ◌<◌, ℕ, List, Bool, arith}
use Rattle.model.specs.Basics.{pick}
use Rattle.model.specs.Limits.{max_bytes, word_end}
use Rattle.model.specs.Refusals.{Verdict, verdict, accepted}
use Rattle.model.specs.Reading.{verdict_of}
use Rattle.model.specs.Calls.{work_verdict, room_verdict, solve_verdict, solve_outcome}
use Rattle.model.proofs.Bits.{pick_both}
use Rattle.model.proofs.Verdicts.{first_has}
use Rattle.model.proofs.Places.{place_limit}

abbrev Near : Verdict → Type 0
Near v = v.place ≤ max_bytes

tested : (t : Bool) (n : ℕ) → Near (pick t (verdict n 0) accepted)
tested t n = pick_both Near t (omega arith) (omega arith)

solve_near : (s work : List ℕ) (room : ℕ) → Near (solve_verdict s work room)
unfolding solve_verdict work_verdict room_verdict
solve_near s work room =
    first_has Near (verdict_of s) _ (place_limit s)
    (λ _. first_has Near (work_verdict work) _ (tested _ _) (λ _. tested _ _))

-- such a place has four bytes
four_bytes : (v : Verdict) → Near v → v.place < word_end
four_bytes v h = omega arith

pub solve_place : (s costs choices work : List ℕ) → (solve_outcome s costs choices work).verdict.place < word_end
unfolding solve_outcome
solve_place s costs choices work = four_bytes (solve_outcome s costs choices work).verdict (solve_near s work _)
