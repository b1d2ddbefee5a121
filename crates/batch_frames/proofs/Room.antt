-- An area has room for as many points as a list may have, whatever the problem.
use mathlib.Core.Path.{◌≡◌}
use mathlib.Core.List.{List}
use Prim.Native.Nat.{ℕ}
use native.Mathlib.Omega.{arith}
use lib.ListN.{length}
use Rattle.model.specs.Limits.{max_points}
use Rattle.model.specs.Reading.{head_variables, head_length, verdict_of, problem_of}
use Rattle.model.specs.Calls.{room_of}
use Rattle.model.proofs.Flat.{room_whole}
use Rattle.model.proofs.DomainRecords.{length_domains_at}
use Rattle.model.proofs.Reading.{accepted_parts}
use Rattle.batch_frames.specs.Outcomes.{cost_area, choice_area}

pub room : (s costs choices : List ℕ) → (verdict_of s).number ≡ 0
    → length costs ≡ cost_area → length choices ≡ choice_area → room_of (problem_of s) costs choices ≡ max_points
unfolding problem_of
room s costs choices h e f =
    let head = (accepted_parts s h).head in
    let n = length_domains_at (head_variables s) s (head_length s) in
    room_whole (problem_of s) costs choices head.objectives.0 (omega (arith, n, head.variables))
    (omega (arith, e, head.objectives)) (omega (arith, f, n, head.variables))
