-- What `put_result` leaves to show: three numbers stored one after the other (`sets-eq`).
use Rattle.std.proofs.Common.{◌≡◌, ◌∙◌, List, [], ◌∷◌, append_assoc, ℕ, suc, ◌+◌, ◌*◌, ◌≤◌, arith}
use Rattle.std.proofs.Common.{length, take, drop, set}
use lib.Seq.{sets-eq}
use Rattle.batch_frames.specs.Outcomes.{result_area}
use Rattle.batch_frames.specs.Says.{in_area}
use Rattle.batch_frames.proofs.put_result.Goals as goal

three_stored : (k a b d : ℕ) (old : List ℕ) → result_area * k + result_area ≤ length old
    → set (set (set old (result_area * k) a) (result_area * k + 1) b) (result_area * k + 2) d
    ≡ in_area result_area k (a ∷ b ∷ d ∷ []) old
unfolding in_area
three_stored k a b d old h =
    let at = result_area * k in
    let one : at + 1 ≡ suc at = omega arith in
    let two : at + 2 ≡ suc (suc at) = omega arith in
    rw (one, two)
    (sets-eq (a ∷ b ∷ d ∷ []) old at h ∙ append_assoc (take at old) (a ∷ b ∷ d ∷ []) (drop (at + result_area) old))

pub returns : goal.returns
returns c =
    let a = c.args in
    let told = c.tell_count-number in λ near.
    rw (c.from.ensures, told.ensures.number, told.ensures.place near, told.ensures.count)
    (three_stored a.k _ _ _ a.results.now (omega arith))
