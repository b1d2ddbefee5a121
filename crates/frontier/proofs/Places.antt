-- No place that a call tells is past the limit of bytes, so that C is told each one as it is.
use Rattle.std.proofs.Common.{◌≤◌, ◌<◌, ℕ, List, [], ◌∷◌, Bool, length, eqb, arith}
use Rattle.model.specs.Basics.{pick}
use Rattle.model.specs.Limits.{max_bytes, max_points, word_end}
use Rattle.model.specs.Problems.{Problem}
use Rattle.model.specs.Cuts.{half, cut_list}
use Rattle.model.specs.Refusals.{Verdict, verdict, accepted, refused_at, first}
use Rattle.model.specs.Reading.{verdict_of, problem_of}
use Rattle.model.specs.Frontiers.{Point, frontier}
use Rattle.model.specs.Calls.{work_verdict, room_verdict, solve_verdict, solve_outcome, list_outcome, bound_verdict}
use Rattle.model.specs.Calls.{bound_outcome, answers, room_of, cut_room_verdict, cut_verdict, cut_outcome}
use Rattle.model.proofs.Bits.{pick_both}
use Rattle.model.proofs.Verdicts.{first_has}
use Rattle.model.proofs.Places.{place_limit}
use Rattle.text_networks.specs.Conversions.{converted, text_verdict, to_text_verdict, to_text_outcome}
use Rattle.text_networks.specs.Conversions.{from_text_outcome}
use Rattle.form_canonical.specs.Canonical.{canonical_outcome}
use Rattle.cache_answers.specs.Outcomes.{early_verdict, store_verdict, cached_outcome}
use Rattle.batch_frames.specs.Batches.{batch_of}
use Rattle.batch_frames.specs.Outcomes.{BatchOutcome, in_turn, frame_verdict, batch_verdict, batch_outcome}
use Rattle.answers.specs.Cuts.{cut_refusal}
use Rattle.answers.proofs.CutRefusals.{cut_limits, cut_verdict_lem}

abbrev Near : Verdict → Type 0
Near v = v.place ≤ max_bytes

both : (a b : Verdict) → Near a → Near b → Near (first a b)
both a b h k = first_has Near a b h (λ _. k)

tested : (t : Bool) (n : ℕ) → Near (pick t (verdict n 0) accepted)
tested t n = pick_both Near t (omega arith) (omega arith)

passed : (t : Bool) (n : ℕ) → Near (pick t accepted (verdict n 0))
passed t n = pick_both Near t (omega arith) (omega arith)

-- such a place has four bytes
four_bytes : (v : Verdict) → Near v → v.place < word_end
four_bytes v h = omega arith

refused_near : (n : ℕ) → Near (refused_at 0 n)
refused_near n = pick_both Near (eqb n 0) (omega arith) (omega arith)

solve_near : (s work : List ℕ) (room : ℕ) → Near (solve_verdict s work room)
unfolding solve_verdict work_verdict room_verdict
solve_near s work room = both (verdict_of s) _ (place_limit s) (both (work_verdict work) _ (tested _ _) (tested _ _))

pub solve_place : (s costs choices work : List ℕ) → (solve_outcome s costs choices work).verdict.place < word_end
unfolding solve_outcome
solve_place s costs choices work = four_bytes (solve_outcome s costs choices work).verdict (solve_near s work _)

pub list_place : (s : List ℕ) (points : List Point) (work : List ℕ)
    → (list_outcome s points work).verdict.place < word_end
unfolding list_outcome
list_place s points work = four_bytes (list_outcome s points work).verdict (solve_near s work _)

pub bound_place : (s prefix : List ℕ) → (bound_outcome s prefix).verdict.place < word_end
unfolding bound_outcome bound_verdict
bound_place s prefix =
    four_bytes (bound_outcome s prefix).verdict (both (verdict_of s) _ (place_limit s) (passed _ _))

converted_near : (v : Verdict) (form output : List ℕ) → Near v → Near (converted v form output).verdict
unfolding converted
converted_near v form output h = both v _ h (tested _ _)

pub to_text_place : (s output : List ℕ) → (to_text_outcome s output).verdict.place < word_end
unfolding to_text_outcome to_text_verdict
to_text_place s output =
    four_bytes (to_text_outcome s output).verdict
    (converted_near (to_text_verdict s) _ output (both (verdict_of s) _ (place_limit s) (tested _ _)))

pub from_text_place : (s output : List ℕ) → (from_text_outcome s output).verdict.place < word_end
unfolding from_text_outcome text_verdict
from_text_place s output =
    four_bytes (from_text_outcome s output).verdict (converted_near (text_verdict s) _ output (refused_near _))

pub canonical_place : (s form : List ℕ) → (canonical_outcome s form).verdict.place < word_end
unfolding canonical_outcome
canonical_place s form =
    four_bytes (canonical_outcome s form).verdict (both (verdict_of s) _ (place_limit s) (tested _ _))

pub cached_place : (s costs choices work store : List ℕ)
    → (cached_outcome s costs choices work store).verdict.place < word_end
unfolding cached_outcome early_verdict work_verdict store_verdict
cached_place s costs choices work store =
    let early = both (verdict_of s) _ (place_limit s) (both (work_verdict work) _ (tested _ _) (tested _ _)) in
    four_bytes (cached_outcome s costs choices work store).verdict
    (both (early_verdict s work store) _ early (tested _ _))

room_near : (room : ℕ) (ps : List Point) → Near (room_verdict room ps)
unfolding room_verdict
room_near room ps = tested _ _

cut_room_near : (q : Problem) (sides : List ℕ) (room : ℕ) → Near (cut_room_verdict q sides room)
unfolding cut_room_verdict
cut_room_near q sides room =
    let first_half = room_near max_points (frontier (half 0 q sides)) in
    let second_half = room_near max_points (frontier (half 1 q sides)) in
    both (room_verdict max_points (frontier (half 0 q sides))) _ first_half
    (both (room_verdict max_points (frontier (half 1 q sides))) (room_verdict room (cut_list q sides)) second_half
    (room_near room (cut_list q sides)))

pub cut_place : (s sides costs choices work : List ℕ)
    → (cut_outcome s sides costs choices work).verdict.place < word_end
unfolding cut_outcome
cut_place s sides costs choices work =
    let q = problem_of s in
    let room = room_of q costs choices in
    let early = cut_limits s sides (length work) in
    four_bytes (cut_verdict s sides work room)
    (rw (cut_verdict_lem s sides work room)
    (both (cut_refusal s sides (length work)) (cut_room_verdict q sides room) early.1 (cut_room_near q sides room)))

turns_near : (ss : List (List ℕ)) (costs choices results work : List ℕ)
    → Near (in_turn ss costs choices results work).verdict
unfolding in_turn
turns_near [] costs choices results work = omega arith
turns_near (s ∷ ss) costs choices results work = omega arith

pub batch_place : (s costs choices results work : List ℕ)
    → (batch_outcome s costs choices results work).verdict.place < word_end
unfolding batch_outcome batch_verdict frame_verdict work_verdict
batch_place s costs choices results work =
    let v = batch_verdict s costs choices results work in
    let near = both (frame_verdict s (length costs) (length choices) (length results)) _ (passed _ _) (tested _ _) in
    four_bytes (batch_outcome s costs choices results work).verdict
    (pick_both (λ (o : BatchOutcome). Near o.verdict) (answers v)
    (turns_near (batch_of s) costs choices results work) near)
