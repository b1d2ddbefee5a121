-- Which batches are accepted, and with which numbers the others are refused: with everything left as it was.
use mathlib.Core.Path.{◌≡◌, refl, sym, ap, ◌∙◌}
use mathlib.Core.Logic.{◌⊎◌, inl, inr}
use mathlib.Core.Bool.{Bool, true, false, ◌&&◌}
use mathlib.Core.List.{List, []}
use Prim.Native.Nat.{ℕ, ◌≤◌}
use native.Mathlib.Omega.{arith}
use lib.Dec.{ltb}
use lib.ListN.{length}
use borrow.Author.Tests.{eqb-true, ne_eqb, le-leb}
use Rattle.model.specs.Basics.{pick}
use Rattle.model.specs.Limits.{work_need}
use Rattle.model.specs.Refusals.{work_short, Verdict, accepted}
use Rattle.model.specs.Calls.{answers, work_verdict}
use Rattle.model.proofs.Bits.{and_left, and_right, and_both, pick_both}
use Rattle.model.proofs.Verdicts.{Placed, first_accepts, first_has, first_placed, test_placed, picked_accepts}
use Rattle.model.proofs.Calls.{work_accepts, accepts_work}
use Rattle.batch_frames.specs.Batches.{frames_ok, frames_in, batch_ok, batch_of}
use Rattle.batch_frames.specs.Outcomes.{bad_batch, areas_ok, BatchOutcome, unchanged, in_turn, frame_verdict}
use Rattle.batch_frames.specs.Outcomes.{batch_verdict, batch_outcome}
use Rattle.batch_frames.specs.Statements.{Taken}
use Rattle.batch_frames.proofs.InTurn.{turn_accepted, turn_count}

-- 0, 21 or 12, with the place 0
abbrev Numbered : Verdict → Type 0
Numbered v = (v.place ≡ 0) × ((v.number ≡ 0) ⊎ ((v.number ≡ bad_batch) ⊎ (v.number ≡ work_short)))

module _ (s costs choices results work : List ℕ) where
  abbrev judged : Verdict
  judged = batch_verdict s costs choices results work

  abbrev outcome : BatchOutcome
  outcome = batch_outcome s costs choices results work

  abbrev turn : BatchOutcome
  turn = in_turn (batch_of s) costs choices results work

  -- the frames are whole, and each problem has its areas
  abbrev whole : Bool
  whole = batch_ok s && areas_ok (length (batch_of s)) (length costs) (length choices) (length results)

  -- ## the verdict

  judged_numbered : Numbered judged
  unfolding batch_verdict frame_verdict work_verdict
  judged_numbered =
      first_has Numbered (frame_verdict s (length costs) (length choices) (length results)) (work_verdict work)
      (pick_both Numbered whole (refl, inl refl) (refl, inr (inl refl)))
      (λ _. pick_both Numbered (ltb (length work) work_need) (refl, inr (inr refl)) (refl, inl refl))

  judged_placed : Placed judged
  unfolding batch_verdict work_verdict
  judged_placed =
      first_placed (frame_verdict s (length costs) (length choices) (length results)) (work_verdict work)
      (test_placed (ltb (length work) work_need) work_short 0 accepted refl (λ _. refl))

  told : outcome.verdict ≡ judged
  unfolding batch_outcome
  told = go (answers judged) refl
    where
      go : (b : Bool) → answers judged ≡ b
          → (pick b turn (unchanged judged costs choices results work)).verdict ≡ judged
      go true e = turn_accepted (batch_of s) costs choices results work ∙ sym (judged_placed (eqb-true _ _ e))
      go false e = refl

  pub numbers : Numbered outcome.verdict
  numbers = rw told judged_numbered

  -- ## what is taken

  taken_judged : Taken s costs choices results work → judged ≡ accepted
  unfolding batch_verdict frame_verdict
  taken_judged t = rw (t.frames, t.areas, accepts_work work t.memory) refl

  -- the problems are looked at in turn
  pub in_turn_lem : Taken s costs choices results work → outcome ≡ turn
  unfolding batch_outcome
  in_turn_lem t = rw (taken_judged t) refl

  pub accepted_is : Taken s costs choices results work
      → (outcome.verdict ≡ accepted) × (outcome.count ≡ length (batch_of s))
  accepted_is t = (told ∙ taken_judged t, rw (in_turn_lem t) (turn_count (batch_of s) costs choices results work))

  pub taken_is : outcome.verdict.number ≡ 0 → Taken s costs choices results work
  unfolding batch_verdict frame_verdict
  taken_is h =
      let frames = frame_verdict s (length costs) (length choices) (length results) in
      let areas = areas_ok (length (batch_of s)) (length costs) (length choices) (length results) in
      let both = first_accepts frames (work_verdict work) (rw told at h) in
      let right = picked_accepts whole bad_batch refl both.0 in
      record {
        frames = and_left (batch_ok s) areas right;
        areas = and_right (batch_ok s) areas right;
        memory = work_accepts work both.1;
      }

  -- ## what is left as it was

  pub refused : (outcome.verdict.number ≡ 0 → ⊥) → outcome ≡ unchanged outcome.verdict costs choices results work
  unfolding batch_outcome
  refused n = rw (ne_eqb judged.number 0 (λ e. n (ap (λ (v : Verdict). v.number) told ∙ e))) refl

pub empty : (costs choices results work : List ℕ) → work_need ≤ length work
    → batch_outcome [] costs choices results work ≡ unchanged accepted costs choices results work
unfolding frames_ok frames_in areas_ok in_turn
empty costs choices results work enough =
    in_turn_lem [] costs choices results work (record {
      frames = refl;
      areas = and_both (le-leb 0 (length costs) (omega arith))
          (and_both (le-leb 0 (length choices) (omega arith)) (le-leb 0 (length results) (omega arith)));
      memory = enough;
    })
