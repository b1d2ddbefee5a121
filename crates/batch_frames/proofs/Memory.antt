-- Work memory after the calls in turn: zero where one of them searched, else as it was.
use mathlib.Core.Path.{◌≡◌, refl, ◌∙◌}
use mathlib.Core.Bool.{Bool, true, false, ◌||◌}
use mathlib.Core.List.{List, [], ◌∷◌}
use Prim.Native.Nat.{ℕ, ◌≤◌}
use native.Mathlib.Omega.{arith}
use native.Mathlib.Nat.{pos_of_ne-zero}
use lib.Dec.{ltb}
use lib.ListN.{length, take, drop, replicate, length-replicate}
use borrow.Author.Tests.{eqb-false, ne_eqb}
use Rattle.model.specs.Basics.{pick}
use Rattle.model.specs.Limits.{work_need}
use Rattle.model.specs.Refusals.{full, Verdict, verdict, accepted, first}
use Rattle.model.specs.Frontiers.{frontier}
use Rattle.model.specs.Reading.{verdict_of, problem_of}
use Rattle.model.specs.Calls.{answers, room_of, work_after, work_verdict, room_verdict, solve_verdict, solve_outcome}
use Rattle.model.proofs.Bits.{pick_both}
use Rattle.model.proofs.Places.{refused_number}
use Rattle.model.proofs.Calls.{accepts_work}
use Rattle.model.proofs.Buffers.{cleared}
use Rattle.batch_frames.specs.Batches.{batch_of}
use Rattle.batch_frames.specs.Outcomes.{cost_area, choice_area, result_area, in_turn, batch_outcome}
use Rattle.batch_frames.specs.Statements.{Taken, any_keeps}
use Rattle.batch_frames.proofs.InTurn.{work_long}
use Rattle.batch_frames.proofs.Accepted.{in_turn_lem}

-- ## one call with work memory enough

module _ (s costs choices work : List ℕ) (enough : work_need ≤ length work) where
  abbrev room_left : Verdict
  room_left = room_verdict (room_of (problem_of s) costs choices) (frontier (problem_of s))

  -- it answers or has no room
  searched : work_after room_left work ≡ replicate (length work) 0
  unfolding room_verdict
  searched =
      pick_both (λ (v : Verdict). work_after v work ≡ replicate (length work) 0)
      (ltb (room_of (problem_of s) costs choices) (length (frontier (problem_of s))))
      {a = verdict full 0} {b = accepted}
      ((cleared (verdict full 0) work).room_short refl) ((cleared accepted work).answered refl)

  pub call_clears : (solve_outcome s costs choices work).work
      ≡ pick (answers (verdict_of s)) (replicate (length work) 0) work
  unfolding solve_outcome solve_verdict
  call_clears = go (answers (verdict_of s)) refl
    where
      go : (b : Bool) → answers (verdict_of s) ≡ b
          → work_after (pick b (first (work_verdict work) room_left) (verdict_of s)) work
          ≡ pick b (replicate (length work) 0) work
      go true e = rw (accepts_work work enough) searched
      go false e =
          (cleared (verdict_of s) work).refused (pos_of_ne-zero (eqb-false _ _ e))
          (ne_eqb (verdict_of s).number full (λ h. omega (arith, h, refused_number s)))

-- ## all of them

-- what is zero is cleared once more
again : (a b : Bool) (old new : List ℕ) → new ≡ pick a (replicate (length old) 0) old
    → pick b (replicate (length new) 0) new ≡ pick (a || b) (replicate (length old) 0) old
again true true old new e = rw (e, length-replicate {A = ℕ} (length old) 0) refl
again true false old new e = e
again false b old new e = rw e refl

turn_clears : (ss : List (List ℕ)) (costs choices results work : List ℕ) → work_need ≤ length work
    → (in_turn ss costs choices results work).work ≡ pick (any_keeps ss) (replicate (length work) 0) work
unfolding in_turn any_keeps
turn_clears [] costs choices results work enough = refl
turn_clears (s ∷ ss) costs choices results work enough =
    let c = take cost_area costs in
    let x = take choice_area choices in
    let left = (solve_outcome s c x work).work in
    turn_clears ss (drop cost_area costs) (drop choice_area choices) (drop result_area results) left
    (omega (arith, enough, work_long s c x work))
    ∙ again (answers (verdict_of s)) (any_keeps ss) work left (call_clears s c x work enough)

-- ## of the batch

pub memory : (s costs choices results work : List ℕ) → Taken s costs choices results work
    → (batch_outcome s costs choices results work).work ≡ pick (any_keeps (batch_of s)) (replicate (length work) 0) work
memory s costs choices results work t =
    rw (in_turn_lem s costs choices results work t) (turn_clears (batch_of s) costs choices results work t.memory)
