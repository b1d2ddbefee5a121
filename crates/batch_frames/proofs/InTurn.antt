-- Single calls in turn: each gives back buffers as long as it was lent them, whatever its work memory held; and they
-- are counted.
use mathlib.Core.Path.{◌≡◌, refl, ap, ◌∙◌}
use mathlib.Core.Bool.{Bool, true, false, ◌||◌}
use mathlib.Core.List.{List, [], ◌∷◌}
use Prim.Native.Nat.{ℕ, suc, ◌≤◌}
use lib.Dec.{eqb}
use lib.ListN.{length, take, replicate, length-replicate}
use lib.Seq.{length-take-le}
use Rattle.model.specs.Basics.{pick}
use Rattle.model.specs.Refusals.{full, Verdict, accepted}
use Rattle.model.specs.Calls.{answers, work_after, work_verdict, solve_verdict, solve_outcome}
use Rattle.model.proofs.Demands.{buffers}
use Rattle.batch_frames.specs.Outcomes.{cost_area, choice_area, in_turn}

-- ## one call

after_long : (v : Verdict) (work : List ℕ) → length (work_after v work) ≡ length work
unfolding work_after
after_long v work = go (answers v || eqb v.number full)
  where
    go : (b : Bool) → length (pick b (replicate (length work) 0) work) ≡ length work
    go true = length-replicate {A = ℕ} (length work) 0
    go false = refl

module _ (s costs choices work : List ℕ) where
  pub costs_long : cost_area ≤ length costs
      → length (solve_outcome s (take cost_area costs) (take choice_area choices) work).costs ≡ cost_area
  costs_long there =
      (buffers.solve s (take cost_area costs) (take choice_area choices) work).costs_kept.long
      ∙ length-take-le cost_area costs there

  pub choices_long : choice_area ≤ length choices
      → length (solve_outcome s (take cost_area costs) (take choice_area choices) work).choices ≡ choice_area
  choices_long there =
      (buffers.solve s (take cost_area costs) (take choice_area choices) work).choices_kept.long
      ∙ length-take-le choice_area choices there

  pub work_long : length (solve_outcome s costs choices work).work ≡ length work
  unfolding solve_outcome
  work_long = after_long _ work

  -- with other work memory of the same length
  pub costs_same : (other : List ℕ) → length work ≡ length other
      → (solve_outcome s costs choices work).costs ≡ (solve_outcome s costs choices other).costs
  unfolding solve_outcome solve_verdict work_verdict
  costs_same other e = rw e refl

  pub choices_same : (other : List ℕ) → length work ≡ length other
      → (solve_outcome s costs choices work).choices ≡ (solve_outcome s costs choices other).choices
  unfolding solve_outcome solve_verdict work_verdict
  choices_same other e = rw e refl

-- ## all of them

pub turn_accepted : (ss : List (List ℕ)) (costs choices results work : List ℕ)
    → (in_turn ss costs choices results work).verdict ≡ accepted
unfolding in_turn
turn_accepted [] costs choices results work = refl
turn_accepted (s ∷ ss) costs choices results work = refl

pub turn_count : (ss : List (List ℕ)) (costs choices results work : List ℕ)
    → (in_turn ss costs choices results work).count ≡ length ss
unfolding in_turn
turn_count [] costs choices results work = refl
turn_count (s ∷ ss) costs choices results work = ap suc (turn_count ss _ _ _ _)
