-- Plain calls in turn on the areas of a batch, by what each of them promises: the work memory that one leaves is lent
-- to the next.
use Rattle.std.specs.Prelude.{List, [], ◌∷◌, ◌++◌, ℕ, take, drop}
use Rattle.model.specs.Calls.{solve_outcome}
use Rattle.batch_frames.specs.Outcomes.{cost_area, choice_area, result_area}
use Rattle.frontier.specs.Says.{SolveExports}

-- the problems, the buffers as they are lent, and as the calls leave them; the result list takes what each call told
pub data Turns : List (List ℕ) → (costs choices results work costs' choices' results' work' : List ℕ) → Type 0 where
  none : {c x r w : List ℕ} → Turns [] c x r w c x r w
  next : {s c x r w c₁ x₁ w₁ c' x' r' w' : List ℕ} {n at k : ℕ} {ss : List (List ℕ)}
      → SolveExports s (solve_outcome s (take cost_area c) (take choice_area x) w) c₁ x₁ w₁ n at k
      → Turns ss (drop cost_area c) (drop choice_area x) (drop result_area r) w₁ c' x' r' w'
      → Turns (s ∷ ss) c x r w (c₁ ++ c') (x₁ ++ x') (n ∷ at ∷ k ∷ r') w'
