-- The steps of the batch call: one problem on its areas, and all of them in turn.
use Rattle.std.specs.Prelude.{◌≡◌, true, List, [], ◌∷◌, ℕ, ◌+◌, ◌*◌, ◌≤◌, ◌<◌, length}
use Rattle.model.specs.Calls.{SolveOutcome, solve_outcome}
use Rattle.batch_frames.specs.Batches.{max_batch, frame_head, frame_size, frame_problem, frame_ok}
use Rattle.batch_frames.specs.Outcomes.{cost_area, choice_area, result_area, BatchOutcome}
use Rattle.batch_frames.specs.Statements.{area_of}
use Rattle.batch_frames.specs.Says.{in_area}

-- one problem: its frame is whole, and its areas are there
pub record Asked (s : List ℕ) (k : ℕ) (costs choices results : List ℕ) : Type 0 where
  pub frame : frame_ok s ≡ true
  pub few : k < max_batch
  pub costs_there : cost_area * k + cost_area ≤ length costs
  pub choices_there : choice_area * k + choice_area ≤ length choices
  pub results_there : result_area * k + result_area ≤ length results

-- what the single call gives on the areas of problem k
abbrev pub solved_at : (s : List ℕ) (k : ℕ) (costs choices work : List ℕ) → SolveOutcome
solved_at s k costs choices work =
    solve_outcome (frame_problem s) (area_of cost_area k costs) (area_of choice_area k choices) work

pub record Solved (s : List ℕ) (k : ℕ) (costs choices results work costs' choices' results' work' : List ℕ) (end : ℕ)
    : Type 0 where
  pub costs_left : costs' ≡ in_area cost_area k (solved_at s k costs choices work).costs costs
  pub choices_left : choices' ≡ in_area choice_area k (solved_at s k costs choices work).choices choices
  pub results_left : results'
      ≡ in_area result_area k
      ((solved_at s k costs choices work).verdict.number ∷ (solved_at s k costs choices work).verdict.place
      ∷ (solved_at s k costs choices work).count ∷ [])
      results
  pub work_left_lem : work' ≡ (solved_at s k costs choices work).work
  pub ends : end ≡ frame_head + frame_size s

-- the buffers are what an outcome says
pub record LeftBy (o : BatchOutcome) (costs' choices' results' work' : List ℕ) : Type 0 where
  pub costs : costs' ≡ o.costs
  pub choices : choices' ≡ o.choices
  pub results : results' ≡ o.results
  pub work : work' ≡ o.work
