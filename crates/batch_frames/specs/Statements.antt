-- The promises about batches as statements over the definitions. proofs/Statements.antt proves them.
use Rattle.std.specs.Prelude.{◌≡◌, ◌⊎◌, Bool, true, false, ◌||◌, ℕ, ◌*◌, ◌≤◌, ◌<◌}
use Rattle.std.specs.Prelude.{List, [], ◌∷◌, length, get_or, take, drop, replicate}
use Rattle.model.specs.Basics.{All, pick}
use Rattle.model.specs.Limits.{word_end, work_need, max_points}
use Rattle.model.specs.Refusals.{work_short, accepted}
use Rattle.model.specs.Encoding.{Byte}
use Rattle.model.specs.Reading.{verdict_of, problem_of}
use Rattle.model.specs.Calls.{answers, room_of, SolveOutcome, solve_outcome}
use Rattle.batch_frames.specs.Batches.{max_batch, batch_ok, batch_of, batch_bytes}
use Rattle.batch_frames.specs.Outcomes.{bad_batch, cost_area, choice_area, result_area, areas_ok}
use Rattle.batch_frames.specs.Outcomes.{BatchOutcome, unchanged, batch_outcome}

-- what the batch call takes: frames that are whole, an area for each problem, enough work memory
pub record Taken (s costs choices results work : List ℕ) : Type 0 where
  pub frames : batch_ok s ≡ true
  pub areas : areas_ok (length (batch_of s)) (length costs) (length choices) (length results) ≡ true
  pub memory : work_need ≤ length work

-- the area of problem k, where each problem has n elements
abbrev pub area_of : ℕ → ℕ → List ℕ → List ℕ
area_of n k buffer = take n (drop (n * k) buffer)

-- what a single call gives stands in the areas of problem k
pub record Stands (k : ℕ) (o : SolveOutcome) (b : BatchOutcome) : Type 0 where
  pub costs : area_of cost_area k b.costs ≡ o.costs
  pub choices : area_of choice_area k b.choices ≡ o.choices
  pub results : area_of result_area k b.results ≡ o.verdict.number ∷ o.verdict.place ∷ o.count ∷ []

-- behind the areas of k problems nothing has changed
pub record Beyond (k : ℕ) (costs choices results : List ℕ) (b : BatchOutcome) : Type 0 where
  pub costs_kept : drop (cost_area * k) b.costs ≡ drop (cost_area * k) costs
  pub choices_kept : drop (choice_area * k) b.choices ≡ drop (choice_area * k) choices
  pub results_kept : drop (result_area * k) b.results ≡ drop (result_area * k) results

-- one of the problems keeps the record rules, so that it is searched
unfoldable pub any_keeps : List (List ℕ) → Bool
any_keeps [] = false
any_keeps (s ∷ ss) = answers (verdict_of s) || any_keeps ss

pub record BatchLaws : Type 0 where
  -- up to 16 problems of any bytes are a batch, from which they are read back; and nothing else is one
  pub framed : (ps : List (List ℕ)) → length ps ≤ max_batch
      → (batch_ok (batch_bytes ps) ≡ true) × (batch_of (batch_bytes ps) ≡ ps)
  pub framed_bytes : (ps : List (List ℕ)) → All (λ p. All Byte p × (length p < word_end)) ps → All Byte (batch_bytes ps)
  pub nothing_else : (s : List ℕ) → All Byte s → batch_ok s ≡ true
      → (length (batch_of s) ≤ max_batch) × (batch_bytes (batch_of s) ≡ s)
  -- the numbers are 0, 21 and 12, and the place is 0; accepted is what is taken, with a count of its problems
  pub numbers : (s costs choices results work : List ℕ)
      → let v = (batch_outcome s costs choices results work).verdict in
      (v.place ≡ 0) × ((v.number ≡ 0) ⊎ ((v.number ≡ bad_batch) ⊎ (v.number ≡ work_short)))
  pub accepted_is : (s costs choices results work : List ℕ) → Taken s costs choices results work
      → ((batch_outcome s costs choices results work).verdict ≡ accepted)
      × ((batch_outcome s costs choices results work).count ≡ length (batch_of s))
  pub taken_is : (s costs choices results work : List ℕ)
      → (batch_outcome s costs choices results work).verdict.number ≡ 0 → Taken s costs choices results work
  -- a refusal leaves everything as it was, and an empty batch too
  pub refused : (s costs choices results work : List ℕ)
      → ((batch_outcome s costs choices results work).verdict.number ≡ 0 → ⊥)
      → batch_outcome s costs choices results work
      ≡ unchanged (batch_outcome s costs choices results work).verdict costs choices results work
  pub empty : (costs choices results work : List ℕ) → work_need ≤ length work
      → batch_outcome [] costs choices results work ≡ unchanged accepted costs choices results work
  -- each problem's areas hold what a call of its own gives there, with the work memory that was lent for the batch
  pub each : (k : ℕ) (s costs choices results work : List ℕ) → Taken s costs choices results work
      → k < length (batch_of s)
      → Stands k
      (solve_outcome (get_or (batch_of s) k []) (area_of cost_area k costs) (area_of choice_area k choices) work)
      (batch_outcome s costs choices results work)
  pub beyond : (s costs choices results work : List ℕ) → Taken s costs choices results work
      → Beyond (length (batch_of s)) costs choices results (batch_outcome s costs choices results work)
  -- work memory is zero where a problem was searched, else unchanged
  pub memory : (s costs choices results work : List ℕ) → Taken s costs choices results work
      → (batch_outcome s costs choices results work).work
      ≡ pick (any_keeps (batch_of s)) (replicate (length work) 0) work
  -- areas have room for 64 points, whatever the problem
  pub room : (s costs choices : List ℕ) → (verdict_of s).number ≡ 0
      → length costs ≡ cost_area → length choices ≡ choice_area → room_of (problem_of s) costs choices ≡ max_points
