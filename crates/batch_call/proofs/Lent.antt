-- What is lent for a problem is its bytes and its areas; and the buffers, when these are back, have them written.
use mathlib.Core.Path.{◌≡◌, ap, subst, ◌∙◌}
use mathlib.Core.List.{List, [], ◌∷◌, ◌++◌}
use Prim.Native.Nat.{ℕ, ◌+◌, ◌*◌, ◌-◌, ◌<◌}
use native.Mathlib.Omega.{arith}
use lib.ListN.{take, drop}
use borrow.Rule.Slice.PartMut.{mid_of, put_mid, Post-is}
use Rattle.model.specs.Calls.{SolveOutcome, solve_outcome}
use Rattle.std.specs.Prelude.{Result}
use Rattle.model.specs.Limits.{word_end}
use Rattle.model.specs.Reasons.{told, value_or}
use Rattle.model.specs.declared.Refusal.{Refusal}
use Rattle.answers.specs.Says.{SolveSays}
use Rattle.batch_frames.specs.Batches.{frame_head, frame_size, frame_problem}
use Rattle.batch_frames.specs.Outcomes.{cost_area, choice_area, result_area}
use Rattle.batch_frames.specs.Statements.{area_of}
use Rattle.batch_frames.specs.Says.{in_area}
use Rattle.batch_call.specs.Steps.{solved_at, Solved}
use Rattle.batch_call.proofs.SolvePlaces.{solve_place}

-- the area of problem k as a part of a buffer, where each problem has n elements
module _ (n k : ℕ) (buffer : List ℕ) where
  abbrev lent : List ℕ
  lent = mid_of (n * k) (n * k + n - n * k) buffer

  abbrev back : List ℕ → List ℕ
  back xs = put_mid (n * k) (n * k + n - n * k) buffer xs

  lent_area : lent ≡ area_of n k buffer
  lent_area =
      let long : n * k + n - n * k ≡ n = omega arith in
      ap (λ (m : ℕ). take m (drop (n * k) buffer)) long

  back_area : (xs : List ℕ) → back xs ≡ in_area n k xs buffer
  unfolding in_area
  back_area xs =
      ap (λ (l : List ℕ). take (n * k) buffer ++ (xs ++ l)) (Post-is (n * k) (n * k + n) buffer (omega arith))

-- a call for the problem of the frame that starts s, on the areas of problem k
module _ (s : List ℕ) (k : ℕ) (c x r w : List ℕ) (size : ℕ) (right : size ≡ frame_size s) where
  abbrev called : SolveOutcome
  called =
      solve_outcome (mid_of frame_head (frame_head + size - frame_head) s) (lent cost_area k c) (lent choice_area k x) w

  called_is : called ≡ solved_at s k c x w
  unfolding frame_problem
  called_is =
      let long : frame_head + size - frame_head ≡ frame_size s = omega arith in
      λ i. solve_outcome (take (long i) (drop frame_head s)) (lent_area cost_area k c i) (lent_area choice_area k x i) w

  pub solved_there : {c' x' r' w' : List ℕ} (a : Result ℕ Refusal) → SolveSays called c' x' w' a
      → ((told a).place < word_end
      → r' ≡ in_area result_area k ((told a).number ∷ (told a).place ∷ value_or 0 a ∷ []) r)
      → Solved s k c x r w (back cost_area k c c') (back choice_area k x x') r' w' (frame_head + size)
  solved_there {c'} {x'} {r'} {w'} a says put =
      let is = subst (λ (o : SolveOutcome). SolveSays o c' x' w' a) called_is says in
      let near = solve_place (frame_problem s) (area_of cost_area k c) (area_of choice_area k x) w in
      record {
        costs_left = back_area cost_area k c c' ∙ ap (λ (l : List ℕ). in_area cost_area k l c) is.costs;
        choices_left = back_area choice_area k x x' ∙ ap (λ (l : List ℕ). in_area choice_area k l x) is.choices;
        results_left = put (rw is.verdict near)
            ∙ (λ i. in_area result_area k ((is.verdict i).number ∷ (is.verdict i).place ∷ is.count i ∷ []) r);
        work_left_lem = is.work;
        ends = ap (◌+◌ frame_head) right;
      }
