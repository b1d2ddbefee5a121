-- Problems solved in turn: what is known where k of them are solved, and those that the place `at` starts are left.
use mathlib.Core.Path.{◌≡◌, refl, sym, ap, ap₂, ◌∙◌}
use mathlib.Core.Bool.{true}
use mathlib.Core.List.{List, [], ◌∷◌, ◌++◌, append_assoc}
use Prim.Native.Nat.{ℕ, suc, ◌+◌, ◌*◌, ◌-◌, ◌≤◌, ◌<◌}
use native.Mathlib.Omega.{arith}
use lib.ListN.{length, take, drop, length-drop, take-append-drop}
use Rattle.model.specs.Calls.{SolveOutcome}
use Rattle.model.proofs.Bits.{true_false}
use Rattle.batch_frames.specs.Batches.{max_batch, frame_head, frame_size, frame_problem, frame_ok, frames_in, batch_of}
use Rattle.batch_frames.specs.Outcomes.{cost_area, choice_area, result_area, BatchOutcome, in_turn}
use Rattle.batch_frames.specs.Statements.{Taken}
use Rattle.batch_frames.specs.Says.{in_area}
use Rattle.batch_frames.proofs.FrameSteps.{rest_place, frames_none, frames_first, frames_next}
use Rattle.batch_frames.proofs.FramesRead.{Read, none_read, too_many, one_more}
use Rattle.batch_frames.proofs.AreaSteps.{areas_there, area_front, area_behind}
use Rattle.batch_frames.proofs.InTurn.{costs_long, choices_long}
use Rattle.batch_call.specs.Steps.{Asked, solved_at, Solved, LeftBy}

-- ## k problems are solved, and the problems ss are left

-- what these do behind the areas of the others
unfoldable pub behind : ℕ → List (List ℕ) → (costs choices results work : List ℕ) → BatchOutcome
behind k ss costs choices results work =
    in_turn ss (drop (cost_area * k) costs) (drop (choice_area * k) choices) (drop (result_area * k) results) work

-- then the buffers are as an outcome says
pub record Left (k : ℕ) (ss : List (List ℕ)) (c x r w : List ℕ) (all : BatchOutcome) : Type 0 where
  pub costs : take (cost_area * k) c ++ (behind k ss c x r w).costs ≡ all.costs
  pub choices : take (choice_area * k) x ++ (behind k ss c x r w).choices ≡ all.choices
  pub results : take (result_area * k) r ++ (behind k ss c x r w).results ≡ all.results
  pub work : (behind k ss c x r w).work ≡ all.work

all_left : (ss : List (List ℕ)) (c x r w : List ℕ) → Left 0 ss c x r w (in_turn ss c x r w)
unfolding behind
all_left ss c x r w = record { costs = refl; choices = refl; results = refl; work = refl }

none_left : (k : ℕ) (c x r w : List ℕ) (all : BatchOutcome) → Left k [] c x r w all → LeftBy all c x r w
unfolding behind in_turn
none_left k c x r w all l = record {
  costs = sym (take-append-drop (cost_area * k) c) ∙ l.costs;
  choices = sym (take-append-drop (choice_area * k) x) ∙ l.choices;
  results = sym (take-append-drop (result_area * k) r) ∙ l.results;
  work = l.work;
}

-- one buffer, where the area of problem k is written
module _ (n k : ℕ) (xs b b' : List ℕ) (long : length xs ≡ n) (there : n * k + n ≤ length b)
    (e : b' ≡ in_area n k xs b) where
  drop_next : drop (n * (k + 1)) b' ≡ drop n (drop (n * k) b)
  drop_next = ap (drop (n * (k + 1))) e ∙ area_behind n k xs b long there

  take_next : {rest rest' : List ℕ} → rest' ≡ rest → take (n * (k + 1)) b' ++ rest' ≡ take (n * k) b ++ (xs ++ rest)
  take_next {rest} f =
      ap₂ ◌++◌ (ap (take (n * (k + 1))) e ∙ area_front n k xs b long there) f
      ∙ append_assoc (take (n * k) b) xs rest

-- the problem of the frame that starts s is solved
module _ (s : List ℕ) (k : ℕ) (c x r w c' x' r' w' : List ℕ) (end : ℕ) (asked : Asked s k c x r)
    (solved : Solved s k c x r w c' x' r' w' end) where
  abbrev o : SolveOutcome
  o = solved_at s k c x w

  abbrev told : List ℕ
  told = o.verdict.number ∷ o.verdict.place ∷ o.count ∷ []

  costs_fit : length o.costs ≡ cost_area
  costs_fit =
      costs_long (frame_problem s) (drop (cost_area * k) c) (drop (choice_area * k) x) w
      (omega (arith, asked.costs_there, length-drop (cost_area * k) c))

  choices_fit : length o.choices ≡ choice_area
  choices_fit =
      choices_long (frame_problem s) (drop (cost_area * k) c) (drop (choice_area * k) x) w
      (omega (arith, asked.choices_there, length-drop (choice_area * k) x))

  one_less : (ss : List (List ℕ)) (all : BatchOutcome) → Left k (frame_problem s ∷ ss) c x r w all
      → Left (k + 1) ss c' x' r' w' all
  unfolding behind in_turn
  one_less ss all l =
      let rest = in_turn ss (drop cost_area (drop (cost_area * k) c)) (drop choice_area (drop (choice_area * k) x))
      (drop result_area (drop (result_area * k) r)) o.work in
      let same : behind (k + 1) ss c' x' r' w' ≡ rest = λ i.
      in_turn ss
      (drop_next cost_area k o.costs c c' costs_fit asked.costs_there solved.costs_left i)
      (drop_next choice_area k o.choices x x' choices_fit asked.choices_there solved.choices_left i)
      (drop_next result_area k told r r' refl asked.results_there solved.results_left i)
      (solved.work_left_lem i) in
      record {
        costs = take_next cost_area k o.costs c c' costs_fit asked.costs_there solved.costs_left
            (λ i. (same i).costs) ∙ l.costs;
        choices = take_next choice_area k o.choices x x' choices_fit asked.choices_there solved.choices_left
            (λ i. (same i).choices) ∙ l.choices;
        results = take_next result_area k told r r' refl asked.results_there solved.results_left
            (λ i. (same i).results) ∙ l.results;
        work = (λ i. (same i).work) ∙ l.work;
      }

-- ## the batch s, at the place `at`

pub record Turned (s c₀ x₀ r₀ w₀ : List ℕ) (at k : ℕ) (c x r w : List ℕ) : Type 0 where
  pub read : Read s at k
  pub left : Left k (frames_in (max_batch - k) (drop at s)) c x r w (in_turn (batch_of s) c₀ x₀ r₀ w₀)
  pub costs_long : length c ≡ length c₀
  pub choices_long : length x ≡ length x₀
  pub results_long : length r ≡ length r₀
  pub work_long : length w ≡ length w₀

pub none_turned : (s c x r w : List ℕ) → Turned s c x r w 0 0 c x r w
none_turned s c x r w = record {
  read = none_read s;
  left = all_left (batch_of s) c x r w;
  costs_long = refl;
  choices_long = refl;
  results_long = refl;
  work_long = refl;
}

module _ (s c₀ x₀ r₀ w₀ : List ℕ) (at k : ℕ) (c x r w : List ℕ) (t : Turned s c₀ x₀ r₀ w₀ at k c x r w) where
  pub all_turned : length s ≤ at → LeftBy (in_turn (batch_of s) c₀ x₀ r₀ w₀) c x r w
  all_turned l =
      let none = frames_none (max_batch - k) (drop at s) (omega (arith, length-drop at s, l)) in
      none_left k c x r w (in_turn (batch_of s) c₀ x₀ r₀ w₀) (rw none at t.left)

  -- bytes are left
  module _ (taken : Taken s c₀ x₀ r₀ w₀) (l : at < length s) where
    some : length (drop at s) ≡ 0 → ⊥
    some e = omega (arith, length-drop at s)

    below : k < max_batch
    below =
        let few : k ≡ max_batch → ⊥ = λ e. true_false taken.frames (too_many s at k t.read l e) in
        omega (arith, t.read.few)

    next_less : max_batch - k ≡ suc (max_batch - (k + 1))
    next_less = omega (arith, below)

    whole : frame_ok (drop at s) ≡ true
    whole =
        let ok = sym t.read.kept ∙ taken.frames in
        (frames_first (max_batch - (k + 1)) (drop at s) (rw next_less at ok) some).0

    abbrev next_at_lem : ℕ
    next_at_lem = at + (frame_head + frame_size (drop at s))

    next_frames : frames_in (max_batch - k) (drop at s)
        ≡ frame_problem (drop at s) ∷ frames_in (max_batch - (k + 1)) (drop next_at_lem s)
    next_frames = rw (next_less, frames_next (max_batch - (k + 1)) (drop at s) some, rest_place s at) refl

    pub next_asked : Asked (drop at s) k c x r
    next_asked =
        let many = ap length next_frames in
        let there = areas_there (length (batch_of s)) (length c₀) (length x₀) (length r₀) taken.areas in
        record {
          frame = whole;
          few = below;
          costs_there = omega (arith, there.0, many, t.read.counted, t.costs_long);
          choices_there = omega (arith, there.1, many, t.read.counted, t.choices_long);
          results_there = omega (arith, there.2, many, t.read.counted, t.results_long);
        }

    -- the next problem is solved
    module _ (c' x' r' w' : List ℕ) (end : ℕ) (solved : Solved (drop at s) k c x r w c' x' r' w' end) where
      pub next_turned : length c' ≡ length c → length x' ≡ length x → length r' ≡ length r → length w' ≡ length w
          → Turned s c₀ x₀ r₀ w₀ (at + end) (k + 1) c' x' r' w'
      next_turned c-long x-long r-long w-long =
          rw solved.ends (record {
            read = one_more s at k t.read l below whole;
            left = one_less (drop at s) k c x r w c' x' r' w' end next_asked solved
                (frames_in (max_batch - (k + 1)) (drop next_at_lem s)) (in_turn (batch_of s) c₀ x₀ r₀ w₀)
                (rw next_frames at t.left);
            costs_long = c-long ∙ t.costs_long;
            choices_long = x-long ∙ t.choices_long;
            results_long = r-long ∙ t.results_long;
            work_long = w-long ∙ t.work_long;
          })
