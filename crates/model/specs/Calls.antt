-- What each public call answers and leaves in the lent buffers, for every input:
-- nothing of it depends on what they held.
use Rattle.std.specs.Prelude.{Bool, ◌||◌, List, [], ◌∷◌, ◌++◌, ℕ, zero, suc, ◌-◌, ◌/◌, min, eqb, ltb, length, drop}
use Rattle.std.specs.Prelude.{replicate}
use Rattle.model.specs.Basics.{pick}
use Rattle.model.specs.Limits.{max_variables, max_objectives, max_points, work_need}
use Rattle.model.specs.Refusals.{work_short, bad_sides, full, bad_prefix, Verdict, verdict, accepted, first}
use Rattle.model.specs.Problems.{Problem}
use Rattle.model.specs.Reading.{verdict_of, problem_of, places_of}
use Rattle.model.specs.Frontiers.{Point, point, frontier}
use Rattle.model.specs.Bounds.{prefix_ok, bound_of}
use Rattle.model.specs.Cuts.{sides_ok, linked_verdict, half, cut_list, half_size}

-- xs written over the start of a buffer; xs with zeros up to n
unfoldable pub over : {A : Type 0} → List A → List A → List A
over xs buffer = xs ++ drop (length xs) buffer

unfoldable pub padded : ℕ → List ℕ → List ℕ
padded n xs = xs ++ replicate (n - length xs) 0

-- rounded down; by 0 it is 0
unfoldable pub divided : ℕ → ℕ → ℕ
divided a zero = 0
divided a (suc b) = a / suc b

-- "room" (reference, section 7): how many points the cost and choice buffers hold, at most 64
unfoldable pub room_of : Problem → List ℕ → List ℕ → ℕ
room_of q costs choices =
    min (divided (length costs) q.objectives) (min (divided (length choices) (length q.domains)) max_points)

-- the points one after the other, as the cost buffer and the choice buffer take them
unfoldable pub flat_costs : List Point → List ℕ
flat_costs [] = []
flat_costs (p ∷ ps) = p.costs ++ flat_costs ps

unfoldable pub flat_choices : List Point → List ℕ
flat_choices [] = []
flat_choices (p ∷ ps) = p.choice ++ flat_choices ps

-- the points as records of four costs and 24 choices, the unused ones zero
unfoldable pub point_records : List Point → List Point
point_records [] = []
point_records (p ∷ ps) = point (padded max_objectives p.costs) (padded max_variables p.choice) ∷ point_records ps

-- nothing is refused
abbrev pub answers : Verdict → Bool
answers v = eqb v.number 0

-- the work buffer is zero after an answer and after 15, else unchanged
unfoldable pub work_after : Verdict → List ℕ → List ℕ
work_after v work = pick (answers v || eqb v.number full) (replicate (length work) 0) work

unfoldable pub work_verdict : List ℕ → Verdict
work_verdict work = pick (ltb (length work) work_need) (verdict work_short 0) accepted

-- 15, where a list is longer than the room
unfoldable pub room_verdict : ℕ → List Point → Verdict
room_verdict room ps = pick (ltb room (length ps)) (verdict full 0) accepted

-- The plain call: 1 to 11, 12, 15.
pub record SolveOutcome : Type 0 where
  pub verdict : Verdict
  pub count : ℕ
  pub costs : List ℕ
  pub choices : List ℕ
  pub work : List ℕ

unfoldable pub solve_verdict : List ℕ → List ℕ → ℕ → Verdict
solve_verdict s work room =
    first (verdict_of s) (first (work_verdict work) (room_verdict room (frontier (problem_of s))))

unfoldable pub solve_outcome : List ℕ → List ℕ → List ℕ → List ℕ → SolveOutcome
solve_outcome s costs choices work =
    let q = problem_of s in
    let ps = frontier q in
    let v = solve_verdict s work (room_of q costs choices) in
    record {
      verdict = v;
      count = pick (answers v) (length ps) 0;
      costs = pick (answers v) (over (flat_costs ps) costs) costs;
      choices = pick (answers v) (over (flat_choices ps) choices) choices;
      work = work_after v work;
    }

-- The call for point records: the same, with the list's length as room, 64 at most.
pub record ListOutcome : Type 0 where
  pub verdict : Verdict
  pub count : ℕ
  pub points : List Point
  pub work : List ℕ

unfoldable pub list_outcome : List ℕ → List Point → List ℕ → ListOutcome
list_outcome s points work =
    let ps = frontier (problem_of s) in
    let v = solve_verdict s work (min (length points) max_points) in
    record {
      verdict = v;
      count = pick (answers v) (length ps) 0;
      points = pick (answers v) (over (point_records ps) points) points;
      work = work_after v work;
    }

-- The cut call: 1 to 11, 12, 13, 14 with the place of the first linked record, 15 also for a half.
pub record CutOutcome : Type 0 where
  pub verdict : Verdict
  pub count : ℕ
  pub first_half : ℕ
  pub second_half : ℕ
  pub costs : List ℕ
  pub choices : List ℕ
  pub work : List ℕ

unfoldable pub sides_verdict : Problem → List ℕ → Verdict
sides_verdict q sides = pick (sides_ok q sides) accepted (verdict bad_sides 0)

unfoldable pub cut_room_verdict : Problem → List ℕ → ℕ → Verdict
cut_room_verdict q sides room =
    first (room_verdict max_points (frontier (half 0 q sides))) (
    first (room_verdict max_points (frontier (half 1 q sides))) (room_verdict room (cut_list q sides)))

unfoldable pub cut_verdict : List ℕ → List ℕ → List ℕ → ℕ → Verdict
cut_verdict s sides work room =
    let q = problem_of s in
    first (verdict_of s) (
    first (work_verdict work) (
    first (sides_verdict q sides) (
    first (linked_verdict sides q.tables (places_of s)) (cut_room_verdict q sides room))))

unfoldable pub cut_outcome : List ℕ → List ℕ → List ℕ → List ℕ → List ℕ → CutOutcome
cut_outcome s sides costs choices work =
    let q = problem_of s in
    let ps = cut_list q sides in
    let v = cut_verdict s sides work (room_of q costs choices) in
    record {
      verdict = v;
      count = pick (answers v) (length ps) 0;
      first_half = pick (answers v) (half_size 0 q sides) 0;
      second_half = pick (answers v) (half_size 1 q sides) 0;
      costs = pick (answers v) (over (flat_costs ps) costs) costs;
      choices = pick (answers v) (over (flat_choices ps) choices) choices;
      work = work_after v work;
    }

-- The bound call: 1 to 11, 16; four numbers, the unused ones zero.
pub record BoundOutcome : Type 0 where
  pub verdict : Verdict
  pub least : List ℕ

unfoldable pub bound_verdict : List ℕ → List ℕ → Verdict
bound_verdict s prefix =
    first (verdict_of s) (pick (prefix_ok (problem_of s).domains prefix) accepted (verdict bad_prefix 0))

unfoldable pub bound_outcome : List ℕ → List ℕ → BoundOutcome
bound_outcome s prefix =
    let v = bound_verdict s prefix in
    record {
      verdict = v;
      least = padded max_objectives (pick (answers v) (bound_of (problem_of s) prefix) []);
    }
