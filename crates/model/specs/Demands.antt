-- The demands as statements over the definitions: the three demands, what every call leaves of the buffers that it is
-- lent, and the laws of the bound. proofs/Demands.antt, Buffers.antt and Agreement.antt prove them.
use Rattle.std.specs.Prelude.{◌≡◌, Bool, true, false, ◌&&◌, ◌||◌, ℕ, ◌*◌, ◌≤◌, ◌<◌, min, eqb, leb, length, take, drop}
use Rattle.std.specs.Prelude.{replicate}
use mathlib.Core.List.{List, [], ◌∷◌, ◌++◌, Memᴰ as In}
use Rattle.model.specs.Basics.{All}
use Rattle.model.specs.Limits.{max_objectives, max_points, work_need, sum_end}
use Rattle.model.specs.Refusals.{cut_short, leftover, work_short, bad_sides, linked, full, bad_prefix}
use Rattle.model.specs.Refusals.{Verdict, accepted}
use Rattle.model.specs.Problems.{Table, Problem, scope_rule, Word, AllInRange, RecordRules}
use Rattle.model.specs.Encoding.{Byte, encode, WellFormed}
use Rattle.model.specs.Reading.{verdict_of, problem_of, places_of}
use Rattle.model.specs.Vectors.{at_most}
use Rattle.model.specs.Costs.{is_choice, cost_of, total, costs_of}
use Rattle.model.specs.Frontiers.{Point, point, frontier, IsFrontier}
use Rattle.model.specs.Bounds.{prefix_ok, agrees, least_of, bound_of}
use Rattle.model.specs.Cuts.{sides_ok, linked_verdict, uncrossed, cut_list, half_size, exchanged}
use Rattle.model.specs.Calls.{room_of, padded, flat_costs, flat_choices, SolveOutcome, ListOutcome}
use Rattle.model.specs.Calls.{CutOutcome, BoundOutcome, solve_outcome, list_outcome, cut_outcome, bound_outcome}

-- ## Demand 1
-- Accepted is every problem that keeps the record rules, with work memory enough and a frontier that fits, and nothing
-- else.

pub record Answerable (q : Problem) (work : List ℕ) (room : ℕ) : Type 0 where
  pub kept : WellFormed q
  pub work_enough : work_need ≤ length work
  pub fits : length (frontier q) ≤ room

pub record Demand1 : Type 0 where
  -- reading and encoding are inverse to each other, between these problems and the byte strings that are not refused
  pub bytes : (q : Problem) → WellFormed q → All Byte (encode q)
  pub encoded : (q : Problem) → WellFormed q → (verdict_of (encode q) ≡ accepted) × (problem_of (encode q) ≡ q)
  pub decoded : (s : List ℕ) → All Byte s → (verdict_of s).number ≡ 0
      → WellFormed (problem_of s) × (encode (problem_of s) ≡ s)
  -- what is refused has one number of 1 to 11, and a place in the bytes or at their end
  pub refused : (s : List ℕ) → ((verdict_of s).number ≤ leftover) × ((verdict_of s).place ≤ length s)
  -- the plain call
  pub answered : (q : Problem) (costs choices work : List ℕ) → Answerable q work (room_of q costs choices)
      → (solve_outcome (encode q) costs choices work).verdict ≡ accepted
  pub nothing_else : (s costs choices work : List ℕ) → All Byte s
      → (solve_outcome s costs choices work).verdict.number ≡ 0
      → Answerable (problem_of s) work (room_of (problem_of s) costs choices) × (encode (problem_of s) ≡ s)
  -- the call for point records, whose room is the list's length, 64 at most
  pub list_answered : (q : Problem) (points : List Point) (work : List ℕ)
      → Answerable q work (min (length points) max_points) → (list_outcome (encode q) points work).verdict ≡ accepted
  pub list_nothing_else : (s : List ℕ) (points : List Point) (work : List ℕ) → All Byte s
      → (list_outcome s points work).verdict.number ≡ 0
      → Answerable (problem_of s) work (min (length points) max_points) × (encode (problem_of s) ≡ s)

-- ## Demand 1, of lent buffers
-- Each call gives one number and its place, and determines every element of what it is lent, whatever stood there.

-- the numbers that have a place of their own: 2 to 11, and 14
unfoldable pub has_place : ℕ → Bool
has_place n = (leb cut_short n && leb n leftover) || eqb n linked

-- what a call tells of the bytes s: the reader's numbers, 1 to 11, and after them only 0 or one of its own
pub record Told (s own : List ℕ) (v : Verdict) : Type 0 where
  pub reader : 1 ≤ (verdict_of s).number → v ≡ verdict_of s
  pub later : (verdict_of s).number ≡ 0 → In v.number (0 ∷ own)
  pub nowhere : has_place v.number ≡ false → v.place ≡ 0

-- a buffer of which the first k elements are written: a refusal leaves all of it, an answer what stands beyond them
pub record Kept {A : Type 0} (v : Verdict) (k : ℕ) (old new : List A) : Type 0 where
  pub refused : 1 ≤ v.number → new ≡ old
  pub beyond : drop k new ≡ drop k old
  pub long : length new ≡ length old

-- work memory: zero after an answer and after 15, unchanged after every other number
pub record Cleared (v : Verdict) (old new : List ℕ) : Type 0 where
  pub answered : v.number ≡ 0 → new ≡ replicate (length old) 0
  pub room_short : v.number ≡ full → new ≡ replicate (length old) 0
  pub refused : 1 ≤ v.number → eqb v.number full ≡ false → new ≡ old

-- the plain call
pub record SolveLeaves (s costs choices work : List ℕ) (o : SolveOutcome) : Type 0 where
  pub told : Told s (work_short ∷ full ∷ []) o.verdict
  pub none : 1 ≤ o.verdict.number → o.count ≡ 0
  pub costs_kept : Kept o.verdict (o.count * (problem_of s).objectives) costs o.costs
  pub choices_kept : Kept o.verdict (o.count * length (problem_of s).domains) choices o.choices
  pub work_cleared : Cleared o.verdict work o.work

-- two such calls for one problem, lent buffers of the same lengths: what they tell and what they write are the same
pub record SolveSame (q : Problem) (o o' : SolveOutcome) : Type 0 where
  pub verdict : o.verdict ≡ o'.verdict
  pub count : o.count ≡ o'.count
  pub costs : take (o.count * q.objectives) o.costs ≡ take (o.count * q.objectives) o'.costs
  pub choices : take (o.count * length q.domains) o.choices ≡ take (o.count * length q.domains) o'.choices

-- the call for point records
pub record ListLeaves (s : List ℕ) (points : List Point) (work : List ℕ) (o : ListOutcome) : Type 0 where
  pub told : Told s (work_short ∷ full ∷ []) o.verdict
  pub none : 1 ≤ o.verdict.number → o.count ≡ 0
  pub points_kept : Kept o.verdict o.count points o.points
  pub work_cleared : Cleared o.verdict work o.work

pub record ListSame (o o' : ListOutcome) : Type 0 where
  pub verdict : o.verdict ≡ o'.verdict
  pub count : o.count ≡ o'.count
  pub points : take o.count o.points ≡ take o.count o'.points

-- the cut call; number 14 has the place of a cost record
pub record CutLeaves (s costs choices work : List ℕ) (o : CutOutcome) : Type 0 where
  pub told : Told s (work_short ∷ bad_sides ∷ linked ∷ full ∷ []) o.verdict
  pub linked_record : o.verdict.number ≡ linked → In o.verdict.place (places_of s)
  pub none : 1 ≤ o.verdict.number → (o.count ≡ 0) × (o.first_half ≡ 0) × (o.second_half ≡ 0)
  pub costs_kept : Kept o.verdict (o.count * (problem_of s).objectives) costs o.costs
  pub choices_kept : Kept o.verdict (o.count * length (problem_of s).domains) choices o.choices
  pub work_cleared : Cleared o.verdict work o.work

pub record CutSame (q : Problem) (o o' : CutOutcome) : Type 0 where
  pub verdict : o.verdict ≡ o'.verdict
  pub count : o.count ≡ o'.count
  pub halves : (o.first_half ≡ o'.first_half) × (o.second_half ≡ o'.second_half)
  pub costs : take (o.count * q.objectives) o.costs ≡ take (o.count * q.objectives) o'.costs
  pub choices : take (o.count * length q.domains) o.choices ≡ take (o.count * length q.domains) o'.choices

-- the bound call; it is lent four numbers, and writes them all
pub record BoundLeaves (s prefix : List ℕ) (o : BoundOutcome) : Type 0 where
  pub told : Told s (bad_prefix ∷ []) o.verdict
  pub answered : o.verdict.number ≡ 0 → o.least ≡ padded max_objectives (bound_of (problem_of s) prefix)
  pub refused : 1 ≤ o.verdict.number → o.least ≡ replicate max_objectives 0

pub record Buffers : Type 0 where
  pub solve : (s costs choices work : List ℕ) → SolveLeaves s costs choices work (solve_outcome s costs choices work)
  pub list : (s : List ℕ) (points : List Point) (work : List ℕ) → ListLeaves s points work (list_outcome s points work)
  pub cut : (s sides costs choices work : List ℕ)
      → CutLeaves s costs choices work (cut_outcome s sides costs choices work)
  pub bound : (s prefix : List ℕ) → BoundLeaves s prefix (bound_outcome s prefix)
  -- nothing depends on what the buffers held; the bound call reads nothing of what it is lent to write
  pub solve_same : (s c c' x x' w w' : List ℕ) → length c ≡ length c' → length x ≡ length x' → length w ≡ length w'
      → SolveSame (problem_of s) (solve_outcome s c x w) (solve_outcome s c' x' w')
  pub list_same : (s : List ℕ) (ps ps' : List Point) (w w' : List ℕ) → length ps ≡ length ps' → length w ≡ length w'
      → ListSame (list_outcome s ps w) (list_outcome s ps' w')
  pub cut_same : (s sides c c' x x' w w' : List ℕ)
      → length c ≡ length c' → length x ≡ length x' → length w ≡ length w'
      → CutSame (problem_of s) (cut_outcome s sides c x w) (cut_outcome s sides c' x' w')

-- ## Demand 2
-- The list is the efficient frontier, in rising order, each vector once, with the earliest choice.

pub record Demand2 : Type 0 where
  pub right : (q : Problem) → IsFrontier q (frontier q)
  pub unique : (q : Problem) (ps rs : List Point) → IsFrontier q ps → IsFrontier q rs → ps ≡ rs
  -- listed costs fit 32 bits, and every sum stays below 2^40
  pub words : (q : Problem) → RecordRules q → (p : Point) → In p (frontier q) → All Word p.costs
  pub sums : (q : Problem) → RecordRules q → (o : ℕ) (x : List ℕ)
      → total o (cost_of q.domains x) q.tables < sum_end

-- The call for point records agrees with the plain call.

-- the first p costs and n choices of each point
unfoldable pub fronts : ℕ → ℕ → List Point → List Point
fronts p n [] = []
fronts p n (t ∷ ts) = point (take p t.costs) (take n t.choice) ∷ fronts p n ts

-- as many points, and in the first p costs and n choices of the records what the plain call writes
pub record Agrees (q : Problem) (o : SolveOutcome) (l : ListOutcome) : Type 0 where
  pub count : o.count ≡ l.count
  pub costs : take (o.count * q.objectives) o.costs
      ≡ flat_costs (fronts q.objectives (length q.domains) (take l.count l.points))
  pub choices : take (o.count * length q.domains) o.choices
      ≡ flat_choices (fronts q.objectives (length q.domains) (take l.count l.points))

pub record Agreement : Type 0 where
  -- with as much room and work memory both give the same number and place
  pub verdict : (s costs choices : List ℕ) (points : List Point) (work work' : List ℕ) → length work ≡ length work'
      → room_of (problem_of s) costs choices ≡ min (length points) max_points
      → (solve_outcome s costs choices work).verdict ≡ (list_outcome s points work').verdict
  -- and where both answer, whatever room each has, the same list
  pub answers : (s costs choices : List ℕ) (points : List Point) (work work' : List ℕ)
      → (solve_outcome s costs choices work).verdict.number ≡ 0 → (list_outcome s points work').verdict.number ≡ 0
      → Agrees (problem_of s) (solve_outcome s costs choices work) (list_outcome s points work')

-- ## Demand 3
-- For any side list that no record crosses, the cut gives exactly that list, also with the sides exchanged.

pub record Cuttable (s sides work : List ℕ) (room : ℕ) : Type 0 where
  pub read : (verdict_of s).number ≡ 0
  pub work_enough : work_need ≤ length work
  pub sides_ok_lem : sides_ok (problem_of s) sides ≡ true
  pub free : uncrossed sides (problem_of s).tables ≡ true
  pub first_fits : half_size 0 (problem_of s) sides ≤ max_points
  pub second_fits : half_size 1 (problem_of s) sides ≤ max_points
  pub fits : length (frontier (problem_of s)) ≤ room

pub record Demand3 : Type 0 where
  pub cut : (q : Problem) (sides : List ℕ) → sides_ok q sides ≡ true → uncrossed sides q.tables ≡ true
      → cut_list q sides ≡ frontier q
  pub other_way : (q : Problem) (sides : List ℕ) → AllInRange (length q.domains) q.tables
      → sides_ok q sides ≡ true → uncrossed sides q.tables ≡ true → cut_list q (exchanged sides) ≡ frontier q
  -- numbers 13 and 14 stay under the exchange, and so does the place
  pub sides_stay : (q : Problem) (sides : List ℕ) → sides_ok q (exchanged sides) ≡ sides_ok q sides
  pub linked_stays : (q : Problem) (sides places : List ℕ) → AllInRange (length q.domains) q.tables
      → sides_ok q sides ≡ true
      → linked_verdict (exchanged sides) q.tables places ≡ linked_verdict sides q.tables places
  -- of bytes that are read all scopes are in range
  pub in_range : (s : List ℕ) → (verdict_of s).number ≡ 0
      → AllInRange (length (problem_of s).domains) (problem_of s).tables
  -- the call answers exactly then
  pub answered : (s sides costs choices work : List ℕ) → Cuttable s sides work (room_of (problem_of s) costs choices)
      → (cut_outcome s sides costs choices work).verdict ≡ accepted
  pub nothing_else : (s sides costs choices work : List ℕ) → (cut_outcome s sides costs choices work).verdict.number ≡ 0
      → Cuttable s sides work (room_of (problem_of s) costs choices)
  -- what it lists is what the plain call lists
  pub as_uncut : (s sides costs choices work : List ℕ) → Cuttable s sides work (room_of (problem_of s) costs choices)
      → ((cut_outcome s sides costs choices work).costs ≡ (solve_outcome s costs choices work).costs)
      × ((cut_outcome s sides costs choices work).choices ≡ (solve_outcome s costs choices work).choices)
      × ((cut_outcome s sides costs choices work).count ≡ (solve_outcome s costs choices work).count)
  -- its two sizes are the lengths of the halves' frontier lists
  pub sizes : (s sides costs choices work : List ℕ) → (cut_outcome s sides costs choices work).verdict.number ≡ 0
      → ((cut_outcome s sides costs choices work).first_half ≡ half_size 0 (problem_of s) sides)
      × ((cut_outcome s sides costs choices work).second_half ≡ half_size 1 (problem_of s) sides)

-- ## The bound
-- Never above a completion's cost, the least entry of each table that some completion has, the cost itself at a
-- complete prefix, and never less for a longer prefix.

pub record BoundLaws : Type 0 where
  pub below : (q : Problem) (prefix x : List ℕ) → is_choice q.domains x ≡ true → agrees prefix x ≡ true
      → at_most (bound_of q prefix) (costs_of q x) ≡ true
  pub least : (ds prefix x : List ℕ) (t : Table) → is_choice ds x ≡ true → agrees prefix x ≡ true
      → least_of ds prefix t ≤ cost_of ds x t
  pub reached : (ds prefix : List ℕ) (t : Table) → All (λ d. 1 ≤ d) ds → prefix_ok ds prefix ≡ true
      → scope_rule (length ds) t.scope ≡ true
      → (x : List ℕ) × (is_choice ds x ≡ true) × (agrees prefix x ≡ true) × (least_of ds prefix t ≡ cost_of ds x t)
  pub whole : (q : Problem) (x : List ℕ) → is_choice q.domains x ≡ true → bound_of q x ≡ costs_of q x
  pub grows : (q : Problem) (prefix more : List ℕ) → prefix_ok q.domains (prefix ++ more) ≡ true
      → at_most (bound_of q prefix) (bound_of q (prefix ++ more)) ≡ true
  pub width : (q : Problem) (prefix : List ℕ) → length (bound_of q prefix) ≡ q.objectives
  -- the call answers exactly for a prefix of values in their domains
  pub answered : (s prefix : List ℕ) → (verdict_of s).number ≡ 0 → prefix_ok (problem_of s).domains prefix ≡ true
      → (bound_outcome s prefix).verdict ≡ accepted
  pub nothing_else : (s prefix : List ℕ) → (bound_outcome s prefix).verdict.number ≡ 0
      → ((verdict_of s).number ≡ 0) × (prefix_ok (problem_of s).domains prefix ≡ true)
