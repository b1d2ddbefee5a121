-- What a caller of the public calls has by their promises alone: the demands, call by call. proofs/Demand1.antt,
-- Demand2.antt, Demand3.antt, BoundLaws.antt and TextBack.antt prove each statement from the calls' promises in
-- Says.antt.
use Rattle.std.specs.Prelude.{◌≡◌, true, ℕ, length, take}
use mathlib.Core.List.{List, Memᴰ as In}
use Rattle.model.specs.Basics.{All}
use Rattle.model.specs.Refusals.{verdict}
use Rattle.model.specs.Problems.{Problem, Word}
use Rattle.model.specs.Encoding.{encode}
use Rattle.model.specs.Reading.{verdict_of, problem_of}
use Rattle.model.specs.Vectors.{at_most}
use Rattle.model.specs.Costs.{is_choice, costs_of}
use Rattle.model.specs.Frontiers.{Point, IsFrontier}
use Rattle.model.specs.Bounds.{prefix_ok, agrees}
use Rattle.model.specs.Cuts.{half_size}
use Rattle.model.specs.Calls.{over, flat_costs, flat_choices, point_records}
use Rattle.model.specs.Calls.{SolveOutcome, ListOutcome, CutOutcome, BoundOutcome}
use Rattle.model.specs.Demands.{Answerable, Cuttable}
use Rattle.text_networks.specs.Statements.{ComeBack}

-- ## The results of a call as one value, of which the model's statements speak

abbrev pub solved : (number place count : ℕ) (costs choices work : List ℕ) → SolveOutcome
solved number place count costs choices work =
    record { verdict = verdict number place; count = count; costs = costs; choices = choices; work = work }

abbrev pub listed : (number place count : ℕ) (points : List Point) (work : List ℕ) → ListOutcome
listed number place count points work =
    record { verdict = verdict number place; count = count; points = points; work = work }

abbrev pub cut : (number place count half-0 half-1 : ℕ) (costs choices work : List ℕ) → CutOutcome
cut number place count half-0 half-1 costs choices work =
    record {
      verdict = verdict number place;
      count = count;
      first_half = half-0;
      second_half = half-1;
      costs = costs;
      choices = choices;
      work = work;
    }

abbrev pub bounded : (number place : ℕ) (least : List ℕ) → BoundOutcome
bounded number place least = record { verdict = verdict number place; least = least }

-- ## Demand 1

-- accepted is every problem that can be answered, and nothing else
pub record Accepts (s work : List ℕ) (room : Problem → ℕ) (number place : ℕ) : Type 0 where
  pub answered : (q : Problem) → encode q ≡ s → Answerable q work (room q) → (number ≡ 0) × (place ≡ 0)
  pub nothing_else : number ≡ 0 → Answerable (problem_of s) work (room (problem_of s)) × (encode (problem_of s) ≡ s)

-- ## Demand 2

-- the list that an answer gives: the frontier, with costs of 32 bits
pub record FrontierList (s : List ℕ) (count : ℕ) (ps : List Point) : Type 0 where
  pub right : IsFrontier (problem_of s) ps
  pub words : (p : Point) → In p ps → All Word p.costs
  pub long : count ≡ length ps

-- it stands flat over what the buffers held,
pub record FlatAnswer (s costs choices costs' choices' : List ℕ) (count : ℕ) : Type 0 where
  pub list : List Point
  pub frontier : FrontierList s count list
  pub costs_are : costs' ≡ over (flat_costs list) costs
  pub choices_are : choices' ≡ over (flat_choices list) choices

-- or as records
pub record RecordAnswer (s : List ℕ) (points points' : List Point) (count : ℕ) : Type 0 where
  pub list : List Point
  pub frontier : FrontierList s count list
  pub points_are : points' ≡ over (point_records list) points

-- ## Demand 3

-- what the cut call answers is the uncut problem's frontier, with the halves' sizes
pub record CutAnswer (s sides costs choices : List ℕ) (o : CutOutcome) : Type 0 where
  pub answer : FlatAnswer s costs choices o.costs o.choices o.count
  pub first_size : o.first_half ≡ half_size 0 (problem_of s) sides
  pub second_size : o.second_half ≡ half_size 1 (problem_of s) sides

-- it answers exactly where the problem can be cut
pub record Cuts (s sides work : List ℕ) (room number place : ℕ) : Type 0 where
  pub answered : Cuttable s sides work room → (number ≡ 0) × (place ≡ 0)
  pub nothing_else : number ≡ 0 → Cuttable s sides work room

-- ## The bound

-- the first p of the four numbers: at most what a completion costs, its cost where the prefix is complete; the others 0
pub record BoundAnswer (s prefix least : List ℕ) : Type 0 where
  pub below : (x : List ℕ) → is_choice (problem_of s).domains x ≡ true → agrees prefix x ≡ true
      → at_most (take (problem_of s).objectives least) (costs_of (problem_of s) x) ≡ true
  pub whole : is_choice (problem_of s).domains prefix ≡ true
      → take (problem_of s).objectives least ≡ costs_of (problem_of s) prefix

-- it answers exactly for a prefix of values in their domains
pub record Bounds (s prefix : List ℕ) (number place : ℕ) : Type 0 where
  pub answered : (verdict_of s).number ≡ 0 → prefix_ok (problem_of s).domains prefix ≡ true → (number ≡ 0) × (place ≡ 0)
  pub nothing_else : number ≡ 0 → ((verdict_of s).number ≡ 0) × (prefix_ok (problem_of s).domains prefix ≡ true)

-- ## The calls that convert

-- reading the text of the records s gave records with the same frontier, over the start of the buffer
pub record SameList (s old new : List ℕ) (n at k : ℕ) : Type 0 where
  pub number : n ≡ 0
  pub place : at ≡ 0
  pub count : k ≡ length s
  pub records : List ℕ
  pub back : ComeBack s records
  pub records_are : new ≡ over records old
