-- The three demands, what the calls leave of lent buffers, and the laws of the bound, proved.
use mathlib.Core.Path.{◌≡◌, refl, subst}
use mathlib.Core.Bool.{true}
use mathlib.Core.List.{List}
use Prim.Native.Nat.{ℕ, min}
use lib.ListN.{length}
use Rattle.model.specs.Basics.{pick, All}
use Rattle.model.specs.Limits.{max_points}
use Rattle.model.specs.Refusals.{bad_prefix, verdict, accepted}
use Rattle.model.specs.Problems.{Problem, InRange, AllInRange, scope_rule}
use Rattle.model.specs.Encoding.{Byte, encode}
use Rattle.model.specs.Reading.{verdict_of, problem_of}
use Rattle.model.specs.Frontiers.{Point, frontier}
use Rattle.model.specs.Bounds.{prefix_ok}
use Rattle.model.specs.Cuts.{sides_ok, linked_verdict, cut_list, half_size, exchanged}
use Rattle.model.specs.Calls.{room_of, solve_verdict, solve_outcome, list_outcome, cut_verdict, cut_outcome}
use Rattle.model.specs.Calls.{bound_verdict, bound_outcome}
use Rattle.model.specs.Demands.{Answerable, Demand1, Buffers, Demand2, Cuttable, Demand3, BoundLaws}
use Rattle.model.proofs.Elements.{all_map}
use Rattle.model.proofs.Scopes.{scope_distinct, distinct_range}
use Rattle.model.proofs.Verdicts.{first_accepts, picked_accepts}
use Rattle.model.proofs.Bytes.{encoded_bytes}
use Rattle.model.proofs.Encoded.{read_encoded}
use Rattle.model.proofs.Reading.{accepted_place, accepted_encoded, accepted_scopes}
use Rattle.model.proofs.Places.{refused_number, refused_place}
use Rattle.model.proofs.Frontier.{frontier_right, frontier_unique, listed_words}
use Rattle.model.proofs.SumLimits.{sum_limit}
use Rattle.model.proofs.LeastEntry.{least_below, least_reached}
use Rattle.model.proofs.Bounded.{bound_below, bound_whole, bound_grows, bound_length}
use Rattle.model.proofs.Cut.{cut_frontier, sides_long, sides_all}
use Rattle.model.proofs.Exchange.{exchanged_ok, exchanged_linked, cut_exchanged}
use Rattle.model.proofs.Calls.{solve_accepts, accepts_solve, cut_accepts, accepts_cut}
use Rattle.model.proofs.SolveBuffers.{solve_leaves, solve_same, list_leaves, list_same}
use Rattle.model.proofs.CutBuffers.{cut_leaves, cut_same, bound_leaves}

-- ## demand 1

answerable : (s work : List ℕ) (room : ℕ) → All Byte s → (solve_verdict s work room).number ≡ 0
    → Answerable (problem_of s) work room × (encode (problem_of s) ≡ s)
answerable s work room b h =
    let (v, w, f) = solve_accepts s work room h in
    let (k, e) = accepted_encoded s b v in
    (record { kept = k; work_enough = w; fits = f }, e)

verdict_of_lem : (q : Problem) (work : List ℕ) (room : ℕ) → Answerable q work room
    → solve_verdict (encode q) work room ≡ accepted
verdict_of_lem q work room a =
    let (v, e) = read_encoded q a.kept in
    accepts_solve (encode q) work room v a.work_enough (rw e a.fits)

answered : (q : Problem) (costs choices work : List ℕ) → Answerable q work (room_of q costs choices)
    → (solve_outcome (encode q) costs choices work).verdict ≡ accepted
unfolding solve_outcome
answered q costs choices work a = rw (read_encoded q a.kept).1 (verdict_of_lem q work (room_of q costs choices) a)

nothing_else : (s costs choices work : List ℕ) → All Byte s → (solve_outcome s costs choices work).verdict.number ≡ 0
    → Answerable (problem_of s) work (room_of (problem_of s) costs choices) × (encode (problem_of s) ≡ s)
unfolding solve_outcome
nothing_else s costs choices work b h = answerable s work (room_of (problem_of s) costs choices) b h

list_answered : (q : Problem) (points : List Point) (work : List ℕ) → Answerable q work (min (length points) max_points)
    → (list_outcome (encode q) points work).verdict ≡ accepted
unfolding list_outcome
list_answered q points work a = verdict_of_lem q work (min (length points) max_points) a

list_nothing_else : (s : List ℕ) (points : List Point) (work : List ℕ) → All Byte s
    → (list_outcome s points work).verdict.number ≡ 0
    → Answerable (problem_of s) work (min (length points) max_points) × (encode (problem_of s) ≡ s)
unfolding list_outcome
list_nothing_else s points work b h = answerable s work (min (length points) max_points) b h

pub demand_1 : Demand1
demand_1 = record {
  bytes = λ q w. encoded_bytes q w.rules;
  encoded = read_encoded;
  decoded = accepted_encoded;
  refused = λ s. (refused_number s, refused_place s);
  answered = answered;
  nothing_else = nothing_else;
  list_answered = list_answered;
  list_nothing_else = list_nothing_else;
}

-- ## demand 1, of lent buffers

pub buffers : Buffers
buffers = record {
  solve = solve_leaves;
  list = list_leaves;
  cut = cut_leaves;
  bound = bound_leaves;
  solve_same = solve_same;
  list_same = list_same;
  cut_same = cut_same;
}

-- ## demand 2

pub demand_2 : Demand2
demand_2 = record { right = frontier_right; unique = frontier_unique; words = listed_words; sums = sum_limit }

-- ## demand 3

linked_stays : (q : Problem) (sides places : List ℕ) → AllInRange (length q.domains) q.tables
    → sides_ok q sides ≡ true
    → linked_verdict (exchanged sides) q.tables places ≡ linked_verdict sides q.tables places
linked_stays q sides places r h =
    exchanged_linked sides (sides_all q sides h) q.tables places
    (subst (λ (n : ℕ). AllInRange n q.tables) (sides_long q sides h) r)

in_range : (s : List ℕ) → (verdict_of s).number ≡ 0
    → AllInRange (length (problem_of s).domains) (problem_of s).tables
in_range s h =
    let n = length (problem_of s).domains in
    all_map (λ t. scope_rule n t.scope ≡ true) (λ t. InRange n t.scope)
    (λ t k. distinct_range n t.scope (scope_distinct n t.scope k)) (problem_of s).tables (accepted_scopes s h)

module _ (s sides costs choices work : List ℕ) where
  abbrev room : ℕ
  room = room_of (problem_of s) costs choices

  cut_answered : Cuttable s sides work room → (cut_outcome s sides costs choices work).verdict ≡ accepted
  unfolding cut_outcome
  cut_answered c = accepts_cut s sides work room c

  cut_nothing_else : (cut_outcome s sides costs choices work).verdict.number ≡ 0 → Cuttable s sides work room
  unfolding cut_outcome
  cut_nothing_else h = cut_accepts s sides work room h

  -- both calls answer, and their lists are equal
  as_uncut : Cuttable s sides work room
      → ((cut_outcome s sides costs choices work).costs ≡ (solve_outcome s costs choices work).costs)
      × ((cut_outcome s sides costs choices work).choices ≡ (solve_outcome s costs choices work).choices)
      × ((cut_outcome s sides costs choices work).count ≡ (solve_outcome s costs choices work).count)
  unfolding cut_outcome solve_outcome
  as_uncut c =
      let q = problem_of s in
      let list : cut_list q sides ≡ frontier q = cut_frontier q sides c.sides_ok_lem c.free in
      let cut : cut_verdict s sides work room ≡ accepted = accepts_cut s sides work room c in
      let plain : solve_verdict s work room ≡ accepted =
      accepts_solve s work room (accepted_place s c.read) c.work_enough c.fits in
      rw (cut, plain, list) (refl, refl, refl)

  sizes : (cut_outcome s sides costs choices work).verdict.number ≡ 0
      → ((cut_outcome s sides costs choices work).first_half ≡ half_size 0 (problem_of s) sides)
      × ((cut_outcome s sides costs choices work).second_half ≡ half_size 1 (problem_of s) sides)
  unfolding cut_outcome
  sizes h = rw h (refl, refl)

pub demand_3 : Demand3
demand_3 = record {
  cut = cut_frontier;
  other_way = cut_exchanged;
  sides_stay = exchanged_ok;
  linked_stays = linked_stays;
  in_range = in_range;
  answered = cut_answered;
  nothing_else = cut_nothing_else;
  as_uncut = as_uncut;
  sizes = sizes;
}

-- ## the bound

bound_answered : (s prefix : List ℕ) → (verdict_of s).number ≡ 0 → prefix_ok (problem_of s).domains prefix ≡ true
    → (bound_outcome s prefix).verdict ≡ accepted
unfolding bound_outcome bound_verdict
bound_answered s prefix h k = rw (accepted_place s h, k) refl

bound_nothing_else : (s prefix : List ℕ) → (bound_outcome s prefix).verdict.number ≡ 0
    → ((verdict_of s).number ≡ 0) × (prefix_ok (problem_of s).domains prefix ≡ true)
unfolding bound_outcome bound_verdict
bound_nothing_else s prefix h =
    let ok = prefix_ok (problem_of s).domains prefix in
    let both = first_accepts (verdict_of s) (pick ok accepted (verdict bad_prefix 0)) h in
    (both.0, picked_accepts ok bad_prefix refl both.1)

pub bound_laws : BoundLaws
bound_laws = record {
  below = bound_below;
  least = λ ds prefix x t. least_below ds prefix t x;
  reached = least_reached;
  whole = bound_whole;
  grows = bound_grows;
  width = bound_length;
  answered = bound_answered;
  nothing_else = bound_nothing_else;
}
