-- The call for point records agrees with the plain call, on answers and on refusals.
use mathlib.Core.Path.{◌≡◌, refl, ap, sym, ◌∙◌}
use mathlib.Core.List.{List, [], ◌∷◌}
use Prim.Native.Nat.{ℕ, ◌-◌, ◌*◌, min}
use lib.ListN.{length, take, drop, replicate}
use lib.Seq.{take_at}
use Rattle.model.specs.Basics.{All}
use Rattle.model.specs.Limits.{max_objectives, max_variables, max_points}
use Rattle.model.specs.Reading.{problem_of}
use Rattle.model.specs.Frontiers.{Point, frontier}
use Rattle.model.specs.Calls.{over, padded, flat_costs, flat_choices, point_records, room_of}
use Rattle.model.specs.Calls.{work_verdict, solve_verdict, solve_outcome, list_outcome}
use Rattle.model.specs.Demands.{fronts, Agrees, Agreement}
use Rattle.model.proofs.Flat.{Wide, costs_long, choices_long, records_count, frontier_wide}

-- points of p costs and n choices
module _ (p n : ℕ) where
  records_fronts : (ts : List Point) → All (Wide p n) ts → fronts p n (point_records ts) ≡ ts
  unfolding fronts point_records padded
  records_fronts [] h = refl
  records_fronts (t ∷ ts) h =
      let costs = take_at t.costs (replicate (max_objectives - length t.costs) 0) p h.0.0 in
      let choice = take_at t.choice (replicate (max_variables - length t.choice) 0) n h.0.1 in
      rw (costs, choice, records_fronts ts h.1) refl

over_front : {A : Type 0} (xs old : List A) (k : ℕ) → length xs ≡ k → take k (over xs old) ≡ xs
unfolding over
over_front xs old k e = take_at xs (drop (length xs) old) k e

same_verdict : (s costs choices : List ℕ) (points : List Point) (work work' : List ℕ) → length work ≡ length work'
    → room_of (problem_of s) costs choices ≡ min (length points) max_points
    → (solve_outcome s costs choices work).verdict ≡ (list_outcome s points work').verdict
unfolding solve_outcome list_outcome solve_verdict work_verdict
same_verdict s costs choices points work work' long room = rw (long, room) refl

agrees : (s costs choices : List ℕ) (points : List Point) (work work' : List ℕ)
    → (solve_outcome s costs choices work).verdict.number ≡ 0 → (list_outcome s points work').verdict.number ≡ 0
    → Agrees (problem_of s) (solve_outcome s costs choices work) (list_outcome s points work')
unfolding solve_outcome list_outcome
agrees s costs choices points work work' h k =
    let q = problem_of s in
    let p = q.objectives in
    let n = length q.domains in
    let ts = frontier q in
    let wide : All (Wide p n) ts = frontier_wide q in
    let records = over_front (point_records ts) points (length ts) (records_count ts) in
    let written : fronts p n (take (length ts) (over (point_records ts) points)) ≡ ts =
    rw records (records_fronts p n ts wide) in
    let costs_front = over_front (flat_costs ts) costs (length ts * p) (costs_long p n ts wide) in
    let choices-front = over_front (flat_choices ts) choices (length ts * n) (choices_long p n ts wide) in
    record {
      count = rw (h, k) refl;
      costs = rw (h, k) (costs_front ∙ ap flat_costs (sym written));
      choices = rw (h, k) (choices-front ∙ ap flat_choices (sym written));
    }

pub agreement : Agreement
agreement = record { verdict = same_verdict; answers = agrees }
