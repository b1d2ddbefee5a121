-- What the plain call and the call for point records tell and leave, whatever they are lent.
use mathlib.Core.Path.{◌≡◌, refl, sym}
use mathlib.Core.List.Memᴰ.{head as here}
use mathlib.Core.List.Memᴰ.{tail as there}
use mathlib.Core.List.{List, [], ◌∷◌}
use Prim.Native.Nat.{ℕ, ◌≤◌, min}
use native.Mathlib.Omega.{arith}
use lib.ListN.{length}
use Rattle.model.specs.Limits.{max_points}
use Rattle.model.specs.Refusals.{work_short, full, first}
use Rattle.model.specs.Problems.{Problem}
use Rattle.model.specs.Reading.{problem_of}
use Rattle.model.specs.Frontiers.{Point, frontier}
use Rattle.model.specs.Calls.{room_of, point_records, work_verdict, room_verdict, solve_verdict}
use Rattle.model.specs.Calls.{solve_outcome, list_outcome}
use Rattle.model.specs.Demands.{Told, SolveLeaves, SolveSame, ListLeaves, ListSame}
use Rattle.model.proofs.Calls.{solve_accepts}
use Rattle.model.proofs.Told.{own_first, own_work, own_room, told}
use Rattle.model.proofs.Flat.{records_count}
use Rattle.model.proofs.Buffers.{counted, none_counted, kept, same, cleared}
use Rattle.model.proofs.Buffers.{costs_same, choices_same, costs_left, choices_left}

module _ (s : List ℕ) where
  abbrev q : Problem
  q = problem_of s

  abbrev ps : List Point
  ps = frontier q

  solve_told : (work : List ℕ) (room : ℕ) → Told s (work_short ∷ full ∷ []) (solve_verdict s work room)
  unfolding solve_verdict
  solve_told work room =
      let own = work_short ∷ full ∷ [] in
      told s own [] (first (work_verdict work) (room_verdict room ps))
      (own_first own [] (work_verdict work) (room_verdict room ps)
      (own_work own [] (here refl) work) (own_room own [] (there (here refl)) room ps))

  pub solve_leaves : (costs choices work : List ℕ)
      → SolveLeaves s costs choices work (solve_outcome s costs choices work)
  unfolding solve_outcome
  solve_leaves costs choices work =
      let room = room_of q costs choices in
      let v = solve_verdict s work room in
      let few : v.number ≡ 0 → length ps ≤ room = λ h. (solve_accepts s work room h).2 in
      record {
        told = solve_told work room;
        none = none_counted v (length ps);
        costs_kept = costs_left q ps v (λ h. refl) costs choices few;
        choices_kept = choices_left q ps v (λ h. refl) costs choices few;
        work_cleared = cleared v work;
      }

  pub solve_same : (c c' x x' w w' : List ℕ) → length c ≡ length c' → length x ≡ length x' → length w ≡ length w'
      → SolveSame q (solve_outcome s c x w) (solve_outcome s c' x' w')
  unfolding solve_outcome solve_verdict room_of work_verdict
  solve_same c c' x x' w w' e f g =
      let v = solve_verdict s w' (room_of q c' x') in
      rw (e, f, g) (record {
        verdict = refl;
        count = refl;
        costs = costs_same q ps v (λ h. refl) c c';
        choices = choices_same q ps v (λ h. refl) x x';
      })

  pub list_leaves : (points : List Point) (work : List ℕ) → ListLeaves s points work (list_outcome s points work)
  unfolding list_outcome
  list_leaves points work =
      let room = min (length points) max_points in
      let v = solve_verdict s work room in
      record {
        told = solve_told work room;
        none = none_counted v (length ps);
        points_kept = kept v (point_records ps) (counted v (length ps)) points
            (λ h. (rw h (sym (records_count ps)), rw h (omega (arith, (solve_accepts s work room h).2))));
        work_cleared = cleared v work;
      }

  pub list_same : (points points' : List Point) (w w' : List ℕ) → length points ≡ length points' → length w ≡ length w'
      → ListSame (list_outcome s points w) (list_outcome s points' w')
  unfolding list_outcome solve_verdict work_verdict
  list_same points points' w w' e f =
      let v = solve_verdict s w' (min (length points') max_points) in
      rw (e, f) (record {
        verdict = refl;
        count = refl;
        points = same v (point_records ps) (counted v (length ps)) points points'
            (λ h. rw h (sym (records_count ps))) (none_counted v (length ps));
      })
