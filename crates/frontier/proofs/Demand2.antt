-- Demand 2 of the public calls, by their promises alone: with number 0 the list is the efficient frontier; the flat
-- form and the point records agree.
use mathlib.Core.Path.{◌≡◌, refl, sym, ap, ◌∙◌}
use mathlib.Core.List.{List}
use Prim.Native.Nat.{ℕ, min}
use lib.ListN.{length}
use Rattle.model.specs.Basics.{All}
use Rattle.model.specs.Limits.{max_points}
use Rattle.model.specs.Refusals.{Verdict}
use Rattle.model.specs.Encoding.{Byte}
use Rattle.model.specs.Reading.{verdict_of, problem_of}
use Rattle.model.specs.Frontiers.{frontier}
use Rattle.model.specs.Calls.{room_of, solve_verdict, solve_outcome, list_outcome}
use Rattle.model.specs.Demands.{Agrees}
use Rattle.model.specs.declared.Point as DP
use Rattle.model.proofs.Calls.{solve_accepts}
use Rattle.model.proofs.Demands.{demand_1, demand_2}
use Rattle.model.proofs.Agreement.{agreement}
use Rattle.frontier.specs.Says.{as_points, SolveExports, ListExports}
use Rattle.frontier.specs.Demands.{solved, listed, FrontierList, FlatAnswer, RecordAnswer}
use Rattle.frontier.proofs.Outcomes.{solve_outcome_lem, list_outcome_lem}

pub frontier_list : (s : List ℕ) {k : ℕ} → All Byte s → (verdict_of s).number ≡ 0 → k ≡ length (frontier (problem_of s))
    → FrontierList s k (frontier (problem_of s))
frontier_list s b v long =
    let q = problem_of s in
    record { right = demand_2.right q; words = demand_2.words q (demand_1.decoded s b v).0.rules; long = long }

pub demand_2_solve : (s c x w : List ℕ) {c' x' w' : List ℕ} {n at k : ℕ}
    → SolveExports s (solve_outcome s c x w) c' x' w' n at k → n ≡ 0 → FlatAnswer s c x c' x' k
unfolding solve_outcome
demand_2_solve s c x w e h =
    let v : (solve_verdict s w (room_of (problem_of s) c x)).number ≡ 0 = sym e.number ∙ h in
    record {
      list = frontier (problem_of s);
      frontier = frontier_list s e.bytes (solve_accepts s w (room_of (problem_of s) c x) v).0 (e.count ∙ rw v refl);
      costs_are = e.costs ∙ rw v refl;
      choices_are = e.choices ∙ rw v refl;
    }

pub demand_2_list : (s : List ℕ) (ps : List DP.Point) (w : List ℕ) {ps' : List DP.Point} {w' : List ℕ} {n at k : ℕ}
    → ListExports s (list_outcome s (as_points ps) w) ps' w' n at k → n ≡ 0
    → RecordAnswer s (as_points ps) (as_points ps') k
unfolding list_outcome
demand_2_list s ps w e h =
    let room = min (length (as_points ps)) max_points in
    let v : (solve_verdict s w room).number ≡ 0 = sym e.number ∙ h in
    record {
      list = frontier (problem_of s);
      frontier = frontier_list s e.bytes (solve_accepts s w room v).0 (e.count ∙ rw v refl);
      points_are = e.points ∙ rw v refl;
    }

-- the two forms: with as much room the same number and place, and where both answer the same list
module _ (s c x w : List ℕ) (ps : List DP.Point) (v : List ℕ) {c' x' w' : List ℕ} {n at k : ℕ} {ps' : List DP.Point}
    {v' : List ℕ} {n' at' k' : ℕ} (plain : SolveExports s (solve_outcome s c x w) c' x' w' n at k)
    (records : ListExports s (list_outcome s (as_points ps) v) ps' v' n' at' k') where
  pub agree_refused : length w ≡ length v → room_of (problem_of s) c x ≡ min (length (as_points ps)) max_points
      → (n ≡ n') × (at ≡ at')
  agree_refused long room =
      let same = agreement.verdict s c x (as_points ps) w v long room in
      let number = plain.number ∙ ap (λ (u : Verdict). u.number) same ∙ sym records.number in
      (number, plain.place ∙ ap (λ (u : Verdict). u.place) same ∙ sym records.place)

  pub agree_answered : n ≡ 0 → n' ≡ 0
      → Agrees (problem_of s) (solved n at k c' x' w') (listed n' at' k' (as_points ps') v')
  agree_answered h h' =
      rw (solve_outcome_lem plain, list_outcome_lem records)
      (agreement.answers s c x (as_points ps) w v (sym plain.number ∙ h) (sym records.number ∙ h'))
