-- Demand 1 of the public calls, by their promises alone: accepted is what can be answered and nothing else, and
-- whatever the lent buffers held, number, place, count and every element on exit are determined.
use mathlib.Core.Path.{◌≡◌, sym, ap, ◌∙◌, subst}
use mathlib.Core.List.{List}
use Prim.Native.Nat.{ℕ, min}
use lib.ListN.{length}
use Rattle.model.specs.Limits.{max_points}
use Rattle.model.specs.Refusals.{Verdict, accepted}
use Rattle.model.specs.Reading.{problem_of}
use Rattle.model.specs.Calls.{room_of}
use Rattle.model.specs.Calls.{solve_outcome, list_outcome, cut_outcome, bound_outcome}
use Rattle.model.specs.Demands.{SolveLeaves, SolveSame, ListLeaves, ListSame}
use Rattle.model.specs.Demands.{CutLeaves, CutSame, BoundLeaves}
use Rattle.model.specs.declared.Point as DP
use Rattle.model.proofs.Demands.{demand_1, buffers}
use Rattle.frontier.specs.Says.{as_points, SolveExports, ListExports, CutExports, BoundExports}
use Rattle.frontier.specs.Demands.{solved, listed, cut, bounded, Accepts}
use Rattle.frontier.proofs.Outcomes.{solve_outcome_lem, list_outcome_lem, cut_outcome_lem, bound_outcome_lem}

-- a verdict that a promise names is accepted: number and place are 0
pub none : {v : Verdict} {n at : ℕ} → n ≡ v.number → at ≡ v.place → v ≡ accepted → (n ≡ 0) × (at ≡ 0)
none e f h = (e ∙ ap (λ (v : Verdict). v.number) h, f ∙ ap (λ (v : Verdict). v.place) h)

-- ## the plain call

module _ (s c x w : List ℕ) {c' x' w' : List ℕ} {n at k : ℕ} where
  pub demand_1_solve : SolveExports s (solve_outcome s c x w) c' x' w' n at k → Accepts s w (λ q. room_of q c x) n at
  demand_1_solve e = record {
    answered = λ q is can.
        let told : List ℕ → Type 0 = λ t. (solve_outcome t c x w).verdict ≡ accepted in
        none e.number e.place (subst told is (demand_1.answered q c x w can));
    nothing_else = λ h. demand_1.nothing_else s c x w e.bytes (sym e.number ∙ h);
  }

  pub buffers_solve : SolveExports s (solve_outcome s c x w) c' x' w' n at k
      → SolveLeaves s c x w (solved n at k c' x' w')
  buffers_solve e = subst (SolveLeaves s c x w) (sym (solve_outcome_lem e)) (buffers.solve s c x w)

-- two calls for one problem, lent buffers of the same lengths
pub same_solve : (s c d x y w v : List ℕ) {c' d' x' y' w' v' : List ℕ} {n at k n' at' k' : ℕ}
    → SolveExports s (solve_outcome s c x w) c' x' w' n at k → SolveExports s (solve_outcome s d y v) d' y' v' n' at' k'
    → length c ≡ length d → length x ≡ length y → length w ≡ length v
    → SolveSame (problem_of s) (solved n at k c' x' w') (solved n' at' k' d' y' v')
same_solve s c d x y w v e f g h i =
    rw (solve_outcome_lem e, solve_outcome_lem f) (buffers.solve_same s c d x y w v g h i)

-- ## the call for point records

module _ (s : List ℕ) (ps : List DP.Point) (w : List ℕ) {ps' : List DP.Point} {w' : List ℕ} {n at k : ℕ} where
  pub demand_1_list : ListExports s (list_outcome s (as_points ps) w) ps' w' n at k
      → Accepts s w (λ q. min (length (as_points ps)) max_points) n at
  demand_1_list e = record {
    answered = λ q is can.
        let told : List ℕ → Type 0 = λ t. (list_outcome t (as_points ps) w).verdict ≡ accepted in
        none e.number e.place (subst told is (demand_1.list_answered q (as_points ps) w can));
    nothing_else = λ h. demand_1.list_nothing_else s (as_points ps) w e.bytes (sym e.number ∙ h);
  }

  pub buffers_list : ListExports s (list_outcome s (as_points ps) w) ps' w' n at k
      → ListLeaves s (as_points ps) w (listed n at k (as_points ps') w')
  buffers_list e = subst (ListLeaves s (as_points ps) w) (sym (list_outcome_lem e)) (buffers.list s (as_points ps) w)

pub same_list : (s : List ℕ) (ps qs : List DP.Point) (w v : List ℕ) {ps' qs' : List DP.Point} {w' v' : List ℕ}
    {n at k n' at' k' : ℕ} → ListExports s (list_outcome s (as_points ps) w) ps' w' n at k
    → ListExports s (list_outcome s (as_points qs) v) qs' v' n' at' k'
    → length (as_points ps) ≡ length (as_points qs) → length w ≡ length v
    → ListSame (listed n at k (as_points ps') w') (listed n' at' k' (as_points qs') v')
same_list s ps qs w v e f g h =
    rw (list_outcome_lem e, list_outcome_lem f) (buffers.list_same s (as_points ps) (as_points qs) w v g h)

-- ## the cut call and the bound call

pub buffers_cut : (s sides c x w : List ℕ) {c' x' w' : List ℕ} {n at k half-0 half-1 : ℕ}
    → CutExports s (cut_outcome s sides c x w) c' x' w' n at k half-0 half-1
    → CutLeaves s c x w (cut n at k half-0 half-1 c' x' w')
buffers_cut s sides c x w e = subst (CutLeaves s c x w) (sym (cut_outcome_lem e)) (buffers.cut s sides c x w)

pub same_cut : (s sides c d x y w v : List ℕ) {c' d' x' y' w' v' : List ℕ}
    {n at k half-0 half-1 n' at' k' half-0' half-1' : ℕ}
    → CutExports s (cut_outcome s sides c x w) c' x' w' n at k half-0 half-1
    → CutExports s (cut_outcome s sides d y v) d' y' v' n' at' k' half-0' half-1'
    → length c ≡ length d → length x ≡ length y → length w ≡ length v
    → CutSame (problem_of s) (cut n at k half-0 half-1 c' x' w') (cut n' at' k' half-0' half-1' d' y' v')
same_cut s sides c d x y w v e f g h i =
    rw (cut_outcome_lem e, cut_outcome_lem f) (buffers.cut_same s sides c d x y w v g h i)

pub buffers_bound : (s prefix : List ℕ) {least : List ℕ} {n at : ℕ} → BoundExports s (bound_outcome s prefix) n at least
    → BoundLeaves s prefix (bounded n at least)
buffers_bound s prefix e = subst (BoundLeaves s prefix) (sym (bound_outcome_lem e)) (buffers.bound s prefix)
