-- A call's results, as one value, are the outcome that its promise names; so all that the model says of the outcome
-- holds of the results.
use mathlib.Core.Path.{◌≡◌}
use mathlib.Core.List.{List}
use Prim.Native.Nat.{ℕ}
use Rattle.model.specs.Calls.{SolveOutcome, ListOutcome, CutOutcome, BoundOutcome}
use Rattle.model.specs.declared.Point as DP
use Rattle.frontier.specs.Says.{as_points, SolveExports, ListExports, CutExports, BoundExports}
use Rattle.frontier.specs.Demands.{solved, listed, cut, bounded}

pub solve_outcome_lem : {s : List ℕ} {o : SolveOutcome} {c x w : List ℕ} {n at k : ℕ} → SolveExports s o c x w n at k
    → solved n at k c x w ≡ o
solve_outcome_lem e = λ i. solved (e.number i) (e.place i) (e.count i) (e.costs i) (e.choices i) (e.work i)

pub list_outcome_lem : {s : List ℕ} {o : ListOutcome} {ps : List DP.Point} {w : List ℕ} {n at k : ℕ}
    → ListExports s o ps w n at k → listed n at k (as_points ps) w ≡ o
list_outcome_lem e = λ i. listed (e.number i) (e.place i) (e.count i) (e.points i) (e.work i)

pub cut_outcome_lem : {s : List ℕ} {o : CutOutcome} {c x w : List ℕ} {n at k half-0 half-1 : ℕ}
    → CutExports s o c x w n at k half-0 half-1 → cut n at k half-0 half-1 c x w ≡ o
cut_outcome_lem e = λ i.
    cut (e.number i) (e.place i) (e.count i) (e.first_half i) (e.second_half i)
    (e.costs i) (e.choices i) (e.work i)

pub bound_outcome_lem : {s : List ℕ} {o : BoundOutcome} {least : List ℕ} {n at : ℕ} → BoundExports s o n at least
    → bounded n at least ≡ o
bound_outcome_lem e = λ i. bounded (e.number i) (e.place i) (e.least i)
