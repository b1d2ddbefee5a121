-- A row: the inputs of the four calls and their outcomes; the one statement about it.
use mathlib.Core.Path.{◌≡◌}
use mathlib.Core.List.{List}
use Prim.Native.Nat.{ℕ}
use Rattle.model.specs.Frontiers.{Point}
use Rattle.model.specs.Calls.{SolveOutcome, ListOutcome, CutOutcome, BoundOutcome, solve_outcome, list_outcome}
use Rattle.model.specs.Calls.{cut_outcome, bound_outcome}

pub record Row : Type 0 where
  pub bytes : List ℕ
  pub sides : List ℕ
  pub prefix : List ℕ
  -- lent
  pub costs : List ℕ
  pub choices : List ℕ
  pub points : List Point
  pub work : List ℕ
  -- what the calls give and leave behind
  pub solved : SolveOutcome
  pub listed : ListOutcome
  pub cut : CutOutcome
  pub bound : BoundOutcome

-- the four calls give what the row says
abbrev pub Right : Row → Type 0
Right r =
    (solve_outcome r.bytes r.costs r.choices r.work ≡ r.solved)
    × (list_outcome r.bytes r.points r.work ≡ r.listed)
    × (cut_outcome r.bytes r.sides r.costs r.choices r.work ≡ r.cut)
    × (bound_outcome r.bytes r.prefix ≡ r.bound)
