-- Room for an index: after the first k variables of a scope, index i has as many entries as the other variables have
-- values, all in the table.
use mathlib.Core.List.{List}
use Prim.Native.Nat.{ℕ, ◌+◌, ◌*◌, ◌≤◌, ◌<◌}
use native.Mathlib.Omega.{arith}
use native.Mathlib.Nat.{le_trans, le-mul_of_pos_right}
use lib.ListN.{length, get_or, drop}
use Rattle.model.specs.Basics.{All}
use Rattle.model.specs.Problems.{DomainSize, size_of}
use Rattle.model.specs.Reading.{table_arity}
use Rattle.model.proofs.Numbers.{digit_room}
use Rattle.model.proofs.Elements.{all_drop}
use Rattle.problem.specs.Records.{Whole}
use Rattle.problem.proofs.Sizes.{size_positive}
use Rattle.problem.proofs.Scopes.{whole_ends}
use Rattle.costs.specs.Entries.{scope_at, variable_at, entries_at}
use Rattle.costs.proofs.ScopeVariables.{scope_next}

abbrev pub Room : List ℕ → List ℕ → ℕ → ℕ → ℕ → Type 0
Room ds s at k i = (i + 1) * size_of ds (drop k (scope_at s at)) ≤ entries_at ds s at

-- n indices with room for each are at most as many as there are entries
pub rooms_fit : (ds s : List ℕ) (at : ℕ) → Whole ds s at → All DomainSize ds → (k n : ℕ)
    → n * size_of ds (drop k (scope_at s at)) ≤ entries_at ds s at → n ≤ entries_at ds s at
rooms_fit ds s at w sizes k n h =
    le_trans (le-mul_of_pos_right n
    (size_positive ds sizes (drop k (scope_at s at)) (all_drop (λ v. v < length ds) k (scope_at s at) w.range)))
    h

module _ (ds s : List ℕ) (at : ℕ) (w : Whole ds s at) (sizes : All DomainSize ds) (k i : ℕ)
    (room : Room ds s at k i) where
  pub room_index : i < entries_at ds s at
  room_index = omega (arith, rooms_fit ds s at w sizes k (i + 1) room)

  pub room_fits : i < length s
  room_fits = omega (arith, room_index, whole_ends ds s at w)

pub room_next : (ds s : List ℕ) (at : ℕ) → Whole ds s at → (k i : ℕ) → Room ds s at k i
    → k < table_arity (drop at s) → (x : ℕ) → x < get_or ds (variable_at s at k) 0
    → Room ds s at (k + 1) (i * get_or ds (variable_at s at k) 0 + x)
unfolding size_of
room_next ds s at w k i room h x l =
    le_trans (digit_room i _ x (size_of ds (drop (k + 1) (scope_at s at))) l) (rw (scope_next ds s at w k h) at room)
