-- The scope of a record, as the model has it: how many variables it has, and one at a time; those of a whole record
-- exist.
use mathlib.Core.Path.{◌≡◌, ◌∙◌}
use mathlib.Core.List.{List, [], ◌∷◌}
use Prim.Native.Nat.{ℕ, ◌+◌, ◌*◌, ◌≤◌, ◌<◌}
use native.Mathlib.Omega.{arith}
use native.Mathlib.Numerals.{add-one}
use lib.ListN.{length, get_or, take, drop, length-take, length-drop, drop_of_length-le}
use lib.Seq.{length-take-le, get_or-take, get_or-drop, drop-drop, drop-cons}
use Rattle.model.specs.Basics.{All}
use Rattle.model.specs.Limits.{max_arity}
use Rattle.model.specs.Problems.{size_of}
use Rattle.model.specs.Reading.{table_arity, table_scope, table_length}
use Rattle.model.proofs.Elements.{all_below}
use Rattle.problem.specs.Records.{Headed, Whole}

module _ (s : List ℕ) (at : ℕ) where
  abbrev scope : List ℕ
  scope = table_scope (drop at s)

  abbrev arity : ℕ
  arity = table_arity (drop at s)

  pub scope_taken : scope ≡ take arity (drop (at + 4) s)
  unfolding table_scope
  scope_taken = rw (drop-drop 4 at s)

  -- a scope has at most as many variables as its arity says
  scope_length : length scope ≤ arity
  scope_length = rw (scope_taken, length-take) (omega arith)

  -- past them nothing is left
  pub scope_end : (i : ℕ) → arity ≤ i → drop i scope ≡ []
  scope_end i h = drop_of_length-le scope {i = i} (omega (arith, scope_length))

  -- where number i of them stands
  pub scope_variable : (i : ℕ) → i < arity → get_or scope i 0 ≡ get_or s (at + 4 + i) 0
  scope_variable i h = rw scope_taken (get_or-take arity (drop (at + 4) s) i 0 h ∙ get_or-drop (at + 4) s i 0)

  module _ (inside : Headed s at) where
    pub scope_many : length scope ≡ arity
    scope_many = rw scope_taken (length-take-le arity (drop (at + 4) s) (omega (arith, length-drop (at + 4) s)))

    pub scope_next : (i : ℕ) → i < arity → drop i scope ≡ get_or scope i 0 ∷ drop (i + 1) scope
    scope_next i h = rw add-one (drop-cons scope i 0 (omega (arith, scope_many)))

    -- what all variables have, number i has
    pub scope_each : (P : ℕ → Type 0) → All P scope → (i : ℕ) → i < arity → P (get_or scope i 0)
    scope_each P range i h = all_below P scope range i 0 (omega (arith, scope_many))

module _ (ds s : List ℕ) (at : ℕ) (w : Whole ds s at) where
  -- a whole record by its parts
  pub whole_ends : at + (4 + (table_arity (drop at s) + 4 * size_of ds (table_scope (drop at s)))) ≤ length s
  unfolding table_length
  whole_ends = w.long

  -- its head is all there
  pub whole_inside : Headed s at
  whole_inside = omega (arith, whole_ends)

  -- and its scope has at most three variables
  pub scope_few : length (table_scope (drop at s)) ≤ max_arity
  scope_few = omega (arith, scope_length s at, w.few)
