-- The variables of a whole record's scope by their number: they exist, and a scope is read from the front.
use mathlib.Core.Path.{◌≡◌}
use mathlib.Core.Bool.{true}
use mathlib.Core.List.{List, [], ◌∷◌}
use Prim.Native.Nat.{ℕ, ◌+◌, ◌<◌}
use native.Mathlib.Omega.{arith}
use lib.ListN.{length, get_or, drop}
use Rattle.model.specs.Basics.{All}
use Rattle.model.specs.Problems.{DomainSize}
use Rattle.model.specs.Reading.{table_arity}
use Rattle.model.specs.Costs.{is_choice}
use Rattle.model.proofs.Choices.{choice_length}
use Rattle.model.proofs.Prefixes.{choice_prefix, prefix_below}
use Rattle.problem.specs.Records.{Whole}
use Rattle.problem.proofs.Sizes.{domain_size_lem}
use Rattle.problem.proofs.Scopes as scopes
use Rattle.problem.proofs.Scopes.{scope_each, whole_inside}
use Rattle.costs.specs.Entries.{scope_at, variable_at}

module _ (ds s : List ℕ) (at : ℕ) (w : Whole ds s at) where
  pub scope_end : drop (table_arity (drop at s)) (scope_at s at) ≡ []
  scope_end = scopes.scope_end s at (table_arity (drop at s)) (omega arith)

  module _ (k : ℕ) (h : k < table_arity (drop at s)) where
    pub scope_next : drop k (scope_at s at) ≡ variable_at s at k ∷ drop (k + 1) (scope_at s at)
    scope_next = scopes.scope_next s at (whole_inside ds s at w) k h

    pub variable_exists : variable_at s at k < length ds
    variable_exists = scope_each s at (whole_inside ds s at w) (λ v. v < length ds) w.range k h

    pub variable_size : All DomainSize ds → DomainSize (get_or ds (variable_at s at k) 0)
    variable_size sizes = domain_size_lem ds sizes (variable_at s at k) variable_exists

-- a choice has a value for each variable, one of its domain
pub value_exists : (ds xs : List ℕ) → is_choice ds xs ≡ true → (v : ℕ) → v < length ds → v < length xs
value_exists ds xs c v h = omega (arith, choice_length ds xs c)

pub value_below : (ds xs : List ℕ) → is_choice ds xs ≡ true → (v : ℕ) → v < length ds → get_or xs v 0 < get_or ds v 0
value_below ds xs c v h = prefix_below ds xs (choice_prefix ds xs c) v (value_exists ds xs c v h)
