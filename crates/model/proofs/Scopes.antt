-- A scope has no variable twice, and all its variables exist: what the proofs use of the rule for scopes.
use mathlib.Core.Path.{◌≡◌}
use mathlib.Core.Logic.{◌≢◌}
use mathlib.Core.Bool.{true, false, not, ◌&&◌}
use mathlib.Core.List.{List, [], ◌∷◌}
use Prim.Native.Nat.{ℕ, ◌<◌}
use lib.Dec.{eqb, ltb}
use borrow.Author.Tests.{ltb-true, eqb-false, not-true}
use Rattle.model.specs.Basics.{All}
use Rattle.model.specs.Problems.{has_variable, scope_rule, InRange}
use Rattle.model.proofs.Bits.{and_left, and_right, or-false}

-- v is none of the variables
abbrev pub Apart : ℕ → List ℕ → Type 0
Apart v vs = All (λ w. w ≢ v) vs

-- variables below n, each apart from those after it
abbrev pub Distinct : ℕ → List ℕ → Type 0
Distinct n [] = Unit {0}
Distinct n (v ∷ vs) = (v < n) × Apart v vs × Distinct n vs

named_apart : (v : ℕ) (vs : List ℕ) → has_variable v vs ≡ false → Apart v vs
unfolding has_variable
named_apart v [] h = tt
named_apart v (w ∷ vs) h =
    let (other, rest) = or-false (eqb w v) (has_variable v vs) h in
    (eqb-false w v other, named_apart v vs rest)

pub scope_distinct : (n : ℕ) (vs : List ℕ) → scope_rule n vs ≡ true → Distinct n vs
unfolding scope_rule
scope_distinct n [] h = tt
scope_distinct n (v ∷ vs) h =
    let k : (not (has_variable v vs) && scope_rule n vs) ≡ true = and_right (ltb v n) _ h in (
      ltb-true v n (and_left (ltb v n) _ h),
      named_apart v vs (not-true _ (and_left (not (has_variable v vs)) _ k)),
      scope_distinct n vs (and_right (not (has_variable v vs)) _ k),
    )

pub distinct_range : (n : ℕ) (vs : List ℕ) → Distinct n vs → InRange n vs
distinct_range n [] h = tt
distinct_range n (v ∷ vs) h = (h.0, distinct_range n vs h.2)
