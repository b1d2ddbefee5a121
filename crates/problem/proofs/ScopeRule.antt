-- Variables in a row that are read from the front: the rule of a scope, which the next variable keeps if it exists and
-- is not named again. The variables of a scope that keeps the rule exist.
use mathlib.Core.Path.{◌≡◌, ap, ◌∙◌}
use mathlib.Core.Bool.{true, false}
use mathlib.Core.List.{List, ◌∷◌}
use Prim.Native.Nat.{ℕ, ◌+◌, ◌-◌, ◌≤◌, ◌<◌}
use native.Mathlib.Omega.{arith}
use lib.ListN.{length, get_or, take, drop}
use borrow.Author.Tests.{lt-ltb, le-ltb}
use Rattle.model.specs.Problems.{InRange, has_variable, scope_rule}
use Rattle.model.proofs.Scopes.{scope_distinct, distinct_range}
use Rattle.model.proofs.Lists.{take_cons}

-- number i of `count` variables at `at`, what is left with it, and those after it
module _ (s : List ℕ) (at count i : ℕ) (inside : at + count ≤ length s) (more : i < count) where
  abbrev next : ℕ
  next = get_or s (at + i) 0

  abbrev left : List ℕ
  left = take (count - i) (drop (at + i) s)

  abbrev others : List ℕ
  others = take (count - (i + 1)) (drop (at + (i + 1)) s)

  left_next : left ≡ next ∷ others
  left_next =
      let fewer : count - i - 1 ≡ count - (i + 1) = omega arith in
      let further : at + i + 1 ≡ at + (i + 1) = omega arith in
      rw (fewer, further) at (take_cons 0 (count - i) (at + i) s (omega arith) (omega arith))

  module _ (n : ℕ) where
    pub scope_high : n ≤ next → scope_rule n left ≡ false
    unfolding scope_rule
    scope_high b = ap (scope_rule n) left_next ∙ simp (le-ltb _ _ b)

    pub scope_twice : next < n → has_variable next others ≡ true → scope_rule n left ≡ false
    unfolding scope_rule
    scope_twice b h = ap (scope_rule n) left_next ∙ simp (lt-ltb _ _ b, h)

    pub scope_goes : next < n → has_variable next others ≡ false → scope_rule n left ≡ scope_rule n others
    unfolding scope_rule
    scope_goes b h = ap (scope_rule n) left_next ∙ simp (lt-ltb _ _ b, h)

pub scope_range : (n : ℕ) (vs : List ℕ) → scope_rule n vs ≡ true → InRange n vs
scope_range n vs h = distinct_range n vs (scope_distinct n vs h)
