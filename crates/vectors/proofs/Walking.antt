-- Matching or beating by the first p numbers, number by number: what was met so far, and what is left of both lists.
use mathlib.Core.Path.{◌≡◌, refl, sym, ◌∙◌}
use mathlib.Core.Bool.{Bool, true, false, ◌&&◌, not, and-false, and-true}
use mathlib.Core.List.{List}
use Prim.Native.Nat.{ℕ, ◌+◌, ◌≤◌, ◌<◌}
use native.Mathlib.Omega.{arith}
use lib.ListN.{length, get_or, take, drop}
use borrow.Author.Tests.{le-leb, lt-leb}
use Rattle.model.specs.Vectors.{at_most}
use Rattle.model.proofs.Lists.{front_cons, front_end}

-- a test is known but for what is left from number i on: it fails if one of a above b's was met (`above`)
pub record Walked (test : Bool) (p : ℕ) (a b : List ℕ) (i : ℕ) (above : Bool) : Type 0 where
  pub fewer : i ≤ p
  pub left : test ≡ (not above && at_most (drop i (take p a)) (drop i (take p b)))

-- of the numbers from i on
pub walked_start : (p : ℕ) (a b : List ℕ) (i : ℕ) → i ≤ p
    → Walked (at_most (drop i (take p a)) (drop i (take p b))) p a b i false
walked_start p a b i h = record { fewer = h; left = refl }

module _ {test : Bool} {p : ℕ} {a b : List ℕ} {i : ℕ} {above : Bool} (u : Walked test p a b i above) (la : p ≤ length a)
    (lb : p ≤ length b) where
  module _ (h : i < p) where
    pub walked_above : get_or b i 0 < get_or a i 0 → test ≡ false
    unfolding at_most
    walked_above l =
        u.left
        ∙ rw (front_cons 0 p a la i h, front_cons 0 p b lb i h, lt-leb (get_or a i 0) (get_or b i 0) l)
        (and-false (not above))

    pub walked_met : get_or b i 0 < get_or a i 0 → Walked test p a b (i + 1) true
    walked_met l = record { fewer = omega arith; left = walked_above l }

    pub walked_within : get_or a i 0 ≤ get_or b i 0 → Walked test p a b (i + 1) above
    unfolding at_most
    walked_within l = record {
      fewer = omega arith;
      left = u.left
          ∙ rw (front_cons 0 p a la i h, front_cons 0 p b lb i h, le-leb (get_or a i 0) (get_or b i 0) l) refl;
    }

  pub walked_end : p ≤ i → test ≡ not above
  unfolding at_most
  walked_end h = u.left ∙ rw (front_end p a la i h) (and-true (not above))

  -- what is left is asked by another function, which answers r
  pub walked_rest : above ≡ false → {r t : Bool} → r ≡ at_most (drop i (take p a)) (drop i (take p b)) → r ≡ t
      → test ≡ t
  walked_rest none says is = u.left ∙ rw none (sym says ∙ is)
