-- The number of a table's entries, one scope variable at a time.
use mathlib.Core.Path.{◌≡◌, sym, ◌∙◌}
use mathlib.Core.List.{List, ◌∷◌}
use Prim.Native.Nat.{ℕ, ◌+◌, ◌-◌, ◌*◌, ◌≤◌, ◌<◌}
use native.Mathlib.Omega.{arith}
use native.Mathlib.Nat.{mul-one, mul_assoc, le-mul_of_pos_right}
use lib.ListN.{length, get_or, take, drop}
use Rattle.model.specs.Basics.{All}
use Rattle.model.specs.Problems.{DomainSize, InRange, size_of}
use Rattle.model.proofs.Lists.{take_cons}
use Rattle.problem.proofs.Sizes.{size_positive}

-- `size` so far, with `left` variables from `here` on yet to come, of `total` entries in all
pub record Sizing (ds s : List ℕ) (total size here left : ℕ) : Type 0 where
  pub inside : here + left ≤ length s
  pub range : InRange (length ds) (take left (drop here s))
  pub rest : size * size_of ds (take left (drop here s)) ≡ total

module _ (ds s : List ℕ) (total size here left : ℕ) (u : Sizing ds s total size here left) where
  pub sizing_end : left ≡ 0 → size ≡ total
  unfolding size_of
  sizing_end e = sym (mul-one size) ∙ (rw e at u.rest)

  pub sizing_small : All DomainSize ds → size ≤ total
  sizing_small sizes =
      rw u.rest at (le-mul_of_pos_right size (size_positive ds sizes (take left (drop here s)) u.range))

  module _ (more : 0 < left) where
    first : take left (drop here s) ≡ get_or s here 0 ∷ take (left - 1) (drop (here + 1) s)
    first = take_cons 0 left here s more (omega (arith, u.inside))

    pub sizing_next : Sizing ds s total (size * get_or ds (get_or s here 0) 0) (here + 1) (left - 1)
    unfolding size_of
    sizing_next =
        record {
          inside = omega (arith, u.inside);
          range = (rw first at u.range).1;
          rest = rw mul_assoc (rw first at u.rest);
        }
