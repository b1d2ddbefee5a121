-- What the loop of `is_under` leaves to show.
use Rattle.std.proofs.Common.{◌≡◌, true, false, sym, ◌∙◌, ◌+◌, ◌≤◌, ◌<◌, ℕ, List, length, get_or, take, drop}
use Rattle.std.proofs.Common.{lt-ltb, le-ltb, arith}
use Rattle.model.specs.Core.{under}
use Rattle.model.proofs.Lists.{front_cons, front_end}
use Rattle.vectors.specs.Fronts.{front_under}
use Rattle.vectors.proofs.is_under.Goals as goal

module _ (p i : ℕ) (a b : List ℕ) (la : p ≤ length a) (lb : p ≤ length b)
    (left : front_under p a b ≡ under (drop i (take p a)) (drop i (take p b))) where
  module _ (h : i < p) where
    met : get_or b i 0 ≤ get_or a i 0 → false ≡ front_under p a b
    unfolding under
    met l = sym (left ∙ rw (front_cons 0 p a la i h, front_cons 0 p b lb i h, le-ltb (get_or a i 0) (get_or b i 0) l))

    next : get_or a i 0 < get_or b i 0 → front_under p a b ≡ under (drop (i + 1) (take p a)) (drop (i + 1) (take p b))
    unfolding under
    next l = left ∙ rw (front_cons 0 p a la i h, front_cons 0 p b lb i h, lt-ltb (get_or a i 0) (get_or b i 0) l)

  ended : p ≤ i → true ≡ front_under p a b
  unfolding under
  ended h = sym (left ∙ rw (front_end p a la i h))

pub returns-then-a-i : goal.returns-then-a-i
returns-then-a-i c = met _ _ _ _ (omega arith) (omega arith) c.loop-i.invariant.1 (omega arith) (omega arith)

pub loop-i-preserved : goal.loop-i-preserved
loop-i-preserved c =
    (omega arith, next _ _ _ _ (omega arith) (omega arith) c.loop-i.invariant.1 (omega arith) (omega arith))

pub returns : goal.returns
returns c = ended _ _ _ _ (omega arith) (omega arith) c.loop-i.invariant.1 (omega arith)
