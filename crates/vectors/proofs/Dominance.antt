-- The laws of the dominance test, for any number of costs.
use mathlib.Core.Path.{◌≡◌, sym, ◌∙◌}
use mathlib.Core.Bool.{Bool, true}
use mathlib.Core.List.{List}
use Prim.Native.Nat.{ℕ, ◌≤◌, ◌<◌}
use native.Mathlib.Omega.{arith}
use lib.ListN.{length, get_or, take}
use lib.Seq.{length-take-le, get_or-take, take_at}
use Rattle.model.proofs.Vectors.{at_most_true, at_most_test}
use Rattle.model.proofs.AtMostAt.{at_most_each, at_most_at}
use Rattle.vectors.specs.Fronts.{front_at_most}
use Rattle.vectors.specs.Dominance.{EachAtMost, DominanceLaws}
use Rattle.vectors.proofs.Fronts.{fronts}

module _ (p : ℕ) (a b : List ℕ) (la : p ≤ length a) (lb : p ≤ length b) where
  front_a : length (take p a) ≡ p
  front_a = length-take-le p a la

  same_long : length (take p a) ≡ length (take p b)
  same_long = fronts p a b la lb

  sound : front_at_most p a b ≡ true → EachAtMost p a b
  sound t i l =
      rw (get_or-take p a i 0 l, get_or-take p b i 0 l)
      at (at_most_at (take p a) (take p b) same_long (at_most_true _ _ t) i (omega (arith, front_a)))

  complete : EachAtMost p a b → front_at_most p a b ≡ true
  complete each = at_most_test _ _ (at_most_each (take p a) (take p b) same_long here)
    where
      here : (i : ℕ) → i < length (take p a) → get_or (take p a) i 0 ≤ get_or (take p b) i 0
      here i l =
          let few : i < p = omega (arith, front_a) in rw (get_or-take p a i 0 few, get_or-take p b i 0 few) (each i few)

-- by the promise alone: two answers about vectors that agree in their first p costs are the same
pub same_answer : (p : ℕ) (a b a' b' : List ℕ) (r r' : Bool) → r ≡ front_at_most p a b → r' ≡ front_at_most p a' b'
    → take p a ≡ take p a' → take p b ≡ take p b' → r ≡ r'
same_answer p a b a' b' r r' says says' one other = says ∙ rw (one, other) (sym says')

pub dominance_laws : DominanceLaws
dominance_laws = record {
  sound = sound;
  complete = complete;
  beyond = λ p a b x y la lb. rw (take_at a x p la, take_at b y p lb);
}
