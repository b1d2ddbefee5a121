-- The laws of the four answers, for any number of costs.
use mathlib.Core.Path.{◌≡◌, refl, sym, ◌∙◌, subst}
use mathlib.Core.Bool.{Bool, true, false}
use mathlib.Core.List.{List}
use Prim.Native.Nat.{ℕ, ◌≤◌}
use lib.ListN.{length, take}
use lib.Seq.{length-take-le, take_at}
use Rattle.model.specs.Vectors.{at_most, same, beats}
use Rattle.model.proofs.Bits.{true_false, not_true_false, and_both}
use Rattle.model.proofs.Vectors.{AtMost, same_true, same_eq, beats_true, at_most_true, at_most_test, at_most_refl}
use Rattle.model.proofs.Vectors.{at_most_antisym}
use Rattle.vectors.specs.declared.Comparison.{Comparison}
use Rattle.vectors.specs.declared.Comparison.TheVariants.{Beats, Beaten, Same, Neither}
use Rattle.vectors.specs.Comparisons.{Says, FrontSays, exchanged, matches, ComparisonLaws}
use Rattle.vectors.proofs.Fronts.{fronts}

-- an answer is known by whether either matches or beats the other
abbrev answer : Bool → Bool → Comparison
answer true true = Same
answer true false = Beats
answer false true = Beaten
answer false false = Neither

answered : (r : Comparison) → answer (matches r) (matches (exchanged r)) ≡ r
answered Beats = refl
answered Beaten = refl
answered Same = refl
answered Neither = refl

answer_forth : (s t : Bool) → matches (answer s t) ≡ s
answer_forth true true = refl
answer_forth true false = refl
answer_forth false true = refl
answer_forth false false = refl

answer_back : (s t : Bool) → matches (exchanged (answer s t)) ≡ t
answer_back true true = refl
answer_back true false = refl
answer_back false true = refl
answer_back false false = refl

exchange : (r : Comparison) (a b : List ℕ) → Says r a b → Says (exchanged r) b a
exchange Beats a b h = h
exchange Beaten a b h = h
exchange Same a b h = same_eq (sym (same_true a b h))
exchange Neither a b h = (h.1, h.0)

-- of vectors of one length
module _ (a b : List ℕ) (e : length a ≡ length b) where
  -- what is beaten does not match
  beaten : beats b a ≡ true → at_most a b ≡ false
  beaten h =
      let (low, differ) = beats_true b a h in
      not_true_false (at_most a b) (λ t. differ (at_most_antisym b a (sym e) low (at_most_true a b t)))

  pub forth : (r : Comparison) → Says r a b → at_most a b ≡ matches r
  forth Beats h = at_most_test a b (beats_true a b h).0
  forth Beaten h = beaten h
  forth Same h = at_most_test a b (subst (AtMost a) (same_true a b h) (at_most_refl a))
  forth Neither h = h.0

  strict : at_most a b ≡ true → at_most b a ≡ false → beats a b ≡ true
  strict s t = and_both s (rw (not_true_false (same a b) (λ d. true_false (back_same d) t)))
    where
      back_same : same a b ≡ true → at_most b a ≡ true
      back_same d = at_most_test b a (subst (AtMost b) (sym (same_true a b d)) (at_most_refl b))

  equal : at_most a b ≡ true → at_most b a ≡ true → same a b ≡ true
  equal s t = same_eq (at_most_antisym a b e (at_most_true a b s) (at_most_true b a t))

module _ (a b : List ℕ) (e : length a ≡ length b) where
  pub told : (r : Comparison) → at_most a b ≡ matches r → at_most b a ≡ matches (exchanged r) → Says r a b
  told Beats s t = strict a b e s t
  told Beaten s t = strict b a (sym e) t s
  told Same s t = equal a b e s t
  told Neither s t = (s, t)

  pub back : (r : Comparison) → Says r a b → at_most b a ≡ matches (exchanged r)
  back r h = forth b a (sym e) (exchanged r) (exchange r a b h)

  some : (r : Comparison) × Says r a b
  some =
      let s = at_most a b in
      let t = at_most b a in
      (answer s t, told (answer s t) (sym (answer_forth s t)) (sym (answer_back s t)))

  one : (r s : Comparison) → Says r a b → Says s a b → r ≡ s
  one r s h k =
      let first : matches r ≡ matches s = sym (forth a b e r h) ∙ forth a b e s k in
      let second : matches (exchanged r) ≡ matches (exchanged s) = sym (back r h) ∙ back s k in
      sym (answered r) ∙ rw (first, second) (answered s)

pub comparison_laws : (p : ℕ) (a b : List ℕ) → p ≤ length a → p ≤ length b → ComparisonLaws p a b
comparison_laws p a b la lb =
    let long_a : length (take p a) ≡ p = length-take-le p a la in
    let long_b : length (take p b) ≡ p = length-take-le p b lb in
    let e : length (take p a) ≡ length (take p b) = fronts p a b la lb in
    record {
      some = some (take p a) (take p b) e;
      one = one (take p a) (take p b) e;
      exchange = λ r. exchange r (take p a) (take p b);
      forth = forth (take p a) (take p b) e;
      back = back (take p a) (take p b) e;
      told = told (take p a) (take p b) e;
      beyond = λ r x y h. rw (take_at (take p a) x p long_a, take_at (take p b) y p long_b) h;
    }

-- by the promise alone: the answers of two calls, the second with the vectors exchanged
pub exchanged_answer : (p : ℕ) (a b : List ℕ) (r s : Comparison) → p ≤ length a → p ≤ length b → FrontSays p r a b
    → FrontSays p s b a → s ≡ exchanged r
exchanged_answer p a b r s la lb h k =
    (comparison_laws p b a lb la).one s (exchanged r) k (exchange r (take p a) (take p b) h)
