-- The domain sizes one after another: whether the largest that is stated is met.
use mathlib.Core.Path.{◌≡◌, refl, sym, ap, ◌∙◌}
use mathlib.Core.Logic.{⊎_elim}
use mathlib.Core.Bool.{Bool, true, false, not, ◌||◌}
use mathlib.Core.List.{List}
use Prim.Native.Nat.{ℕ, suc, ◌+◌, ◌-◌, ◌≤◌, ◌<◌, min, max}
use native.Mathlib.Omega.{arith}
use lib.Dec.{eqb, ltb}
use lib.ListN.{drop}
use borrow.Author.Tests.{lt-ltb, le-ltb, eqb-true, eqb-false, eq-eqb, ne_eqb}
use Rattle.text_words.specs.Reads.{words_at, cap_end}
use Rattle.text_networks.specs.Findings.{value_at, values_in}
use Rattle.text_networks.specs.Networks.{largest_of}
use Rattle.text_checking.proofs.Codes.{lt_or_ge}
use Rattle.text_checking.proofs.Fields.{same_test}

-- i of n sizes are read up to `next`
pub record MetRead (s : List ℕ) (at n most i next : ℕ) (met : Bool) : Type 0 where
  pub so_far : ℕ
  pub below : so_far ≤ most
  pub left : largest_of (values_in n (words_at s at)) ≡ max so_far (largest_of (values_in (n - i) (words_at s next)))
  pub same : met ≡ eqb so_far most

either_met : (p d most : ℕ) (met : Bool) → p ≤ most → d ≤ most → met ≡ eqb p most
    → (met || not (ltb d most)) ≡ eqb (max p d) most
either_met p d most met h k e = rw e (go (eqb p most) refl)
  where
    go : (t : Bool) → eqb p most ≡ t → (t || not (ltb d most)) ≡ eqb (max p d) most
    go true f = sym (eq-eqb (max p d) most (omega (arith, eqb-true p most f)))
    go false f =
        let under : (p ≡ most → ⊥) = eqb-false p most f in
        ⊎_elim (λ (l : d < most).
        ap not (lt-ltb d most l) ∙ sym (ne_eqb (max p d) most (λ q. omega (arith, under))))
        (λ (l : most ≤ d). ap not (le-ltb d most l) ∙ sym (eq-eqb (max p d) most (omega arith))) (lt_or_ge d most)

module _ (s : List ℕ) (at n most : ℕ) where
  pub met_begin : (value : ℕ) → value ≡ min most cap_end → MetRead s at n most 0 at (eqb value 0)
  met_begin value e =
      let all : n - 0 ≡ n = omega arith in
      record {
        so_far = 0;
        below = omega arith;
        left = rw all (omega arith);
        same = same_test (eqb value 0) (eqb 0 most) (λ t. eq-eqb 0 most (omega (arith, eqb-true value 0 t)))
            (λ t. ne_eqb 0 most (λ z. eqb-false value 0 t (omega arith)));
      }

  pub met_on : (i next end : ℕ) (met here : Bool) → i < n → MetRead s at n most i next met
      → value_at 0 (words_at s next) ≤ most → here ≡ not (ltb (value_at 0 (words_at s next)) most)
      → words_at s end ≡ drop 1 (words_at s next) → MetRead s at n most (i + 1) end (met || here)
  unfolding values_in largest_of
  met_on i next end met here h r low e more =
      let one : n - i ≡ suc (n - (i + 1)) = omega arith in
      let d : ℕ = value_at 0 (words_at s next) in
      let rest : ℕ = largest_of (values_in (n - (i + 1)) (drop 1 (words_at s next))) in
      let split : largest_of (values_in (n - i) (words_at s next)) ≡ max d rest = rw one in
      record {
        so_far = max r.so_far d;
        below = omega (arith, r.below);
        left = rw more (r.left ∙ omega (arith, split));
        same = rw e (either_met r.so_far d most met r.below low r.same);
      }

  pub met_done : (i next : ℕ) (met : Bool) → n ≤ i → MetRead s at n most i next met
      → met ≡ eqb (largest_of (values_in n (words_at s at))) most
  unfolding values_in largest_of
  met_done i next met h r =
      let none : n - i ≡ 0 = omega arith in
      let all : largest_of (values_in n (words_at s at)) ≡ r.so_far = r.left ∙ rw none (omega arith) in
      r.same ∙ ap (λ (k : ℕ). eqb k most) (sym all)
