-- Ceilings fitted to what sums can reach: the same choices are under them, so the list is the same.
use Rattle.std.proofs.Common.{◌≡◌, ℕ, suc, ◌+◌, ◌<◌, ◌≤◌, Bool, true, false, ◌&&◌, ltb, List, [], ◌∷◌, length, get_or}
use Rattle.std.proofs.Common.{take, sym, refl, ap, ◌∙◌, ap₂, arith, length-take-le, get_or-take, ltb-false, ltb-true}
use Rattle.std.proofs.Common.{le-ltb, lt-ltb}
use Rattle.model.specs.Limits.{max_objectives}
use Rattle.model.specs.Problems.{Problem}
use Rattle.model.specs.Costs.{cost_of, total, totals, costs_of}
use Rattle.model.specs.Core.{under, with_ceilings, core_consistent, core_frontier}
use Rattle.model.proofs.Totals.{totals_at}
use Rattle.model.proofs.Frontier.{frontier_agrees, costs_width}
use Rattle.plan_spreads.specs.Ceilings.{Fitted}

-- what is below one ceiling is below the other, number by number
under_fitted : (xs cs fs : List ℕ) → length xs ≡ length cs → length fs ≡ length cs
    →
    ((j : ℕ) → j < length cs
    → (get_or fs j 0 ≤ get_or cs j 0) × (get_or xs j 0 < get_or cs j 0 → get_or xs j 0 < get_or fs j 0))
    → under xs fs ≡ under xs cs
unfolding under
under_fitted [] cs fs e d h = refl
under_fitted (x ∷ xs) [] fs e d h = absurd (omega arith)
under_fitted (x ∷ xs) (c ∷ cs) [] e d h = absurd (omega arith)
under_fitted (x ∷ xs) (c ∷ cs) (f ∷ fs) e d h =
    ap₂ ◌&&◌ (first (ltb x c) refl)
    (under_fitted xs cs fs (omega arith) (omega arith) (λ j l. h (suc j) (omega arith)))
  where
    first : (b : Bool) → ltb x c ≡ b → ltb x f ≡ ltb x c
    first true t = lt-ltb x f ((h 0 (omega arith)).1 (ltb-true x c t)) ∙ sym t
    first false t = le-ltb x f (omega (arith, (h 0 (omega arith)).0, ltb-false x c t)) ∙ sym t

module _ (q : Problem) (cs ms fs : List ℕ) (fit : Fitted cs ms fs) (few : q.objectives ≤ max_objectives)
    (four : length cs ≡ max_objectives) (kept : q.ceilings ≡ take q.objectives cs)
    (reach : (o : ℕ) (x : List ℕ) → o < max_objectives → total o (cost_of q.domains x) q.tables < get_or cs o 0
    → total o (cost_of q.domains x) q.tables ≤ get_or ms o 0) where
  abbrev p : ℕ
  p = q.objectives

  abbrev sum : ℕ → List ℕ → ℕ
  sum o x = total o (cost_of q.domains x) q.tables

  cost_at_lem : (o : ℕ) (x : List ℕ) → o < p → get_or (costs_of q x) o 0 ≡ sum o x
  unfolding costs_of totals
  cost_at_lem o x l =
      let start : 0 + o ≡ o = omega arith in
      totals_at (cost_of q.domains x) q.tables p 0 o l ∙ ap (λ (k : ℕ). sum k x) start

  same_test : (x : List ℕ) → under (costs_of q x) (take p fs) ≡ under (costs_of q x) q.ceilings
  same_test x =
      let long = length-take-le p cs (omega (arith, few, four)) in
      under_fitted (costs_of q x) (take p cs) (take p fs) (costs_width q x ∙ sym long)
      (length-take-le p fs (omega (arith, few, fit.long)) ∙ sym long)
      (λ j l.
      let inside : j < p = omega (arith, long, l) in
      rw (get_or-take p cs j 0 inside, get_or-take p fs j 0 inside, cost_at_lem j x inside) (
        (fit.each j (omega (arith, few))).0,
        λ below. (fit.each j (omega (arith, few))).1 (sum j x) below (reach j x (omega (arith, few)) below),
      ))
      ∙ ap (under (costs_of q x)) (sym kept)

  pub fitted_frontier : core_frontier (with_ceilings (take p fs) q) ≡ core_frontier q
  unfolding core_consistent costs_of totals
  fitted_frontier =
      let fitted = with_ceilings (take p fs) q in
      frontier_agrees (core_consistent fitted) (core_consistent q) fitted q refl
      (λ x c. same_test x) (λ x c h. refl)
