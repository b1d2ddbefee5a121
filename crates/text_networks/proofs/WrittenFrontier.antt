-- What is consistent under a ceiling that has an upper bound; and that the problem that is written has the same
-- consistent choices, at the same costs, and the same frontier.
use mathlib.Core.Path.{◌≡◌, refl, sym, ap, ap₂, ◌∙◌}
use mathlib.Core.Bool.{Bool, true, false, not, ◌&&◌, and-true}
use mathlib.Core.List.{List, [], ◌∷◌}
use Prim.Native.Nat.{ℕ, suc}
use lib.Dec.{ltb, leb}
use lib.ListN.{get_or}
use borrow.Author.Tests.{le-ltb}
use Rattle.model.specs.Problems.{Problem}
use Rattle.model.specs.Vectors.{at_most}
use Rattle.model.specs.Costs.{costs_of}
use Rattle.model.specs.Frontiers.{consistent, frontier}
use Rattle.model.proofs.Frontier.{frontier_agrees, Meets}
use Rattle.model.proofs.Core.{below_suc}
use Rattle.text_networks.specs.NetworkTexts.{upper_bound_of, written}
use Rattle.text_networks.specs.Statements.{Writable}
use Rattle.text_networks.proofs.Lists.{one_only}
use Rattle.text_networks.proofs.Written.{written_writable}
use Rattle.text_networks.proofs.WrittenCosts.{one_cost, one_cost_lem, met_above, written_allowed, written_cost_lem}

-- one cost at most its ceiling is below the upper bound
within_below : (x c : ℕ) → at_most (x ∷ []) (c ∷ []) ≡ ltb x (suc c)
unfolding at_most
within_below x c = and-true (leb x c) ∙ sym (below_suc x c)

-- what is forbidden reaches the upper bound, so that the cost alone decides
pub consistent_below : (q : Problem) → Writable q → (xs : List ℕ)
    → consistent q xs ≡ ltb (one_cost q xs) (upper_bound_of q)
unfolding consistent
consistent_below q w xs = go (Meets q xs) refl
  where
    kept : at_most (costs_of q xs) q.ceilings ≡ ltb (one_cost q xs) (upper_bound_of q)
    kept =
        ap₂ at_most (one_cost_lem q xs w.one) (sym (one_only q.ceilings (w.formed.rules.ceiling_each ∙ w.one)))
        ∙ within_below (one_cost q xs) (get_or q.ceilings 0 0)

    go : (b : Bool) → Meets q xs ≡ b
        → (not (Meets q xs) && at_most (costs_of q xs) q.ceilings) ≡ ltb (one_cost q xs) (upper_bound_of q)
    go true e = rw e (sym (le-ltb _ _ (met_above q w xs e)))
    go false e = rw e kept

module _ (q : Problem) (w : Writable q) where
  pub written_consistent : (xs : List ℕ) → consistent (written q) xs ≡ consistent q xs
  unfolding written
  written_consistent xs =
      consistent_below (written q) (written_writable q w) xs
      ∙ written_allowed q w xs
      ∙ sym (consistent_below q w xs)

  pub written_costs : (xs : List ℕ) → consistent q xs ≡ true → costs_of (written q) xs ≡ costs_of q xs
  written_costs xs h =
      one_cost_lem (written q) xs (written_writable q w).one
      ∙ ap (λ (n : ℕ). n ∷ []) (written_cost_lem q w xs (sym (consistent_below q w xs) ∙ h))
      ∙ sym (one_cost_lem q xs w.one)

  pub written_frontier : frontier (written q) ≡ frontier q
  unfolding written
  written_frontier =
      frontier_agrees (consistent (written q)) (consistent q) (written q) q refl
      (λ x choice. written_consistent x)
      (λ x choice h. written_costs x (sym (written_consistent x) ∙ h))
