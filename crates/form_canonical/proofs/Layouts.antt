-- Layouts of one problem: every complete choice costs the same and meets forbidden entries alike, so they have the same
-- frontier list.
use mathlib.Core.Path.{◌≡◌, refl, ap, ap₂, ◌∙◌}
use mathlib.Core.Bool.{Bool, true, ◌||◌}
use mathlib.Core.List.{List, [], ◌∷◌}
use Prim.Native.Nat.{ℕ, zero, suc, ◌+◌}
use lib.Dec.{eqb}
use Rattle.model.specs.Basics.{when}
use Rattle.model.specs.Problems.{Table, Problem}
use Rattle.model.specs.Costs.{is_choice, cost_of, total, totals_from, totals, forbidden, meets_forbidden, costs_of}
use Rattle.model.specs.Frontiers.{frontier}
use Rattle.model.proofs.Rearranged.{rearranged_totals, rearranged_meets}
use Rattle.model.proofs.Alike.{alike_frontier}
use Rattle.form_canonical.specs.Statements.{TurnedAlike, SameProblem}

-- records turned alike, at a complete choice: the sum for one objective, and for each of p
module _ (ds xs : List ℕ) (complete : is_choice ds xs ≡ true) where
  pub turned_total : (o : ℕ) (ts us : List Table) → TurnedAlike ds ts us
      → total o (cost_of ds xs) ts ≡ total o (cost_of ds xs) us
  unfolding total
  turned_total o [] us h = rw h refl
  turned_total o (t ∷ ts) [] h = absurd h
  turned_total o (t ∷ ts) (u ∷ us) h =
      ap₂ ◌+◌
      (ap₂ (λ (own cost : ℕ). when (eqb own o) cost) h.0.objective (h.0.entries xs complete))
      (turned_total o ts us h.1)

  pub turned_totals : (p o : ℕ) (ts us : List Table) → TurnedAlike ds ts us
      → totals_from p o (cost_of ds xs) ts ≡ totals_from p o (cost_of ds xs) us
  unfolding totals_from
  turned_totals zero o ts us h = refl
  turned_totals (suc p) o ts us h = ap₂ ◌∷◌ (turned_total o ts us h) (turned_totals p (suc o) ts us h)

  turned_meets : (ts us : List Table) → TurnedAlike ds ts us
      → meets_forbidden (cost_of ds xs) ts ≡ meets_forbidden (cost_of ds xs) us
  unfolding meets_forbidden
  turned_meets [] us h = rw h refl
  turned_meets (t ∷ ts) [] h = absurd h
  turned_meets (t ∷ ts) (u ∷ us) h =
      ap₂ (λ (cost : ℕ) (rest : Bool). eqb cost forbidden || rest) (h.0.entries xs complete)
      (turned_meets ts us h.1)

pub layout_costs : (q r : Problem) → SameProblem q r → (xs : List ℕ) → is_choice q.domains xs ≡ true
    → costs_of q xs ≡ costs_of r xs
unfolding costs_of totals
layout_costs q r h xs complete =
    rearranged_totals q.objectives 0 (cost_of q.domains xs) h.order
    ∙ turned_totals q.domains xs complete q.objectives 0 h.between r.tables h.layout
    ∙ ap₂ (λ (p : ℕ) (ds : List ℕ). totals_from p 0 (cost_of ds xs) r.tables) h.objectives h.domains

pub layout_frontier : (q r : Problem) → SameProblem q r → frontier q ≡ frontier r
layout_frontier q r h =
    alike_frontier q r h.objectives h.ceilings h.domains (layout_costs q r h)
    (λ xs complete.
    rearranged_meets (cost_of q.domains xs) h.order
    ∙ turned_meets q.domains xs complete h.between r.tables h.layout
    ∙ ap (λ (ds : List ℕ). meets_forbidden (cost_of ds xs) r.tables) h.domains)
