-- Costs, frontier list, bounds, halves and cut do not depend on the order of the cost records.
use mathlib.Core.Path.{◌≡◌, ap, ap₂, ◌∙◌}
use mathlib.Core.List.{List}
use Prim.Native.Nat.{ℕ}
use lib.ListN.{length}
use Rattle.model.specs.Problems.{Table, Problem}
use Rattle.model.specs.Vectors.{at_most}
use Rattle.model.specs.Costs.{cost_of, totals, meets_forbidden, costs_of}
use Rattle.model.specs.Frontiers.{Point, best, frontier}
use Rattle.model.specs.Bounds.{least_of, bound_of}
use Rattle.model.specs.Cuts.{on_side, half, all_pairs, cut_list}
use Rattle.model.specs.Rearrangements.{Reordered, OrderLaws}
use Rattle.model.proofs.Rearranged.{rearranged_totals, rearranged_meets, rearranged_halves}
use Rattle.model.proofs.Alike.{alike_frontier}

module _ (q r : Problem) (h : Reordered q r) where
  reordered_totals : (f : List ℕ → Table → ℕ) → totals q (f q.domains) ≡ totals r (f r.domains)
  unfolding totals
  reordered_totals f =
      rw (h.objectives, h.domains) (rearranged_totals r.objectives 0 (f r.domains) h.tables)

  reordered_costs : (xs : List ℕ) → costs_of q xs ≡ costs_of r xs
  unfolding costs_of
  reordered_costs xs = reordered_totals (λ ds. cost_of ds xs)

  reordered_bound : (pre : List ℕ) → bound_of q pre ≡ bound_of r pre
  unfolding bound_of
  reordered_bound pre = reordered_totals (λ ds. least_of ds pre)

  reordered_list : frontier q ≡ frontier r
  reordered_list =
      alike_frontier q r h.objectives h.ceilings h.domains (λ xs c. reordered_costs xs)
      (λ xs c. ap (λ (ds : List ℕ). meets_forbidden (cost_of ds xs) q.tables) h.domains
      ∙ rearranged_meets (cost_of r.domains xs) h.tables)

  reordered_half : (k : ℕ) (ss : List ℕ) → Reordered (half k q ss) (half k r ss)
  unfolding half
  reordered_half k ss =
      record {
        objectives = h.objectives;
        ceilings = h.ceilings;
        domains = ap (on_side k ss) h.domains;
        tables = rearranged_halves k ss h.tables;
      }

half_list : (q r : Problem) → Reordered q r → (k : ℕ) (ss : List ℕ) → frontier (half k q ss) ≡ frontier (half k r ss)
half_list q r h k ss = reordered_list (half k q ss) (half k r ss) (reordered_half q r h k ss)

cut_same : (q r : Problem) → Reordered q r → (ss : List ℕ) → cut_list q ss ≡ cut_list r ss
unfolding cut_list
cut_same q r h ss =
    let list : List ℕ → List Point → List Point → List Point = λ cs. all_pairs (λ c. at_most c cs) ss in
    ap best
    (ap₂ (list q.ceilings) (half_list q r h 0 ss) (half_list q r h 1 ss)
    ∙ ap (λ cs. list cs (frontier (half 0 r ss)) (frontier (half 1 r ss))) h.ceilings)

pub order_laws : OrderLaws
order_laws =
    record {
      costs = reordered_costs;
      list = reordered_list;
      bounds = reordered_bound;
      halves = half_list;
      sizes = λ q r h k ss. ap length (half_list q r h k ss);
      cuts = cut_same;
    }
