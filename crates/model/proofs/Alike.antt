-- Two problems in which every complete choice costs the same, and meets forbidden entries alike, have the same frontier
-- list.
use mathlib.Core.Path.{◌≡◌, ap₂}
use mathlib.Core.Bool.{Bool, true, not, ◌&&◌}
use mathlib.Core.List.{List}
use Prim.Native.Nat.{ℕ}
use Rattle.model.specs.Problems.{Problem}
use Rattle.model.specs.Vectors.{at_most}
use Rattle.model.specs.Costs.{is_choice, cost_of, meets_forbidden, costs_of}
use Rattle.model.specs.Frontiers.{consistent, frontier}
use Rattle.model.proofs.Frontier.{frontier_agrees}

pub alike_frontier : (q r : Problem) → q.objectives ≡ r.objectives → q.ceilings ≡ r.ceilings
    → q.domains ≡ r.domains
    → ((xs : List ℕ) → is_choice q.domains xs ≡ true → costs_of q xs ≡ costs_of r xs)
    → ((xs : List ℕ) → is_choice q.domains xs ≡ true
    → meets_forbidden (cost_of q.domains xs) q.tables ≡ meets_forbidden (cost_of r.domains xs) r.tables)
    → frontier q ≡ frontier r
unfolding consistent
alike_frontier q r objectives ceilings domains costs meets =
    frontier_agrees (consistent q) (consistent r) q r domains
    (λ xs h. ap₂ (λ (met : Bool) (kept : Bool). not met && kept) (meets xs h) (ap₂ at_most (costs xs h) ceilings))
    (λ xs h c. costs xs h)
