-- The sums of largest entries limit what choices under a ceiling cost: each entry that a sum below it has is below it.
use Rattle.std.proofs.Common.{◌≡◌, ℕ, ◌<◌, ◌≤◌, Bool, true, false, eqb, List, [], ◌∷◌, length, get_or, refl, ap, ◌∙◌}
use Rattle.std.proofs.Common.{zero-add, arith, eqb-true}
use Rattle.model.specs.Basics.{when}
use Rattle.model.specs.Limits.{max_objectives}
use Rattle.model.specs.Problems.{Table}
use Rattle.model.specs.Costs.{entry_from, cost_of, total, totals_from}
use Rattle.model.proofs.Totals.{totals_from_length, totals_at}
use Rattle.groups.specs.Groups.{tables_over}
use Rattle.plan_spreads.specs.LargestCosts.{largest_of, Reaches}
use Rattle.plan_spreads.proofs.LargestEntries.{at_most_largest}

-- a sum below c is at most another where each part below c is
total_under : (o c : ℕ) (f g : Table → ℕ) → ((t : Table) → t.objective ≡ o → f t < c → f t ≤ g t)
    → (ts : List Table) → total o f ts < c → total o f ts ≤ total o g ts
unfolding total
total_under o c f g each [] h = omega arith
total_under o c f g each (t ∷ ts) h =
    omega (arith, go (eqb t.objective o) refl (omega arith), total_under o c f g each ts (omega arith))
  where
    go : (b : Bool) → eqb t.objective o ≡ b → when b (f t) < c → when b (f t) ≤ when b (g t)
    go true e l = each t (eqb-true t.objective o e) l
    go false e l = omega arith

pub largest_reach : (ds s places ceilings mosts : List ℕ)
    → mosts ≡ totals_from max_objectives 0 (largest_of ceilings) (tables_over ds s places)
    → Reaches ds s places ceilings mosts
unfolding cost_of
largest_reach ds s places ceilings mosts is =
    let ts = tables_over ds s places in
    record {
      four = ap length is ∙ totals_from_length max_objectives 0 (largest_of ceilings) ts;
      most = λ o x h under.
          let each : (t : Table) → t.objective ≡ o → cost_of ds x t < get_or ceilings o 0
          → cost_of ds x t ≤ largest_of ceilings t =
          λ t e l. at_most_largest (get_or ceilings t.objective 0) t.costs (entry_from 0 ds t.scope x) (rw e l) in
          rw (is, totals_at (largest_of ceilings) ts max_objectives 0 o h, zero-add o)
          (total_under o (get_or ceilings o 0) (cost_of ds x) (largest_of ceilings) each ts under);
    }
