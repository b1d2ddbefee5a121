-- A text in which nothing is refused: its records keep the rules, and a choice costs by them what it costs by the text.
use mathlib.Core.Path.{◌≡◌, refl, ap, ap₂}
use mathlib.Core.Bool.{true}
use mathlib.Core.List.{List, [], ◌∷◌}
use Prim.Native.Nat.{ℕ, zero, suc, ◌+◌, ◌≤◌}
use native.Mathlib.Omega.{arith}
use lib.Dec.{ltb}
use lib.ListN.{drop}
use borrow.Author.Tests.{ltb-false}
use Rattle.model.specs.Basics.{All}
use Rattle.model.specs.Limits.{max_variables, max_tables, max_domain}
use Rattle.model.specs.Problems.{DomainSize, RecordRules}
use Rattle.model.specs.Reading.{outside}
use Rattle.model.specs.Costs.{is_choice, cost_of, total, totals_from, totals, costs_of}
use Rattle.text_words.specs.Texts.{Term, value_of}
use Rattle.text_networks.specs.Findings.{Words, fine, dialect, stop, fault, term_at, value_at, values_in}
use Rattle.text_networks.specs.Findings.{runs}
use Rattle.text_networks.specs.Networks.{max_bound, size_finding, function_width, functions_finding, domains_in}
use Rattle.text_networks.specs.Networks.{functions_in}
use Rattle.text_networks.specs.Networks.{network_finding, function_table, function_tables, network_problem}
use Rattle.text_networks.specs.NetworkCosts.{functions_cost, network_cost}
use Rattle.text_networks.proofs.FineWords.{found_fine, both_fine, test_fine, field_fine, inside_fine}
use Rattle.text_networks.proofs.FineWords.{function_fine}
use Rattle.text_networks.proofs.FineTables.{values_count, tables_count, tables_ruled}
use Rattle.text_networks.proofs.TupleCosts.{function_cost_lem}

-- ## domain sizes

size_fine : (m : ℕ) (t : Term) → size_finding m t ≡ fine → DomainSize (value_of t)
size_fine m t h =
    let d = value_of t in
    let (most, size) = both_fine _ _ (field_fine stop _ t tt h) in
    inside_fine max_domain d (test_fine (outside max_domain d) dialect tt size)

sizes_fine : (m n : ℕ) (ws : Words) → runs n (λ us. size_finding m (term_at 0 us)) 1 ws ≡ fine
    → All DomainSize (values_in n ws)
unfolding runs values_in
sizes_fine m zero ws h = tt
sizes_fine m (suc n) ws h =
    let (first, more) = both_fine _ _ h in
    (size_fine m (term_at 0 ws) first, sizes_fine m n (drop 1 ws) more)

-- ## the whole text

-- what is so of it
pub record FineNetwork (ws : Words) : Type 0 where
  pub variables : (1 ≤ value_at 1 ws) × (value_at 1 ws ≤ max_variables)
  pub functions : value_at 3 ws ≤ max_tables
  pub bound : (1 ≤ value_at 4 ws) × (value_at 4 ws ≤ max_bound)
  pub sizes : All DomainSize (domains_in ws)
  pub tables : functions_finding (value_at 3 ws) (domains_in ws) (functions_in ws) ≡ fine

pub network_fine : (ws : Words) → network_finding ws ≡ fine → FineNetwork ws
unfolding network_finding
network_fine [] h = absurd (found_fine fault tt h)
network_fine (name ∷ rest) h =
    let ws = name ∷ rest in
    let n = value_at 1 ws in
    let r = value_at 3 ws in
    let (variables, h₁) = both_fine _ _ h in
    let (largest, h₂) = both_fine _ _ h₁ in
    let (functions, h₃) = both_fine _ _ h₂ in
    let (bound, h₄) = both_fine _ _ h₃ in
    let (sizes, h₅) = both_fine _ _ h₄ in
    let (stated, tables) = both_fine _ _ h₅ in
    record {
      variables = inside_fine max_variables n
          (test_fine (outside max_variables n) dialect tt (field_fine fault _ (term_at 1 ws) tt variables));
      functions = ltb-false max_tables r
          (test_fine (ltb max_tables r) dialect tt (field_fine fault _ (term_at 3 ws) tt functions));
      bound = inside_fine max_bound (value_at 4 ws)
          (test_fine (outside max_bound (value_at 4 ws)) dialect tt (field_fine stop _ (term_at 4 ws) tt bound));
      sizes = sizes_fine (value_at 2 ws) n (drop 5 ws) sizes;
      tables = tables;
    }

-- the problem that it holds keeps the rules
pub text_rules : (ws : Words) → network_finding ws ≡ fine → RecordRules (network_problem ws)
unfolding network_problem
text_rules ws h =
    let f = network_fine ws h in
    record {
      some_variable = rw values_count f.variables.0;
      few_variables = rw values_count f.variables.1;
      some_objective = omega arith;
      few_objectives = omega arith;
      few_tables = rw tables_count f.functions;
      ceiling_each = refl;
      ceiling_words = (omega (arith, f.bound.1), tt);
      domain_sizes = f.sizes;
      table_rules = tables_ruled (value_at 3 ws) (domains_in ws) (functions_in ws) f.tables;
    }

functions_cost_lem : (r : ℕ) (ds xs : List ℕ) (ws : Words) → functions_finding r ds ws ≡ fine → is_choice ds xs ≡ true
    → total 0 (cost_of ds xs) (function_tables r ds ws) ≡ functions_cost r xs ws
unfolding functions_finding function_table function_tables total functions_cost
functions_cost_lem zero ds xs ws h choice = refl
functions_cost_lem (suc r) ds xs ws h choice =
    let (first, more) = both_fine _ _ h in
    ap₂ ◌+◌ (function_cost_lem ds xs ws (function_fine ds ws first) choice)
    (functions_cost_lem r ds xs (drop (function_width ws) ws) more choice)

-- what a choice costs by the text, the default where it has no tuple, is what it costs by the records
pub text_costs : (ws : Words) (xs : List ℕ) → network_finding ws ≡ fine → is_choice (domains_in ws) xs ≡ true
    → costs_of (network_problem ws) xs ≡ network_cost ws xs ∷ []
unfolding network_problem costs_of totals totals_from
text_costs ws xs h choice =
    ap (λ (n : ℕ). n ∷ [])
    (functions_cost_lem (value_at 3 ws) (domains_in ws) xs (functions_in ws) (network_fine ws h).tables choice)
