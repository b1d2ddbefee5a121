-- How large the numbers of a problem's text are: all fit four bytes, most are far smaller.
use mathlib.Core.Path.{ap}
use mathlib.Core.List.{List, [], ◌∷◌, ◌++◌}
use Prim.Native.Nat.{ℕ, suc, ◌^◌, ◌≤◌, ◌<◌}
use native.Mathlib.Omega.{arith}
use native.Mathlib.Nat.{mul-le-mul, pow-succ', pow-le-pow_right, le_trans}
use lib.Dec.{eqb}
use lib.ListN.{length, get_or, length-map}
use Rattle.model.specs.Basics.{pick, All}
use Rattle.model.specs.Limits.{max_domain, max_arity, max_variables}
use Rattle.model.specs.Problems.{Table, Problem, Word, DomainSize, TableRules, RecordRules}
use Rattle.model.proofs.Bits.{pick_both}
use Rattle.model.proofs.Elements.{all_at, all_map, all_append}
use Rattle.text_networks.specs.Networks.{max_bound, sizes_over, largest_of}
use Rattle.text_networks.specs.NetworkTexts.{upper_bound_of, nonzero, entry_values}
use Rattle.text_networks.proofs.TextNumbers.{tuple_numbers, start_numbers, function_numbers, functions_numbers}
use Rattle.text_networks.proofs.TextNumbers.{text_numbers}
use Rattle.text_networks.proofs.Entries.{product, Values, entry_values_lem, sizes_over_lem, sizes_positive}
use Rattle.text_networks.proofs.Entries.{size_product}
use Rattle.text_networks.proofs.FunctionWords.{scope_range}

-- ## of a table

pub nonzero_few : (cs : List ℕ) → nonzero cs ≤ length cs
unfolding nonzero
nonzero_few [] = omega arith
nonzero_few (c ∷ cs) =
    let one : pick (eqb c 0) 0 1 ≤ 1 = pick_both (λ n. n ≤ 1) (eqb c 0) {a = 0} {b = 1} (omega arith) (omega arith) in
    omega (arith, nonzero_few cs)

product_power : (ds : List ℕ) → All DomainSize ds → product ds ≤ max_domain ^ length ds
product_power [] h = omega arith
product_power (d ∷ ds) h = rw pow-succ' (mul-le-mul h.0.1 (product_power ds h.1))

values_small : (ds xs : List ℕ) → All DomainSize ds → Values ds xs → All (λ x. x < max_domain) xs
values_small [] [] s h = tt
values_small [] (x ∷ xs) s h = absurd (omega (arith, ap length h))
values_small (d ∷ ds) [] s h = absurd h
values_small (d ∷ ds) (x ∷ xs) s h = (omega arith, values_small ds xs s.1 h.1)

pub entry_small : (ds : List ℕ) (i : ℕ) → All DomainSize ds → All (λ x. x < max_domain) (entry_values ds i)
entry_small ds i s = values_small ds (entry_values ds i) s (entry_values_lem ds i (sizes_positive ds s))

module _ (ds : List ℕ) (sizes : All DomainSize ds) (p : ℕ) where
  module _ (t : Table) (r : TableRules p ds t) where
    pub scope_sizes_lem : All DomainSize (sizes_over ds t.scope)
    scope_sizes_lem = sizes_over_lem ds t.scope sizes (scope_range (length ds) t.scope r.distinct)

    pub costs_few : length t.costs ≤ 512
    costs_few =
        let es = sizes_over ds t.scope in
        let few : length es ≤ max_arity = rw length-map r.arity in
        let small : product es ≤ 512 = le_trans (product_power es scope_sizes_lem)
        (pow-le-pow_right {n = max_domain} (omega arith) few) in
        omega (arith, r.entries, size_product ds t.scope)

-- ## all numbers fit four bytes

tuples_fit : (ds : List ℕ) (i : ℕ) (cs : List ℕ) → All DomainSize ds → All Word cs → All Word (tuple_numbers ds i cs)
unfolding tuple_numbers
tuples_fit ds i [] s w = tt
tuples_fit ds i (c ∷ cs) s w =
    let tuple = entry_values ds i ++ (c ∷ []) in
    let values : All Word (entry_values ds i) =
    all_map (λ x. x < max_domain) Word (λ x l. omega arith) (entry_values ds i) (entry_small ds i s) in
    all_append Word (pick (eqb c 0) [] tuple) (tuple_numbers ds (suc i) cs)
    (pick_both (All Word) (eqb c 0) {a = []} {b = tuple} tt
    (all_append Word (entry_values ds i) (c ∷ []) values (w.0, tt)))
    (tuples_fit ds (suc i) cs s w.1)

module _ (ds : List ℕ) (sizes : All DomainSize ds) (p : ℕ) (few : length ds ≤ max_variables) where
  function_fits : (t : Table) → TableRules p ds t → All Word (function_numbers ds t)
  unfolding function_numbers
  function_fits t r =
      let vs = t.scope in
      let k = nonzero t.costs in
      let tuples = tuple_numbers (sizes_over ds vs) 0 t.costs in
      let scope : All Word vs = all_map (λ v. v < length ds) Word (λ v l. omega arith) vs
      (scope_range (length ds) vs r.distinct) in
      let arity : Word (length vs) = omega (arith, r.arity) in
      let count : Word k = omega (arith, nonzero_few t.costs, costs_few ds sizes p t r) in
      let first : Word (get_or t.costs 0 0) = all_at Word t.costs r.words 0 0 (omega arith) in
      pick_both (All Word) (eqb (length vs) 0)
      {a = 0 ∷ get_or t.costs 0 0 ∷ 0 ∷ []} {b = start_numbers vs 0 k ++ tuples}
      (omega arith, (first, (omega arith, tt)))
      (all_append Word (start_numbers vs 0 k) tuples
      (arity, all_append Word vs (0 ∷ k ∷ []) scope (omega arith, (count, tt)))
      (tuples_fit (sizes_over ds vs) 0 t.costs (scope_sizes_lem ds sizes p t r) r.words))

  functions_fit : (ts : List Table) → All (TableRules p ds) ts → All Word (functions_numbers ds ts)
  unfolding functions_numbers
  functions_fit [] r = tt
  functions_fit (t ∷ ts) r =
      all_append Word (function_numbers ds t) (functions_numbers ds ts) (function_fits t r.0) (functions_fit ts r.1)

largest_small : (n : ℕ) (ds : List ℕ) → All (λ d. d ≤ n) ds → largest_of ds ≤ n
unfolding largest_of
largest_small n [] h = omega arith
largest_small n (d ∷ ds) h = omega (arith, largest_small n ds h.1)

pub domains_small : (ds : List ℕ) → All DomainSize ds → largest_of ds ≤ max_domain
domains_small ds h = largest_small max_domain ds (all_map DomainSize (λ d. d ≤ max_domain) (λ d s. s.1) ds h)

pub numbers_fit : (q : Problem) → RecordRules q → upper_bound_of q ≤ max_bound → All Word (text_numbers q)
numbers_fit q r bounded =
    let ds = q.domains in
    let few = r.few_variables in
    let domains : All Word ds = all_map DomainSize Word (λ d s. omega arith) ds r.domain_sizes in
    let largest = domains_small ds r.domain_sizes in
    let bound : Word (upper_bound_of q) = omega arith in
    let rest = functions_fit ds r.domain_sizes q.objectives few q.tables r.table_rules in (
      omega (arith, few),
      (
        omega (arith, largest),
        (
          omega (arith, r.few_tables),
          (bound, all_append Word ds (functions_numbers ds q.tables) domains rest),
        ),
      ),
    )
