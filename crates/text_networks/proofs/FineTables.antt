-- The tables of words in which nothing is refused keep the record rules.
use mathlib.Core.Path.{◌≡◌, refl, ap, sym, subst, ◌∙◌}
use mathlib.Core.List.{List}
use Prim.Native.Nat.{ℕ, zero, suc}
use native.Mathlib.Omega.{arith}
use lib.ListN.{length, get_or, drop, replicate, length-map, length-set, length-replicate}
use Rattle.model.specs.Basics.{All}
use Rattle.model.specs.Problems.{Word, TableRules, size_of}
use Rattle.model.proofs.Elements.{all_set}
use Rattle.text_networks.specs.Findings.{Words, fine, values_in, runs}
use Rattle.text_networks.specs.Networks.{arity_in, scope_in, default_in, count_in, tuples_in, function_width}
use Rattle.text_networks.specs.Networks.{sizes_over}
use Rattle.text_networks.specs.Networks.{tuple_finding, functions_finding, with_tuples, function_table}
use Rattle.text_networks.specs.Networks.{function_tables}
use Rattle.text_networks.proofs.FineWords.{FineFunction, both_fine, tuple_fine, scope_ruled, function_fine}

pub values_count : (n : ℕ) (ws : Words) → length (values_in n ws) ≡ n
unfolding values_in
values_count zero ws = refl
values_count (suc n) ws = ap suc (values_count n (drop 1 ws))

-- a size for each variable of a scope
pub sizes_count : (ds : List ℕ) (ws : Words) → length (sizes_over ds (scope_in ws)) ≡ arity_in ws
sizes_count ds ws = length-map (scope_in ws) (λ v. get_or ds v 0) ∙ values_count (arity_in ws) (drop 1 ws)

pub tables_count : (r : ℕ) (ds : List ℕ) (ws : Words) → length (function_tables r ds ws) ≡ r
unfolding function_tables
tables_count zero ds ws = refl
tables_count (suc r) ds ws = ap suc (tables_count r ds (drop (function_width ws) ws))

-- ## one table

pub costs_count : (k : ℕ) (ds : List ℕ) (ws : Words) (costs : List ℕ)
    → length (with_tuples k ds ws costs) ≡ length costs
unfolding with_tuples
costs_count zero ds ws costs = refl
costs_count (suc k) ds ws costs = costs_count k ds _ _ ∙ length-set costs _ _

costs_fit : (k : ℕ) (ds : List ℕ) (ws : Words) (costs : List ℕ)
    → runs k (tuple_finding ds) (suc (length ds)) ws ≡ fine → All Word costs → All Word (with_tuples k ds ws costs)
unfolding with_tuples runs
costs_fit zero ds ws costs h w = w
costs_fit (suc k) ds ws costs h w =
    let (first, more) = both_fine _ _ h in
    costs_fit k ds (drop (suc (length ds)) ws) _ more (all_set Word costs _ _ w (tuple_fine ds ws first).1)

all_replicate : (P : ℕ → Type 0) (n x : ℕ) → P x → All P (replicate n x)
all_replicate P zero x h = tt
all_replicate P (suc n) x h = (h, all_replicate P n x h)

module _ (ds : List ℕ) (ws : Words) (f : FineFunction ds ws) where
  pub tuples_fine :
      let es = sizes_over ds (scope_in ws) in
      runs (count_in ws) (tuple_finding es) (suc (length es)) (tuples_in ws) ≡ fine
  tuples_fine =
      subst (λ (n : ℕ). runs (count_in ws) (tuple_finding (sizes_over ds (scope_in ws))) (suc n) (tuples_in ws) ≡ fine)
      (sym (sizes_count ds ws)) f.tuples

  table_ruled : TableRules 1 ds (function_table ds ws)
  unfolding function_table
  table_ruled =
      let vs = scope_in ws in
      let es = sizes_over ds vs in
      let costs = replicate (size_of ds vs) (default_in ws) in
      record {
        owner = omega arith;
        arity = rw values_count f.arity;
        distinct = scope_ruled (length ds) vs f.scope f.once;
        entries = costs_count (count_in ws) es (tuples_in ws) costs ∙ length-replicate (size_of ds vs) (default_in ws);
        words = costs_fit (count_in ws) es (tuples_in ws) costs tuples_fine
            (all_replicate Word (size_of ds vs) (default_in ws) f.default);
      }

-- ## all tables

pub tables_ruled : (r : ℕ) (ds : List ℕ) (ws : Words) → functions_finding r ds ws ≡ fine
    → All (TableRules 1 ds) (function_tables r ds ws)
unfolding functions_finding function_tables
tables_ruled zero ds ws h = tt
tables_ruled (suc r) ds ws h =
    let (first, more) = both_fine _ _ h in
    (table_ruled ds ws (function_fine ds ws first), tables_ruled r ds (drop (function_width ws) ws) more)
