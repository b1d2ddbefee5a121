-- The table of a function has, at the entry for some values, the cost of their tuple, or else the default.
use mathlib.Core.Path.{◌≡◌, refl, ap, sym, subst, ◌∙◌}
use mathlib.Core.Bool.{true, false}
use mathlib.Core.List.{List, [], ◌∷◌}
use Prim.Native.Nat.{ℕ, zero, suc, ◌+◌, ◌*◌, ◌<◌}
use native.Mathlib.Omega.{arith}
use lib.ListN.{length, get_or, drop, set, replicate, length-set, length-replicate, get_or-replicate}
use lib.Seq.{get_or-set_same, get_or-set_other}
use Rattle.model.specs.Problems.{InRange, size_of}
use Rattle.model.specs.Vectors.{same}
use Rattle.model.specs.Costs.{is_choice, entry_from, cost_of}
use Rattle.model.proofs.Bits.{true_false, not_true_false, or-false}
use Rattle.model.proofs.Vectors.{same_true, same_eq}
use Rattle.model.proofs.Choices.{choice_length}
use Rattle.model.proofs.Prefixes.{choice_prefix, prefix_below}
use Rattle.text_networks.specs.Findings.{Words, fine, value_at, values_in, runs}
use Rattle.text_networks.specs.Networks.{is_given, repeated_tuple, scope_in, default_in, count_in, tuples_in}
use Rattle.text_networks.specs.Networks.{sizes_over, tuple_finding, tuples_of, index_from, with_tuples, function_table}
use Rattle.text_networks.specs.NetworkCosts.{tuple_cost, function_cost}
use Rattle.text_networks.proofs.Lists.{pick_each}
use Rattle.text_networks.proofs.Entries.{product, Values, values_length, index_below, index_unique, size_product}
use Rattle.text_networks.proofs.FineWords.{FineFunction, both_fine, tuple_fine}
use Rattle.text_networks.proofs.FineTables.{sizes_count, tuples_fine}

-- ## among tuples

other_same : (xs ys : List ℕ) → same xs ys ≡ false → same ys xs ≡ false
other_same xs ys h = not_true_false (same ys xs) (λ t. true_false (same_eq (sym (same_true ys xs t))) h)

module _ (es ys : List ℕ) (v : Values es ys) where
  -- values without a tuple have the default
  default_cost : (k : ℕ) (ws : Words) (c : ℕ) → is_given ys (tuples_of k (length es) ws) ≡ false
      → tuple_cost k ys ws c ≡ c
  unfolding is_given tuples_of tuple_cost
  default_cost zero ws c h = refl
  default_cost (suc k) ws c h =
      let (first, more) = or-false _ _ h in
      rw (values_length es ys v, other_same ys (values_in (length es) ws) first)
      (default_cost k (drop (suc (length es)) ws) c more)

  tuples_cost : (k : ℕ) (ws : Words) (costs : List ℕ) → length costs ≡ product es
      → runs k (tuple_finding es) (suc (length es)) ws ≡ fine → repeated_tuple (tuples_of k (length es) ws) ≡ false
      → get_or (with_tuples k es ws costs) (index_from 0 es ys) 0
      ≡ tuple_cost k ys ws (get_or costs (index_from 0 es ys) 0)
  unfolding with_tuples tuple_cost runs repeated_tuple tuples_of
  tuples_cost zero ws costs long h once = refl
  tuples_cost (suc k) ws costs long h once =
      let a = length es in
      let zs = values_in a ws in
      let c = value_at a ws in
      let us = drop (suc a) ws in
      let at = index_from 0 es ys in
      let there = index_from 0 es zs in
      let (first, more) = both_fine _ _ h in
      let (fresh, later) = or-false (is_given zs (tuples_of k a us)) (repeated_tuple (tuples_of k a us)) once in
      let room : at < length costs = omega (arith, index_below es ys v) in
      rw (values_length es ys v)
      (tuples_cost k us (set costs there c) (length-set costs there c ∙ long) more later
      ∙ pick_each (λ n. tuple_cost k ys us (get_or (set costs there c) at 0) ≡ n) (same zs ys)
      (λ t.
      let e : zs ≡ ys = same_true zs ys t in
      ap (tuple_cost k ys us) (rw e (get_or-set_same costs at c 0 room)) ∙ default_cost k us c (rw e at fresh))
      (λ t. ap (tuple_cost k ys us) (get_or-set_other costs there at c 0
      (λ e. true_false (same_eq (index_unique es zs ys (tuple_fine es ws first).0 v (sym e))) t))))

-- ## of a function

entry_from_lem : (i : ℕ) (ds vs xs : List ℕ)
    → entry_from i ds vs xs ≡ index_from i (sizes_over ds vs) (sizes_over xs vs)
unfolding entry_from index_from
entry_from_lem i ds [] xs = refl
entry_from_lem i ds (v ∷ vs) xs = entry_from_lem (i * get_or ds v 0 + get_or xs v 0) ds vs xs

scope_values : (ds vs xs : List ℕ) → is_choice ds xs ≡ true → InRange (length ds) vs
    → Values (sizes_over ds vs) (sizes_over xs vs)
scope_values ds [] xs c r = refl
scope_values ds (v ∷ vs) xs c r = (
  prefix_below ds xs (choice_prefix ds xs c) v (omega (arith, choice_length ds xs c, r.0)),
  scope_values ds vs xs c r.1,
)

-- what a choice costs by a function is what its table gives
pub function_cost_lem : (ds xs : List ℕ) (ws : Words) → FineFunction ds ws → is_choice ds xs ≡ true
    → cost_of ds xs (function_table ds ws) ≡ function_cost xs ws
unfolding cost_of function_table function_cost
function_cost_lem ds xs ws f choice =
    let vs = scope_in ws in
    let es = sizes_over ds vs in
    let ys = sizes_over xs vs in
    let k = count_in ws in
    let us = tuples_in ws in
    let size = size_of ds vs in
    let costs = replicate size (default_in ws) in
    let values = scope_values ds vs xs choice f.scope in
    let long : length costs ≡ product es = length-replicate size (default_in ws) ∙ size_product ds vs in
    let room : index_from 0 es ys < size = omega (arith, index_below es ys values, size_product ds vs) in
    let once : repeated_tuple (tuples_of k (length es) us) ≡ false =
    subst (λ (n : ℕ). repeated_tuple (tuples_of k n us) ≡ false) (sym (sizes_count ds ws)) f.fresh in
    ap (λ (n : ℕ). get_or (with_tuples k es us costs) n 0) (entry_from_lem 0 ds vs xs)
    ∙ tuples_cost es ys values k us costs long (tuples_fine ds ws f) once
    ∙ ap (tuple_cost k ys us) (get_or-replicate size (index_from 0 es ys) (default_in ws) 0 room)
