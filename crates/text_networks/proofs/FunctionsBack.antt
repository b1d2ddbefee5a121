-- The cost functions of a problem's text, one after another, give its tables back.
use mathlib.Core.Path.{◌≡◌, refl, ap, sym, subst, ◌∙◌}
use mathlib.Core.Bool.{Bool, true, false}
use mathlib.Core.List.{List, [], ◌∷◌, ◌++◌}
use Prim.Native.Nat.{ℕ, suc, ◌+◌, ◌*◌, ◌≤◌}
use native.Mathlib.Omega.{arith}
use native.Mathlib.Nat.{zero-mul}
use lib.Dec.{eqb, eqb-suc-zero}
use lib.ListN.{length, get_or, drop, replicate, length-append, length-map}
use lib.Seq.{drop-drop}
use Rattle.model.specs.Basics.{pick, All}
use Rattle.model.specs.Problems.{Table, Word, DomainSize, TableRules, size_of}
use Rattle.model.proofs.Elements.{all_below}
use Rattle.text_networks.specs.Findings.{Words, fine, and_then, runs}
use Rattle.text_networks.specs.Networks.{repeated_tuple, function_width, sizes_over, tuple_finding, tuples_of}
use Rattle.text_networks.specs.Networks.{function_finding, functions_finding, with_tuples, function_table}
use Rattle.text_networks.specs.Networks.{function_tables}
use Rattle.text_networks.specs.NetworkTexts.{nonzero, entry_values}
use Rattle.text_networks.proofs.Lists.{one_only}
use Rattle.text_networks.proofs.TextNumbers.{tuple_numbers, start_numbers, function_numbers, functions_numbers}
use Rattle.text_networks.proofs.NumberWords.{Reads, reads_left, reads_right}
use Rattle.text_networks.proofs.Entries.{product, entry_length, sizes_over_lem, sizes_positive, size_product}
use Rattle.text_networks.proofs.TupleWords.{Tuples, tuples_read, tuples_found, tuples_once, tuples_costs}
use Rattle.text_networks.proofs.FunctionWords.{scope_range, function_found, function_table_lem, function_width_lem}

-- ## one function

-- how many numbers its tuples have
tuples_width : (ds : List ℕ) (i : ℕ) (cs : List ℕ) → length (tuple_numbers ds i cs) ≡ nonzero cs * suc (length ds)
unfolding tuple_numbers nonzero
tuples_width ds i [] = omega (arith, zero-mul (suc (length ds)))
tuples_width ds i (c ∷ cs) = go (eqb c 0) (tuples_width ds (suc i) cs)
  where
    tuple : List ℕ
    tuple = entry_values ds i ++ (c ∷ [])

    rest : List ℕ
    rest = tuple_numbers ds (suc i) cs

    go : (t : Bool) → length rest ≡ nonzero cs * suc (length ds)
        → length (pick t [] tuple ++ rest) ≡ (pick t 0 1 + nonzero cs) * suc (length ds)
    go true e = omega arith
    go false e =
        omega (arith, length-append tuple rest, length-append (entry_values ds i) (c ∷ []), entry_length ds i)

-- nothing in the words is refused, they give the table t, and they are as many as t's numbers
abbrev Back : List ℕ → Table → Words → Type 0
Back ds t ws =
    (function_finding ds ws ≡ fine) × (function_table ds ws ≡ t) × (function_width ws ≡ length (function_numbers ds t))

-- the table of the one objective
abbrev over : List ℕ → List ℕ → Table
over vs cs = record { objective = 0; scope = vs; costs = cs }

module _ (ds : List ℕ) (sizes : All DomainSize ds) where
  -- without variables, the entry is the default
  constant_back : (cs : List ℕ) (ws : Words) → TableRules 1 ds (over [] cs)
      → Reads (start_numbers [] (get_or cs 0 0) 0) ws → Back ds (over [] cs) ws
  unfolding function_numbers size_of runs repeated_tuple tuples_of with_tuples
  constant_back cs ws r h =
      let c = get_or cs 0 0 in
      let long : length cs ≡ 1 = r.entries in
      let word : Word c = all_below Word cs r.words 0 0 (omega arith) in (
        function_found [] c 0 ws h ds r.arity r.distinct word refl refl refl,
        function_table_lem [] c 0 ws h ds ∙ ap (over []) (one_only cs long),
        function_width_lem [] c 0 ws h,
      )

  -- with variables, the default is 0 and the other entries are tuples
  variables_back : (vs cs : List ℕ) (ws : Words) → TableRules 1 ds (over vs cs) → eqb (length vs) 0 ≡ false
      → Reads (start_numbers vs 0 (nonzero cs) ++ tuple_numbers (sizes_over ds vs) 0 cs) ws → Back ds (over vs cs) ws
  unfolding function_numbers
  variables_back vs cs ws r some h =
      let k = nonzero cs in
      let es = sizes_over ds vs in
      let start = start_numbers vs 0 k in
      let us = drop (3 + length vs) ws in
      let rule = scope_range (length ds) vs r.distinct in
      let positive = sizes_positive es (sizes_over_lem ds vs sizes rule) in
      let wide : length es ≡ length vs = length-map vs (λ v. get_or ds v 0) in
      let long : length start ≡ 3 + length vs = omega (arith, length-append vs (0 ∷ k ∷ [])) in
      let first : Reads start ws = reads_left start (tuple_numbers es 0 cs) ws h in
      let behind : Reads (tuple_numbers es 0 cs) us = subst (λ (n : ℕ). Reads (tuple_numbers es 0 cs) (drop n ws)) long
      (reads_right start (tuple_numbers es 0 cs) ws h) in
      let tuples : Tuples es 0 cs k us = tuples_read es 0 cs us r.words behind in
      let room : 0 + length cs ≤ product es = omega (arith, r.entries, size_product ds vs) in
      let found = subst (λ (n : ℕ). runs k (tuple_finding es) (suc n) us ≡ fine) wide
      (tuples_found es positive tuples) in
      let once = subst (λ (n : ℕ). repeated_tuple (tuples_of k n us) ≡ false) wide
      (tuples_once es positive room tuples) in
      let costs : with_tuples k es us (replicate (size_of ds vs) 0) ≡ cs =
      subst (λ (n : ℕ). with_tuples k es us (replicate n 0) ≡ cs) r.entries
      (tuples_costs es positive [] refl room tuples) in (
        function_found vs 0 k ws first ds r.arity r.distinct (omega arith) (rw some) found once,
        function_table_lem vs 0 k ws first ds ∙ ap (over vs) costs,
        function_width_lem vs 0 k ws first
            ∙ rw some (omega (
              arith,
              length-append start (tuple_numbers es 0 cs),
              tuples_width es 0 cs,
              ap (λ (n : ℕ). k * suc n) wide,
            )),
      )

  over_back : (vs cs : List ℕ) (ws : Words) → TableRules 1 ds (over vs cs) → Reads (function_numbers ds (over vs cs)) ws
      → Back ds (over vs cs) ws
  unfolding function_numbers
  over_back [] cs ws r h = constant_back cs ws r h
  over_back (v ∷ vs) cs ws r h =
      let some = eqb-suc-zero (length vs) in
      variables_back (v ∷ vs) cs ws r some (rw some at h)

  function_back : (t : Table) (ws : Words) → TableRules 1 ds t → Reads (function_numbers ds t) ws → Back ds t ws
  unfolding function_numbers
  function_back t ws r h =
      let same : over t.scope t.costs ≡ t =
      λ i. record { objective = first i; scope = t.scope; costs = t.costs } in
      subst (λ (u : Table). TableRules 1 ds u → Reads (function_numbers ds u) ws → Back ds u ws) same
      (over_back t.scope t.costs ws) r h
    where
      first : 0 ≡ t.objective
      first = omega (arith, r.owner)

  -- ## all functions

  pub functions_back : (ts : List Table) (ws : Words) → All (TableRules 1 ds) ts → Reads (functions_numbers ds ts) ws
      → drop (length (functions_numbers ds ts)) ws ≡ []
      → (functions_finding (length ts) ds ws ≡ fine) × (function_tables (length ts) ds ws ≡ ts)
  unfolding functions_numbers functions_finding function_tables and_then
  functions_back [] ws r h e = (rw e, refl)
  functions_back (t ∷ ts) ws r h e =
      let xs = function_numbers ds t in
      let ys = functions_numbers ds ts in
      let one = function_back t ws r.0 (reads_left xs ys ws h) in
      let us = drop (function_width ws) ws in
      let here : Reads ys us = subst (λ (n : ℕ). Reads ys (drop n ws)) (sym one.2) (reads_right xs ys ws h) in
      let after : drop (length ys) us ≡ [] = drop-drop (length ys) (function_width ws) ws
      ∙ rw (one.2, ← length-append xs ys) e in
      let more = functions_back ts us r.1 here after in
      (rw one.0 more.0, λ i. one.1 i ∷ more.1 i)
