-- How long a problem's text is: four bytes of the records become seventeen of the text at most.
use mathlib.Core.Path.{◌≡◌, sym, ◌∙◌}
use mathlib.Core.List.{List, [], ◌∷◌, ◌++◌}
use Prim.Native.Nat.{ℕ, suc, ◌+◌, ◌*◌, ◌^◌, ◌≤◌, ◌<◌}
use native.Mathlib.Omega.{arith}
use lib.Dec.{eqb}
use lib.ListN.{length, get_or, length-append, length-map}
use Rattle.model.specs.Basics.{pick, All}
use Rattle.model.specs.Limits.{max_domain, max_variables, max_arity}
use Rattle.model.specs.Problems.{Table, Problem, Word, DomainSize, TableRules, RecordRules}
use Rattle.model.specs.Encoding.{two_bytes, word_bytes, head_bytes, domain_bytes, table_bytes, tables_bytes, encode}
use Rattle.model.proofs.Bits.{pick_both}
use Rattle.model.proofs.Elements.{all_at, all_map}
use Rattle.model.proofs.Words.{length_word_bytes}
use Rattle.model.proofs.DomainRecords.{length_domain_bytes}
use Rattle.text_words.specs.Texts.{space, line_feed, decimal, spaced, line}
use Rattle.text_networks.specs.Networks.{max_bound, sizes_over, largest_of}
use Rattle.text_networks.specs.NetworkTexts.{nonzero, entry_values, tuple_lines, function_text, functions_text}
use Rattle.text_networks.specs.NetworkTexts.{upper_bound_of, head_text, text_of}
use Rattle.text_networks.specs.Statements.{Writable}
use Rattle.text_networks.proofs.Digits.{decimal_few}
use Rattle.text_networks.proofs.TextNumbers.{start_numbers, head_numbers}
use Rattle.text_networks.proofs.FunctionWords.{scope_range}
use Rattle.text_networks.proofs.Entries.{entry_length}
use Rattle.text_networks.proofs.NumberSizes.{nonzero_few, entry_small, scope_sizes_lem, costs_few, domains_small}

-- ## lines

-- behind each number stands one byte
line_long : (xs : List ℕ) → 1 ≤ length xs → length (line xs) ≡ length (spaced xs)
unfolding line spaced
line_long [] l = absurd (omega arith)
line_long (x ∷ []) l =
    length-append (decimal x) (line_feed ∷ []) ∙ sym (length-append (decimal x) (space ∷ []))
line_long (x ∷ y ∷ xs) l =
    omega (
      arith,
      length-append (decimal x) (space ∷ line (y ∷ xs)),
      length-append (decimal x) (space ∷ spaced (y ∷ xs)),
      line_long (y ∷ xs) (omega arith),
    )

spaced_both : (xs ys : List ℕ) → length (spaced (xs ++ ys)) ≡ length (spaced xs) + length (spaced ys)
unfolding spaced
spaced_both [] ys = omega arith
spaced_both (x ∷ xs) ys =
    omega (
      arith,
      length-append (decimal x) (space ∷ spaced (xs ++ ys)),
      length-append (decimal x) (space ∷ spaced xs),
      spaced_both xs ys,
    )

spaced_one : (k x : ℕ) (xs : List ℕ) → x < 10 ^ suc k → length (spaced (x ∷ xs)) ≤ k + 2 + length (spaced xs)
unfolding spaced
spaced_one k x xs h = omega (arith, length-append (decimal x) (space ∷ spaced xs), decimal_few k x h)

spaced_few : (k : ℕ) (xs : List ℕ) → All (λ x. x < 10 ^ suc k) xs → length (spaced xs) ≤ (k + 2) * length xs
unfolding spaced
spaced_few k [] h = omega arith
spaced_few k (x ∷ xs) h = omega (arith, spaced_one k x xs h.0, spaced_few k xs h.1)

-- ## an entry has a line of at most seventeen bytes

module _ (ds : List ℕ) (sizes : All DomainSize ds) (few : length ds ≤ max_arity) where
  tuple_short : (i c : ℕ) → Word c → length (line (entry_values ds i ++ (c ∷ []))) ≤ 17
  unfolding spaced
  tuple_short i c w =
      let xs = entry_values ds i in
      let digits : All (λ x. x < 10 ^ 1) xs = all_map (λ x. x < max_domain) (λ x. x < 10 ^ 1) (λ x l. omega arith) xs
      (entry_small ds i sizes) in
      omega (
        arith,
        line_long (xs ++ (c ∷ [])) (omega (arith, length-append xs (c ∷ []))),
        spaced_both xs (c ∷ []),
        spaced_few 0 xs digits,
        spaced_one 9 c [] (omega arith),
        entry_length ds i,
      )

  tuples_short : (i : ℕ) (cs : List ℕ) → All Word cs → length (tuple_lines ds i cs) ≤ 17 * length cs
  unfolding tuple_lines
  tuples_short i [] w = omega arith
  tuples_short i (c ∷ cs) w =
      let tuple = line (entry_values ds i ++ (c ∷ [])) in
      let one : length (pick (eqb c 0) [] tuple) ≤ 17 =
      pick_both (λ s. length s ≤ 17) (eqb c 0) {a = []} {b = tuple} (omega arith) (tuple_short i c w.0) in
      omega (
        arith,
        length-append (pick (eqb c 0) [] tuple) (tuple_lines ds (suc i) cs),
        tuples_short (suc i) cs w.1,
      )

-- ## functions

pub table_long : (t : Table) → length (table_bytes t) ≡ 4 + length t.scope + 4 * length t.costs
unfolding table_bytes
table_long t = omega (arith, length-append t.scope (word_bytes t.costs), length_word_bytes t.costs)

module _ (ds : List ℕ) (sizes : All DomainSize ds) (p : ℕ) (few : length ds ≤ max_variables) where
  module _ (t : Table) (r : TableRules p ds t) where
    constant_short : length (line (0 ∷ get_or t.costs 0 0 ∷ 0 ∷ [])) ≤ 15
    unfolding spaced
    constant_short =
        let c = get_or t.costs 0 0 in
        let word : Word c = all_at Word t.costs r.words 0 0 (omega arith) in
        omega (
          arith,
          line_long (0 ∷ c ∷ 0 ∷ []) (omega arith),
          spaced_one 0 0 (c ∷ 0 ∷ []) (omega arith),
          spaced_one 9 c (0 ∷ []) (omega arith),
          spaced_one 0 0 [] (omega arith),
        )

    start_short : length (line (start_numbers t.scope 0 (nonzero t.costs))) ≤ 8 + 3 * length t.scope
    unfolding spaced
    start_short =
        let vs = t.scope in
        let k = nonzero t.costs in
        let scope : All (λ v. v < 10 ^ 2) vs = all_map (λ v. v < length ds) (λ v. v < 10 ^ 2) (λ v l. omega arith) vs
        (scope_range (length ds) vs r.distinct) in
        let count : k < 10 ^ 3 = omega (arith, nonzero_few t.costs, costs_few ds sizes p t r) in
        omega (
          arith,
          line_long (start_numbers vs 0 k) (omega arith),
          spaced_one 0 (length vs) (vs ++ (0 ∷ k ∷ [])) (omega (arith, r.arity)),
          spaced_both vs (0 ∷ k ∷ []),
          spaced_few 1 vs scope,
          spaced_one 0 0 (k ∷ []) (omega arith),
          spaced_one 2 k [] count,
        )

    function_short : 4 * length (function_text ds t) ≤ 17 * length (table_bytes t)
    unfolding function_text
    function_short =
        let vs = t.scope in
        let whole = line (0 ∷ get_or t.costs 0 0 ∷ 0 ∷ []) in
        let start = line (start_numbers vs 0 (nonzero t.costs)) in
        let tuples = tuple_lines (sizes_over ds vs) 0 t.costs in
        let arity : length (sizes_over ds vs) ≤ max_arity = rw length-map r.arity in
        let entries = tuples_short (sizes_over ds vs) (scope_sizes_lem ds sizes p t r) arity 0 t.costs r.words in
        pick_both (λ s. 4 * length s ≤ 17 * length (table_bytes t)) (eqb (length vs) 0) {a = whole}
        {b = start ++ tuples}
        (omega (arith, constant_short, table_long t))
        (omega (arith, length-append start tuples, start_short, entries, table_long t))

  functions_short : (ts : List Table) → All (TableRules p ds) ts
      → 4 * length (functions_text ds ts) ≤ 17 * length (tables_bytes ts)
  unfolding functions_text tables_bytes
  functions_short [] r = omega arith
  functions_short (t ∷ ts) r =
      omega (
        arith,
        length-append (function_text ds t) (functions_text ds ts),
        length-append (table_bytes t) (tables_bytes ts),
        function_short t r.0,
        functions_short ts r.1,
      )

-- ## the whole text

module _ (q : Problem) (r : RecordRules q) where
  head_short : upper_bound_of q ≤ max_bound → length (head_text q) ≤ 22
  unfolding head_text spaced
  head_short bounded =
      let ds = q.domains in
      let bound = upper_bound_of q in
      let most : largest_of ds ≤ max_domain = domains_small ds r.domain_sizes in
      omega (
        arith,
        line_long (head_numbers q) (omega arith),
        spaced_one 1 (length ds) (largest_of ds ∷ length q.tables ∷ bound ∷ []) (omega (arith, r.few_variables)),
        spaced_one 0 (largest_of ds) (length q.tables ∷ bound ∷ []) (omega arith),
        spaced_one 2 (length q.tables) (bound ∷ []) (omega (arith, r.few_tables)),
        spaced_one 9 bound [] (omega arith),
      )

  domains_short : length (line q.domains) ≤ 2 * length q.domains
  domains_short =
      let ds = q.domains in
      let digits : All (λ d. d < 10 ^ 1) ds = all_map DomainSize (λ d. d < 10 ^ 1) (λ d s. omega arith) ds
      r.domain_sizes in
      omega (arith, line_long ds r.some_variable, spaced_few 0 ds digits)

  head_long : 6 ≤ length (head_bytes q)
  unfolding head_bytes two_bytes
  head_long = omega arith

-- four bytes of the records are seventeen bytes of the text at most
pub text_length : (q : Problem) → Writable q → 4 * length (text_of q) ≤ 17 * length (encode q)
unfolding text_of encode
text_length q w =
    let r = w.formed.rules in
    let ds = q.domains in
    let functions = functions_text ds q.tables in
    omega (
      arith,
      length-append (head_text q) (line ds ++ functions),
      length-append (line ds) functions,
      length-append (head_bytes q ++ domain_bytes ds) (tables_bytes q.tables),
      length-append (head_bytes q) (domain_bytes ds),
      length_domain_bytes ds,
      head_short q r w.bounded,
      head_long q r,
      domains_short q r,
      functions_short ds r.domain_sizes q.objectives r.few_variables q.tables r.table_rules,
    )
