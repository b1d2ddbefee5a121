-- A problem with one objective, as text as it stands: nothing in the text is refused, and it holds that problem.
use mathlib.Core.Path.{◌≡◌, refl, sym, subst, ◌∙◌}
use mathlib.Core.Bool.{false}
use mathlib.Core.List.{List, [], ◌∷◌, ◌++◌, map, append-nil}
use Prim.Native.Nat.{ℕ, ◌+◌, ◌≤◌}
use native.Mathlib.Omega.{arith}
use lib.ListN.{length, get_or, drop, length-append, length-map, drop_of_length-le}
use lib.Seq.{drop-drop}
use borrow.Author.Tests.{le-ltb, eq-eqb, ne_eqb}
use Rattle.model.specs.Basics.{All}
use Rattle.model.specs.Limits.{max_bytes, max_variables, max_tables, max_domain}
use Rattle.model.specs.Refusals.{accepted}
use Rattle.model.specs.Problems.{Problem, DomainSize, TableRules, RecordRules}
use Rattle.model.specs.Encoding.{encode}
use Rattle.model.specs.Reading.{outside}
use Rattle.model.proofs.Elements.{all_map}
use Rattle.text_words.specs.Texts.{number, value_of, decimal, words_of}
use Rattle.text_networks.specs.Findings.{Words, fine, and_then, field, term_at, values_in, runs}
use Rattle.text_networks.specs.Networks.{max_bound, size_finding, functions_finding, largest_of}
use Rattle.text_networks.specs.Networks.{network_finding, function_tables, ceiling_for, network_problem}
use Rattle.text_networks.specs.NetworkTexts.{upper_bound_of, letter_p, text_of}
use Rattle.text_networks.specs.Conversions.{number_of, text_verdict}
use Rattle.text_networks.specs.Statements.{Writable}
use Rattle.text_networks.proofs.Lists.{one_only}
use Rattle.text_networks.proofs.TextNumbers.{functions_numbers, head_numbers, text_numbers, text_words}
use Rattle.text_networks.proofs.NumberWords.{Reads, reads_decimal, reads_left, reads_right, reads_at}
use Rattle.text_networks.proofs.NumberWords.{reads_values}
use Rattle.text_networks.proofs.NumberSizes.{numbers_fit}
use Rattle.text_networks.proofs.FunctionsBack.{functions_back}

-- ## domain sizes

inside : (limit x : ℕ) → 1 ≤ x → x ≤ limit → outside limit x ≡ false
inside limit x h k = rw (ne_eqb x 0 (λ e. omega arith)) (le-ltb limit x k)

sizes_found : (m : ℕ) (ds : List ℕ) (ws : Words) → All (λ d. d ≤ m) ds → All DomainSize ds → Reads ds ws
    → runs (length ds) (λ us. size_finding m (term_at 0 us)) 1 ws ≡ fine
unfolding runs and_then field
sizes_found m [] ws l s h = refl
sizes_found m (d ∷ ds) ws l s h =
    rw (h.0, le-ltb m d l.0, inside max_domain d s.0.0 s.0.1)
    (sizes_found m ds (drop 1 ws) l.1 s.1 h.1)

below_largest : (ds : List ℕ) → All (λ d. d ≤ largest_of ds) ds
unfolding largest_of
below_largest [] = tt
below_largest (d ∷ ds) =
    let m = largest_of (d ∷ ds) in
    (omega arith, all_map (λ e. e ≤ largest_of ds) (λ e. e ≤ m) (λ e l. omega arith) ds (below_largest ds))

-- ## the whole text

-- words that hold the numbers of q's text behind a name, and no more
module _ (q : Problem) (r : RecordRules q) (one : q.objectives ≡ 1) (bounded : upper_bound_of q ≤ max_bound)
    (name : List ℕ) (rest : Words) (h : Reads (text_numbers q) rest)
    (end : drop (length (text_numbers q)) rest ≡ []) where
  variables_term : term_at 1 (name ∷ rest) ≡ number (length q.domains)
  variables_term = h.0

  largest_term : term_at 2 (name ∷ rest) ≡ number (largest_of q.domains)
  largest_term = reads_at (text_numbers q) 1 rest h (omega arith)

  tables_term : term_at 3 (name ∷ rest) ≡ number (length q.tables)
  tables_term = reads_at (text_numbers q) 2 rest h (omega arith)

  bound_term : term_at 4 (name ∷ rest) ≡ number (upper_bound_of q)
  bound_term = reads_at (text_numbers q) 3 rest h (omega arith)

  body : Reads (q.domains ++ functions_numbers q.domains q.tables) (drop 4 rest)
  body = reads_right (head_numbers q) (q.domains ++ functions_numbers q.domains q.tables) rest h

  sizes_read : Reads q.domains (drop 4 rest)
  sizes_read = reads_left q.domains (functions_numbers q.domains q.tables) (drop 4 rest) body

  domains_back : values_in (length q.domains) (drop 4 rest) ≡ q.domains
  domains_back = reads_values q.domains (drop 4 rest) sizes_read

  tables_back :
      let us = drop (5 + length q.domains) (name ∷ rest) in
      (functions_finding (length q.tables) q.domains us ≡ fine)
      × (function_tables (length q.tables) q.domains us ≡ q.tables)
  tables_back =
      let ds = q.domains in
      let ys = functions_numbers ds q.tables in
      let here : drop (length ds) (drop 4 rest) ≡ drop (5 + length ds) (name ∷ rest) =
      drop-drop (length ds) 5 (name ∷ rest) in
      let rules : All (TableRules 1 ds) q.tables =
      subst (λ (p : ℕ). All (TableRules p ds) q.tables) one r.table_rules in
      let width : 4 + (length ds + length ys) ≡ length (text_numbers q) = omega (arith, length-append ds ys) in
      let after : drop (length ys) (drop (length ds) (drop 4 rest)) ≡ [] =
      drop-drop (length ys) (length ds) (drop 4 rest) ∙ drop-drop (length ds + length ys) 4 rest ∙ rw width end in
      rw (← here) (functions_back ds r.domain_sizes q.tables (drop (length ds) (drop 4 rest)) rules
      (reads_right ds ys (drop 4 rest) body) after)

  finding_fine : network_finding (name ∷ rest) ≡ fine
  unfolding network_finding value_of field and_then
  finding_fine =
      let ds = q.domains in
      rw (
        variables_term,
        largest_term,
        tables_term,
        bound_term,
        domains_back,
        inside max_variables (length ds) r.some_variable r.few_variables,
        le-ltb max_tables (length q.tables) r.few_tables,
        inside max_bound (upper_bound_of q) (omega arith) bounded,
        sizes_found (largest_of ds) ds (drop 4 rest) (below_largest ds) r.domain_sizes sizes_read,
        eq-eqb (largest_of ds) (largest_of ds) refl,
      )
      tables_back.0

  one_ceiling : ceiling_for (upper_bound_of q) ∷ [] ≡ q.ceilings
  one_ceiling =
      let same : ceiling_for (upper_bound_of q) ≡ get_or q.ceilings 0 0 = omega arith in
      rw same (one_only q.ceilings (omega (arith, r.ceiling_each)))

  problem_back : network_problem (name ∷ rest) ≡ q
  unfolding network_problem value_of
  problem_back =
      rw (variables_term, tables_term, bound_term, domains_back)
      (λ i. record { objectives = one' i; ceilings = one_ceiling i; domains = q.domains; tables = tables_back.1 i })
    where
      one' : 1 ≡ q.objectives
      one' = sym one

-- ## the text of a problem

module _ (q : Problem) (w : Writable q) where
  rest : Words
  rest = map decimal (text_numbers q)

  numbers_read : Reads (text_numbers q) rest
  unfolding rest
  numbers_read = subst (Reads (text_numbers q)) (append-nil (map decimal (text_numbers q)))
      (reads_decimal (text_numbers q) [] (numbers_fit q w.formed.rules w.bounded))

  no_more : drop (length (text_numbers q)) rest ≡ []
  unfolding rest
  no_more = drop_of_length-le rest {i = length (text_numbers q)} (omega (arith, length-map (text_numbers q) decimal))

  words_are : words_of (text_of q) ≡ (letter_p ∷ []) ∷ rest
  unfolding rest
  words_are = text_words q w.formed.rules.some_variable

  -- the problem that the text holds is the problem that was written
  pub text_problem : network_problem (words_of (text_of q)) ≡ q
  text_problem =
      rw words_are
      (problem_back q w.formed.rules w.one w.bounded (letter_p ∷ []) rest numbers_read no_more)

  -- nothing in the text is refused
  pub text_finding : network_finding (words_of (text_of q)) ≡ fine
  text_finding =
      rw words_are
      (finding_fine q w.formed.rules w.one w.bounded (letter_p ∷ []) rest numbers_read no_more)

  pub text_accepted : text_verdict (text_of q) ≡ accepted
  unfolding text_verdict and_then number_of
  text_accepted = rw (text_problem, text_finding, le-ltb max_bytes (length (encode q)) w.formed.short)
