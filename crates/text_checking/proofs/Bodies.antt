-- The whole behind the name: the head, the domain sizes, whether the largest is met, and the functions.
use mathlib.Core.Path.{◌≡◌, sym, ap, subst, ◌∙◌}
use mathlib.Core.Bool.{true, false, not}
use mathlib.Core.List.{List, [], ◌∷◌, ◌++◌}
use Prim.Native.Nat.{ℕ, zero, suc, ◌+◌, ◌*◌, ◌≤◌, ◌<◌, min}
use native.Mathlib.Omega.{arith}
use lib.Dec.{eqb}
use lib.ListN.{length, drop, length-append}
use lib.Seq.{drop-drop}
use borrow.Author.Tests.{ltb-false}
use Rattle.model.specs.Basics.{All}
use Rattle.model.specs.Limits.{max_variables, max_tables, max_domain}
use Rattle.model.specs.Problems.{DomainSize}
use Rattle.model.specs.Encoding.{two_bytes, word_bytes, head_bytes, domain_bytes, tables_bytes, encode}
use Rattle.model.proofs.Words.{length_word_bytes}
use Rattle.model.proofs.DomainRecords.{length_domain_bytes}
use Rattle.text_words.specs.Reads.{words_at, cap_end}
use Rattle.text_networks.specs.Findings.{Words, Finding, fine, dialect, stop, fault, and_then, find_if, term_at}
use Rattle.text_networks.specs.Findings.{value_at, values_in, runs}
use Rattle.text_networks.specs.Networks.{variables_finding, largest_finding, functions_number, bound_finding}
use Rattle.text_networks.specs.Networks.{size_finding}
use Rattle.text_networks.specs.Networks.{largest_of, functions_in, functions_finding, function_tables}
use Rattle.text_networks.specs.Networks.{network_finding, ceiling_for, network_problem}
use Rattle.text_networks.proofs.FineWords.{both_fine, test_fine, field_fine, inside_fine}
use Rattle.text_networks.proofs.FineTables.{values_count}
use Rattle.text_checking.specs.declared.Found.{Found}
use Rattle.text_checking.specs.declared.Found.TheVariants.{Nothing, Fault}
use Rattle.text_checking.specs.Codes.{rank, found_of, both}
use Rattle.text_checking.specs.Sizes.{domains_at, Indexed}
use Rattle.text_checking.specs.Steps.{HeadSays, SizesSays, FunctionsSays, BodySays, head_finding}
use Rattle.text_checking.specs.declared.Declared as DD
use Rattle.text_checking.specs.declared.Sizes as DM
use Rattle.text_checking.specs.declared.Head as DH
use Rattle.text_checking.specs.declared.Body as DB
use Rattle.text_checking.proofs.Codes.{both_fault, both_heavy, both_none, both_assoc, both_zero, both_second}
use Rattle.text_checking.proofs.Codes.{found_both, found_fine}
use Rattle.text_checking.proofs.Filling.{values_at}
use Rattle.text_checking.proofs.Caps.{words_short, runs_capped, runs_exact, size_end}
use Rattle.text_checking.proofs.Functions.{then_assoc}
use Rattle.text_checking.proofs.FunctionRuns.{functions_capped}

-- ## nothing is found

sizes_fine : (most n : ℕ) (ws : Words) → runs n (λ us. size_finding most (term_at 0 us)) 1 ws ≡ fine
    → All DomainSize (values_in n ws)
unfolding runs values_in
sizes_fine most zero ws h = tt
sizes_fine most (suc n) ws h =
    let (first, more) = both_fine _ _ h in
    let (low, inside) = both_fine _ _ (field_fine stop _ (term_at 0 ws) tt first) in
    (inside_fine max_domain (value_at 0 ws) (test_fine _ dialect tt inside), sizes_fine most n (drop 1 ws) more)

head_fine : (ws : Words) → head_finding ws ≡ fine → (value_at 0 ws ≤ 24) × (value_at 2 ws ≤ 256)
unfolding head_finding
head_fine ws h =
    let (sizes, costs) = both_fine _ _ h in
    let (variables, largest) = both_fine _ _ sizes in
    let (functions, bound) = both_fine _ _ costs in (
      (inside_fine max_variables (value_at 0 ws)
          (test_fine _ dialect tt (field_fine fault _ (term_at 0 ws) tt variables))).1,
      ltb-false max_tables (value_at 2 ws) (test_fine _ dialect tt (field_fine fault _ (term_at 2 ws) tt functions)),
    )

-- ## the findings in order

module _ (name : List ℕ) (ws : Words) where
  abbrev n : ℕ
  n = value_at 0 ws

  abbrev most : ℕ
  most = value_at 1 ws

  abbrev ds : List ℕ
  ds = values_in n (drop 4 ws)

  abbrev sizes : Finding
  sizes = runs n (λ us. size_finding most (term_at 0 us)) 1 (drop 4 ws)

  abbrev met : Finding
  met = find_if (not (eqb (largest_of ds) most)) fault

  abbrev functions : Finding
  functions = functions_finding (value_at 2 ws) ds (drop (4 + n) ws)

  functions_place : functions_in (name ∷ ws) ≡ drop (4 + n) ws
  functions_place =
      let e : 5 + n ≡ suc (4 + n) = omega arith in
      ap (λ (k : ℕ). drop k (name ∷ ws)) e

  network_parts : network_finding (name ∷ ws) ≡ and_then (head_finding ws) (and_then sizes (and_then met functions))
  unfolding network_finding head_finding
  network_parts =
      let rest : Finding = and_then sizes (and_then met functions) in
      let a : Finding = variables_finding (term_at 0 ws) in
      let b : Finding = largest_finding (term_at 1 ws) in
      let c : Finding = functions_number (term_at 2 ws) in
      let d : Finding = bound_finding (term_at 3 ws) in
      let order : and_then (and_then (and_then a b) (and_then c d)) rest
      ≡ and_then a (and_then b (and_then c (and_then d rest))) =
      then_assoc (and_then a b) (and_then c d) rest
      ∙ then_assoc a b (and_then (and_then c d) rest)
      ∙ ap (λ (f : Finding). and_then a (and_then b f)) (then_assoc c d rest) in
      rw functions_place (sym order)

  pub network_code : found_of (network_finding (name ∷ ws))
      ≡ both (both (found_of (head_finding ws)) (found_of sizes)) (both (found_of met) (found_of functions))
  network_code =
      ap found_of network_parts
      ∙ found_both (head_finding ws) (and_then sizes (and_then met functions))
      ∙ ap (both (found_of (head_finding ws)))
      (found_both sizes (and_then met functions) ∙ ap (both (found_of sizes)) (found_both met functions))
      ∙ sym (both_assoc (found_of (head_finding ws)) (found_of sizes) (both (found_of met) (found_of functions)))

  -- the records of the problem
  pub network_bytes : length (encode (network_problem (name ∷ ws)))
      ≡ 10 + 3 * n + length (tables_bytes (function_tables (value_at 2 ws) ds (drop (4 + n) ws)))
  unfolding network_problem encode head_bytes two_bytes
  network_bytes =
      let front : List ℕ = word_bytes (ceiling_for (value_at 3 ws) ∷ []) in
      let tables : List ℕ = tables_bytes (function_tables (value_at 2 ws) ds (drop (4 + n) ws)) in
      rw functions_place
      (omega (
        arith,
        length-append (front ++ domain_bytes ds) tables,
        length-append front (domain_bytes ds),
        length_word_bytes (ceiling_for (value_at 3 ws) ∷ []),
        length_domain_bytes ds,
        values_count n (drop 4 ws),
      ))

-- ## the head decides

pub head_decides : {s : List ℕ} {at : ℕ} {head : DH.Head} → HeadSays s at head → 2 ≤ rank head.finding
    → BodySays s at (record { finding = head.finding; bytes = 0 })
head_decides {s} {at} {head} says h =
    let heavy : 2 ≤ rank (found_of (head_finding (words_at s at))) = omega (arith, ap rank says.finding) in
    record {
      finding = λ name.
          let one =
          both_heavy (found_of (head_finding (words_at s at))) (found_of (sizes name (words_at s at))) heavy in
          says.finding ∙ sym (network_code name (words_at s at) ∙ rw one (both_heavy _ _ heavy));
      bytes = λ z. absurd (omega (arith, ap rank z));
    }

-- ## the domain sizes are read

abbrev declared_in : DH.Head → DD.Declared
declared_in head = record { variables = head.variables; sizes = head.next }

module _ {s : List ℕ} {at : ℕ} {head : DH.Head} (says : HeadSays s at head) (light : rank head.finding < 2)
    (short : length s < 18446744073709551616) (index : List ℕ) (stated : ℕ)
    (same : stated ≡ value_at 1 (words_at s at)) (sized : DM.Sizes)
    (read : SizesSays s head.next head.variables stated index sized) (total : Found)
    (sum : total ≡ both head.finding sized.finding) where
  abbrev ws : Words
  ws = words_at s at

  abbrev count : ℕ
  count = value_at 0 ws

  abbrev f : Words → Finding
  f us = size_finding (value_at 1 ws) (term_at 0 us)

  abbrev domains : List ℕ
  domains = values_in count (drop 4 ws)

  few : length (drop 4 ws) < cap_end
  few = subst (λ (l : Words). length l < cap_end) says.words (words_short s head.next short)

  capped : sized.finding ≡ found_of (runs (min count cap_end) f 1 (drop 4 ws))
  capped = read.step.finding ∙ rw (same, says.variables, says.words)

  sizes_code : sized.finding ≡ found_of (runs count f 1 (drop 4 ws))
  sizes_code = capped ∙ runs_capped f 0 (size_end (value_at 1 ws)) count (drop 4 ws) few

  total_code : total ≡ both (found_of (head_finding ws)) (found_of (runs count f 1 (drop 4 ws)))
  total_code = sum ∙ rw (says.finding, sizes_code)

  all_code : (name : List ℕ) → found_of (network_finding (name ∷ ws))
      ≡ both total (both (found_of (met name ws)) (found_of (functions name ws)))
  all_code name = network_code name ws ∙ rw (← total_code)

  pub body_decided : 2 ≤ rank total → BodySays s at (record { finding = total; bytes = 0 })
  body_decided h =
      record {
        finding = λ name. sym (all_code name ∙ both_heavy total _ h);
        bytes = λ z. absurd (omega (arith, ap rank z));
      }

  module _ (l : rank total < 2) where
    sizes_light : rank sized.finding < 2
    sizes_light = both_second head.finding sized.finding (rw sum at l)

    exact : head.variables ≡ count
    exact =
        says.variables
        ∙ runs_exact f 0 (size_end (value_at 1 ws)) count (drop 4 ws) few (rw capped at sizes_light)

    domains_same : domains_at s (declared_in head) ≡ domains
    domains_same = rw (exact, says.words)

    met_same : sized.met ≡ eqb (largest_of domains) (value_at 1 ws)
    met_same = read.met sizes_light ∙ rw (exact, says.words, same)

    behind : words_at s sized.next ≡ drop (4 + count) ws
    behind = read.step.words sizes_light ∙ rw (exact, says.words) (drop-drop count 4 ws)

    pub body_unmet : sized.met ≡ false → BodySays s at (record { finding = Fault; bytes = 0 })
    unfolding found_of
    body_unmet e =
        let unmet : eqb (largest_of domains) (value_at 1 ws) ≡ false = sym met_same ∙ e in
        record {
          finding = λ name.
              sym (all_code name
              ∙ rw unmet
              (ap (both total) (both_heavy Fault (found_of (functions name ws)) (omega arith)) ∙ both_fault total l));
          bytes = λ z. absurd (cc);
        }

    pub index_says : Indexed s (declared_in head) index
    index_says =
        record {
          within = says_within;
          few = omega (arith, says.variables);
          held = λ v inside room.
              read.held sizes_light v inside room
              ∙ sym (values_at head.variables (words_at s head.next) v inside);
        }
      where
        says_within : head.next ≤ length s
        says_within = says.within

    pub plain_limits : (front : ℕ) → (head.variables ≤ 24 → front ≡ 10 + 3 * head.variables) → total ≡ Nothing
        → All DomainSize (domains_at s (declared_in head)) × (head.functions ≤ 256) × (front ≤ 82)
    plain_limits front add z =
        let (first, second) = both_zero head.finding sized.finding (sym sum ∙ z) in
        let (variables, tables) = head_fine ws (found_fine _ (sym says.finding ∙ first)) in
        let n : head.variables ≤ 24 = omega (arith, exact) in (
          rw domains_same (sizes_fine (value_at 1 ws) count (drop 4 ws) (found_fine _ (sym sizes_code ∙ second))),
          omega (arith, says.functions),
          omega (arith, add n),
        )

    pub body_says : (front : ℕ) → (head.variables ≤ 24 → front ≡ 10 + 3 * head.variables) → sized.met ≡ true
        → (r : DB.Body)
        → FunctionsSays s (record { finding = total; next = sized.next }) head.functions front (declared_in head) r
        → BodySays s at r
    unfolding found_of
    body_says front add e r found =
        let right : eqb (largest_of domains) (value_at 1 ws) ≡ true = sym met_same ∙ e in
        let tables : ℕ = value_at 2 ws in
        let us : Words = drop (4 + count) ws in
        let short-rest : length us < cap_end = subst (λ (v : Words). length v < cap_end) behind
        (words_short s sized.next short) in
        let here : r.finding ≡ both total (found_of (functions_finding tables domains us)) =
        found.finding
        ∙ rw (domains_same, behind, says.functions)
        (ap (both total) (functions_capped domains tables us short-rest)) in
        record {
          finding = λ name. here ∙ sym (all_code name ∙ rw right (ap (both total) (both_none _)));
          bytes = λ z name.
              let none = (both_zero total _ (sym here ∙ z)).0 in
              let (first, second) = both_zero head.finding sized.finding (sym sum ∙ none) in
              let (variables, limit) = head_fine ws (found_fine _ (sym says.finding ∙ first)) in
              let all : head.functions ≡ tables = omega (arith, says.functions) in
              let start : front ≡ 10 + 3 * count = rw (← exact) (add (omega (arith, exact))) in
              found.bytes z ∙ rw (domains_same, behind, all, start) (sym (network_bytes name ws));
        }
