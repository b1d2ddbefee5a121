-- A function as its arity and what is behind it, and the bytes of its record.
use mathlib.Core.Path.{◌≡◌, refl, sym, ap, subst, ◌∙◌}
use mathlib.Core.Logic.{⊎_elim}
use mathlib.Core.List.{List, []}
use Prim.Native.Nat.{ℕ, suc, ◌+◌, ◌*◌, ◌≤◌, ◌<◌, min}
use native.Mathlib.Omega.{arith}
use lib.ListN.{length, get_or, drop, replicate, length-map, length-replicate, length-append}
use lib.Seq.{drop-drop, get_or-drop}
use borrow.Author.Tests.{ltb-false}
use Rattle.model.specs.Limits.{max_arity}
use Rattle.model.specs.Problems.{size_of}
use Rattle.model.specs.Encoding.{table_bytes, word_bytes}
use Rattle.model.proofs.Words.{length_word_bytes}
use Rattle.text_words.specs.Reads.{words_at, cap_end, NumberSays}
use Rattle.text_words.specs.declared.Number as DN
use Rattle.text_networks.specs.Findings.{Words, Finding, fine, dialect, stop, fault, and_then, find_if, term_at}
use Rattle.text_networks.specs.Findings.{value_at}
use Rattle.text_networks.specs.Findings.{values_in, runs}
use Rattle.text_networks.specs.Networks.{repeated, repeated_tuple, arity_finding, declared_finding, cost_finding}
use Rattle.text_networks.specs.Networks.{count_finding}
use Rattle.text_networks.specs.Networks.{arity_in, scope_in, default_in, count_in, tuples_in, function_width}
use Rattle.text_networks.specs.Networks.{sizes_over}
use Rattle.text_networks.specs.Networks.{tuple_finding, tuples_of, function_finding, with_tuples, function_table}
use Rattle.text_networks.proofs.FineTables.{costs_count}
use Rattle.text_networks.proofs.Entries.{product, size_product}
use Rattle.text_networks.proofs.FineWords.{test_fine, field_fine}
use Rattle.text_checking.specs.declared.Found.{Found}
use Rattle.text_checking.specs.declared.Found.TheVariants.{Nothing}
use Rattle.text_checking.specs.Codes.{rank, found_of, both}
use Rattle.text_checking.specs.Sizes.{domains_at}
use Rattle.text_checking.specs.Steps.{front_finding, tuples_finding, over_finding, record_bytes, OverSays}
use Rattle.text_checking.specs.Steps.{FunctionSays}
use Rattle.text_checking.specs.declared.Declared as DD
use Rattle.text_checking.specs.declared.Function as DU
use Rattle.text_checking.proofs.Codes.{lt_or_ge, both_heavy, both_assoc, both_second, both_zero, found_both}
use Rattle.text_checking.proofs.Codes.{none_light, found_fine}
use Rattle.text_checking.proofs.Caps.{words_short, runs_heavy, runs_capped, declared_end}

-- ## the findings in order

pub then_assoc : (a b c : Finding) → and_then (and_then a b) c ≡ and_then a (and_then b c)
unfolding and_then
then_assoc fine b c = refl
then_assoc dialect fine c = refl
then_assoc dialect dialect fine = refl
then_assoc dialect dialect dialect = refl
then_assoc dialect dialect stop = refl
then_assoc dialect dialect fault = refl
then_assoc dialect stop c = refl
then_assoc dialect fault c = refl
then_assoc stop b c = refl
then_assoc fault b c = refl

then_four : (a b c d e : Finding)
    → and_then (and_then a (and_then b (and_then c d))) e ≡ and_then a (and_then b (and_then c (and_then d e)))
then_four a b c d e =
    then_assoc a (and_then b (and_then c d)) e
    ∙ ap (and_then a) (then_assoc b (and_then c d) e ∙ ap (and_then b) (then_assoc c d e))

word_later : (ws : Words) (i j : ℕ) → 1 + i ≡ j → get_or ws j [] ≡ get_or (drop 1 ws) i []
word_later ws i j e = sym (get_or-drop 1 ws i [] ∙ ap (λ (n : ℕ). get_or ws n []) e)

module _ (ds : List ℕ) (ws : Words) where
  abbrev a : ℕ
  a = arity_in ws

  abbrev us : Words
  us = drop 1 ws

  cost_later : get_or ws (1 + a) [] ≡ get_or us a []
  cost_later = word_later ws a (1 + a) refl

  count_later : get_or ws (2 + a) [] ≡ get_or us (1 + a) []
  count_later = word_later ws (1 + a) (2 + a) (omega arith)

  tuples_later : drop (3 + a) ws ≡ drop (2 + a) us
  tuples_later =
      let e : 1 + (2 + a) ≡ 3 + a = omega arith in
      sym (drop-drop (2 + a) 1 ws ∙ ap (λ (n : ℕ). drop n ws) e)

  function_over : function_finding ds ws ≡ and_then (arity_finding (term_at 0 ws)) (over_finding ds a us)
  unfolding function_finding over_finding front_finding tuples_finding
  function_over =
      rw (cost_later, count_later, tuples_later)
      (ap (and_then (arity_finding (term_at 0 ws)))
      (sym (then_four (runs a (λ vs. declared_finding (length ds) (term_at 0 vs)) 1 us)
      (find_if (repeated (values_in a us)) dialect) (cost_finding (term_at a us)) (count_finding a (term_at (1 + a) us))
      (and_then (runs (value_at (1 + a) us) (tuple_finding (sizes_over ds (values_in a us))) (suc a) (drop (2 + a) us))
      (find_if (repeated_tuple (tuples_of (value_at (1 + a) us) a (drop (2 + a) us))) dialect)))))

  width_later : drop (2 + a + value_at (1 + a) us * suc a) us ≡ drop (function_width ws) ws
  width_later =
      let e : 1 + (2 + a + value_at (1 + a) us * suc a) ≡ function_width ws = rw count_later (omega arith) in
      drop-drop (2 + a + value_at (1 + a) us * suc a) 1 ws ∙ ap (λ (n : ℕ). drop n ws) e

  -- ## the bytes

  table_bytes_lem : length (table_bytes (function_table ds ws)) ≡ record_bytes (sizes_over ds (scope_in ws))
  unfolding table_bytes function_table
  table_bytes_lem =
      let vs : List ℕ = scope_in ws in
      let front : List ℕ = replicate (size_of ds vs) (default_in ws) in
      let costs : List ℕ = with_tuples (count_in ws) (sizes_over ds vs) (tuples_in ws) front in
      let entries : length costs ≡ product (sizes_over ds vs) =
      costs_count (count_in ws) (sizes_over ds vs) (tuples_in ws) front
      ∙ length-replicate (size_of ds vs) (default_in ws)
      ∙ size_product ds vs in
      ap (λ (n : ℕ). suc (suc (suc (suc n)))) (length-append vs (word_bytes costs))
      ∙ omega (arith, length_word_bytes costs, entries, length-map vs (λ v. get_or ds v 0))

-- ## an arity above the cap

over_parts : (ds : List ℕ) (a : ℕ) (us : Words)
    → (x : Found) × (y : Found) × (found_of (over_finding ds a us)
    ≡ both (both (found_of (runs a (λ ws. declared_finding (length ds) (term_at 0 ws)) 1 us)) x) y)
unfolding over_finding front_finding
over_parts ds a us =
    let y : Found =
    found_of (tuples_finding (sizes_over ds (values_in a us)) a (value_at (1 + a) us) (drop (2 + a) us)) in
    (_, y, found_both _ _ ∙ ap (λ (n : Found). both n y) (found_both _ _))

module _ (ds : List ℕ) (a : ℕ) (us : Words) (short : length us < cap_end) where
  abbrev f : Words → Finding
  f ws = declared_finding (length ds) (term_at 0 ws)

  scope_heavy : (n : ℕ) → cap_end ≤ n → found_of (over_finding ds n us) ≡ found_of (runs n f 1 us)
  scope_heavy n h =
      let (x, y, e) = over_parts ds n us in
      let heavy = runs_heavy f 0 (declared_end (length ds)) n us (omega arith) in
      let one = both_heavy (found_of (runs n f 1 us)) x heavy in
      e ∙ rw one (both_heavy (found_of (runs n f 1 us)) y heavy)

  over_capped : found_of (over_finding ds (min a cap_end) us) ≡ found_of (over_finding ds a us)
  over_capped =
      ⊎_elim (λ (h : a < cap_end). let e : min a cap_end ≡ a = omega arith in rw e)
      (λ (h : cap_end ≤ a).
      scope_heavy (min a cap_end) (omega arith)
      ∙ runs_capped f 0 (declared_end (length ds)) a us short
      ∙ sym (scope_heavy a h)) (lt_or_ge a cap_end)

  over_exact : rank (found_of (over_finding ds (min a cap_end) us)) < 2 → min a cap_end ≡ a
  over_exact l =
      ⊎_elim (λ (h : a < cap_end). omega arith)
      (λ (h : cap_end ≤ a).
      let heavy = runs_heavy f 0 (declared_end (length ds)) (min a cap_end) us (omega arith) in
      absurd (omega (arith, ap rank (scope_heavy (min a cap_end) (omega arith))))) (lt_or_ge a cap_end)

-- ## the whole

module _ {s : List ℕ} {at : ℕ} {x : DN.Number} (says : NumberSays s at x) (found total code : Found)
    (arity : code ≡ found_of (arity_finding (term_at 0 (words_at s at)))) (sum : total ≡ both found code) where
  abbrev here : Words
  here = words_at s at

  pub arity_few : total ≡ Nothing → (found ≡ Nothing) × (x.value ≤ 3)
  arity_few z =
      let (before, now) = both_zero found code (sym sum ∙ z) in
      let fits = ltb-false max_arity (arity_in here)
      (test_fine _ dialect tt (field_fine stop _ (term_at 0 here) tt (found_fine _ (sym arity ∙ now)))) in
      (before, omega (arith, says.value))

  pub function_says : (d : DD.Declared) (r : DU.Function) → length s < 18446744073709551616
      → OverSays s (record { finding = total; next = x.end }) x.value d r → FunctionSays s found at d r
  function_says d r short over =
      let ds : List ℕ = domains_at s d in
      let n : ℕ = arity_in here in
      let after : Words = drop 1 here in
      let few : length after < cap_end = subst (λ (l : Words). length l < cap_end) says.rest
      (words_short s x.end short) in
      let behind : found_of (over_finding ds x.value (words_at s x.end))
      ≡ found_of (over_finding ds (min n cap_end) after) =
      rw (says.rest, says.value) in
      let exact : rank r.finding < 2 → x.value ≡ n =
      λ l.
      says.value
      ∙ over_exact ds n after few (rw behind at (both_second total _ (rw over.finding at l))) in
      record {
        finding =
            over.finding
            ∙ ap (both total) (behind ∙ over_capped ds n after few)
            ∙ rw (sum, arity) (both_assoc found _ _)
            ∙ ap (both found) (sym (ap found_of (function_over ds here) ∙ found_both _ _));
        within = over.within;
        words = λ l. over.words l ∙ rw (exact l, says.rest) (width_later ds here);
        bytes = λ z. over.bytes z ∙ rw (exact (none_light r.finding z), says.rest) (sym (table_bytes_lem ds here));
        small = over.small;
      }
