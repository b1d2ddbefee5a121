-- A function behind its arity: what is found up to the number of tuples, and then in the tuples.
use mathlib.Core.Path.{◌≡◌, sym, ap, subst, ◌∙◌}
use mathlib.Core.List.{List, [], ◌∷◌, ◌++◌}
use Prim.Native.Nat.{ℕ, zero, suc, ◌+◌, ◌-◌, ◌*◌, ◌≤◌, ◌<◌, min}
use native.Mathlib.Omega.{arith}
use lib.Dec.{ltb}
use lib.ListN.{length, get_or, take, drop, length-map, length-take}
use lib.Seq.{drop-drop, ext_get_or, get_or-take}
use borrow.Author.Tests.{ltb-true, ltb-false, not-false}
use Rattle.model.specs.Basics.{All}
use Rattle.model.specs.Problems.{DomainSize, InRange}
use Rattle.text_words.specs.Texts.{Term, value_of}
use Rattle.text_words.specs.Reads.{words_at, cap_end}
use Rattle.text_networks.specs.Findings.{Words, fine, stop, fault, term_at, value_at, values_in, runs}
use Rattle.text_networks.specs.Networks.{declared_finding, count_finding, sizes_over}
use Rattle.text_networks.proofs.Lists.{map-append}
use Rattle.text_networks.proofs.Entries.{sizes_over_lem}
use Rattle.text_networks.proofs.FineWords.{both_fine, test_fine, field_fine}
use Rattle.text_networks.proofs.FineTables.{values_count}
use Rattle.text_checking.specs.declared.Found.{Found}
use Rattle.text_checking.specs.declared.Found.TheVariants.{Nothing}
use Rattle.text_checking.specs.Codes.{rank, found_of, both}
use Rattle.text_checking.specs.Sizes.{size_held, sizes_held, domains_at, scope_sizes}
use Rattle.text_checking.specs.Steps.{Holds, FrontSays, FarSays, TableSays, OverSays, Plain, record_bytes}
use Rattle.text_checking.specs.Steps.{front_finding, tuples_finding, over_finding}
use Rattle.text_checking.specs.declared.Step as DS
use Rattle.text_checking.specs.declared.Declared as DD
use Rattle.text_checking.specs.declared.Far as DF
use Rattle.text_checking.specs.declared.Counted as DC
use Rattle.text_checking.specs.declared.Function as DU
use Rattle.text_checking.proofs.Codes.{both_heavy, both_assoc, both_second, both_zero, found_both, found_fine}
use Rattle.text_checking.proofs.Codes.{none_light}
use Rattle.text_checking.proofs.Entries.{held_at}
use Rattle.text_checking.proofs.Filling.{values_at, values_split, map_at}
use Rattle.text_checking.proofs.Caps.{words_short, tuples_capped, tuples_exact}

-- ## nothing is found up to the number of tuples

scope_range : (n a : ℕ) (us : Words) → runs a (λ ws. declared_finding n (term_at 0 ws)) 1 us ≡ fine
    → InRange n (values_in a us)
unfolding runs values_in
scope_range n zero us h = tt
scope_range n (suc a) us h =
    let (first, more) = both_fine _ _ h in
    let x = value_at 0 us in (
      ltb-true x n (not-false (ltb x n) (test_fine _ fault tt (field_fine fault _ (term_at 0 us) tt first))),
      scope_range n a (drop 1 us) more,
    )

count_none : (t : Term) → count_finding 0 t ≡ fine → value_of t ≡ 0
count_none t h =
    let few = ltb-false 0 (value_of t) (test_fine _ fault tt (field_fine stop _ t tt h)) in
    omega arith

front_fine : (n a : ℕ) (us : Words) → front_finding n a us ≡ fine
    → InRange n (values_in a us) × (a ≡ 0 → value_at (1 + a) us ≡ 0)
unfolding front_finding
front_fine n a us h =
    let (scope, h₁) = both_fine _ _ h in
    let (once, h₂) = both_fine _ _ h₁ in
    let (cost, count) = both_fine _ _ h₂ in (
      scope_range n a us scope,
      λ z. count_none (term_at (1 + a) us) (subst (λ (b : ℕ). count_finding b (term_at (1 + a) us) ≡ fine) z count),
    )

-- ## the sizes of the scope

module _ (s : List ℕ) (at arity near : ℕ) (d : DD.Declared) (front scope : List ℕ)
    (room : near ≡ min arity (length front)) (long : length scope ≡ length front)
    (filled : Holds (λ k v. v ≡ value_at k (words_at s at)) arity front)
    (entries : (k : ℕ) → k < near → size_held s (get_or scope k 0) ≡ get_or (domains_at s d) (get_or front k 0) 0) where
  abbrev us : Words
  us = words_at s at

  abbrev ds : List ℕ
  ds = domains_at s d

  near_sizes : sizes_held s (take near scope) ≡ sizes_over ds (values_in near us)
  near_sizes =
      let one : length (sizes_held s (take near scope)) ≡ near =
      length-map (take near scope) (size_held s) ∙ length-take near scope ∙ omega arith in
      let two : length (sizes_over ds (values_in near us)) ≡ near =
      length-map (values_in near us) (λ v. get_or ds v 0) ∙ values_count near us in
      ext_get_or 0 (sizes_held s (take near scope)) (sizes_over ds (values_in near us)) (one ∙ sym two)
      (λ i h.
      let low : i < near = omega arith in
      held_at s (take near scope) i
      ∙ ap (size_held s) (get_or-take near scope i 0 low)
      ∙ entries i low
      ∙ ap (λ (v : ℕ). get_or ds v 0) (filled i (omega arith) (omega arith) ∙ sym (values_at near us i low))
      ∙ sym (map_at (λ v. get_or ds v 0) (values_in near us) i (omega (arith, values_count near us))))

  pub over_sizes : (far : DF.Far) → FarSays s at arity near far
      → scope_sizes s (take near scope) far d ≡ sizes_over ds (values_in arity us)
  over_sizes far says =
      let f : ℕ → ℕ = λ v. get_or ds v 0 in
      let all : near + (arity - near) ≡ arity = omega arith in
      ap (λ (l : List ℕ). l ++ sizes_over ds (values_in far.count (words_at s far.at))) near_sizes
      ∙ ap (λ (vs : List ℕ). sizes_over ds (values_in near us) ++ sizes_over ds vs) says.values
      ∙ sym (map-append (λ v. get_or ds v 0) (values_in near us) (values_in (arity - near) (drop near us)))
      ∙ ap (sizes_over ds) (sym (values_split near (arity - near) us) ∙ ap (λ (n : ℕ). values_in n us) all)

-- ## the whole

module _ (s : List ℕ) (start : DS.Step) (arity : ℕ) (d : DD.Declared) (front : List ℕ) (counted : DC.Counted)
    (says : FrontSays s start arity d.variables front counted) where
  abbrev vs : Words
  vs = words_at s start.next

  abbrev sizes : List ℕ
  sizes = sizes_over (domains_at s d) (values_in arity vs)

  abbrev tuples : Found
  tuples = found_of (tuples_finding sizes arity (value_at (1 + arity) vs) (drop (2 + arity) vs))

  over_code : both start.finding (found_of (over_finding (domains_at s d) arity vs)) ≡ both counted.finding tuples
  unfolding over_finding
  over_code =
      let n = values_count d.variables (words_at s d.sizes) in
      let f : Found = found_of (front_finding d.variables arity vs) in
      let parts : found_of (over_finding (domains_at s d) arity vs) ≡ both f tuples = found_both _ _ ∙ rw n in
      ap (both start.finding) parts
      ∙ sym (both_assoc start.finding f tuples)
      ∙ ap (λ (k : Found). both k tuples) (sym says.finding)

  pub over_decided : 2 ≤ rank counted.finding
      → OverSays s start arity d (record { finding = counted.finding; next = counted.next; bytes = 0 })
  over_decided h =
      record {
        finding = sym (over_code ∙ both_heavy counted.finding tuples h);
        within = says.within;
        words = λ l. absurd (omega arith);
        bytes = λ z. absurd (omega (arith, ap rank z));
        small = omega arith;
      }

  -- where nothing is found
  pub over_plain : (start.finding ≡ Nothing → (arity ≤ 3) × All DomainSize (domains_at s d))
      → (entries : List ℕ) (far : DF.Far) → length entries ≡ min arity (length front)
      → 3 ≤ length front → far.count ≡ arity - length entries
      → scope_sizes s entries far d ≡ sizes → counted.finding ≡ Nothing → Plain s counted entries far
  over_plain plain entries far long room rest all none =
      let (before, here) = both_zero _ _ (sym says.finding ∙ none) in
      let (few, domains) = plain before in
      let (range, constant) = front_fine d.variables arity vs (found_fine _ here) in
      let near : far.count ≡ 0 = omega arith in
      let n = values_count d.variables (words_at s d.sizes) in
      let inside : InRange (length (domains_at s d)) (values_in arity vs) = rw n range in
      let fit : All DomainSize (scope_sizes s entries far d) = rw all
      (sizes_over_lem (domains_at s d) (values_in arity vs) domains inside) in
      record {
        short = omega arith;
        near = near;
        sizes = front_all (sizes_held s entries) (scope_sizes s [] far d) fit;
        constant = λ z. says.count (none_light counted.finding none) ∙ rw (constant (omega arith));
      }
    where
      front_all : (xs ys : List ℕ) → All DomainSize (xs ++ ys) → All DomainSize xs
      front_all [] ys h = tt
      front_all (x ∷ xs) ys h = (h.0, front_all xs ys h.1)

  pub over_says : length s < 18446744073709551616 → rank counted.finding < 2 → (es : List ℕ) → es ≡ sizes
      → (r : DU.Function) → TableSays s counted es r → OverSays s start arity d r
  over_says short light es same r table =
      let k : ℕ = value_at (1 + arity) vs in
      let ws : Words = words_at s counted.next in
      let wide : length es ≡ arity =
      ap length same ∙ length-map (values_in arity vs) _ ∙ values_count arity vs in
      let count : counted.count ≡ min k cap_end = says.count light in
      let words : ws ≡ drop (2 + arity) vs = says.words light in
      let few = words_short s counted.next short in
      let found : found_of (tuples_finding es (length es) counted.count ws)
      ≡ found_of (tuples_finding sizes arity (min k cap_end) ws) = rw (wide, same, count) in
      record {
        finding =
            table.finding
            ∙ ap (both counted.finding)
            (found
            ∙ tuples_capped sizes arity k ws few
            ∙ ap (λ (l : Words). found_of (tuples_finding sizes arity k l)) words)
            ∙ sym over_code;
        within = table.within;
        words = λ l.
            let tuples-light = both_second counted.finding _ (rw table.finding at l) in
            let exact = tuples_exact sizes arity k ws few (rw found at tuples-light) in
            table.words l ∙ rw (wide, count, exact, words) (drop-drop (k * suc arity) (2 + arity) vs);
        bytes = λ z. table.bytes z ∙ ap record_bytes same;
        small = table.small;
      }
