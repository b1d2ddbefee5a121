-- Cost records over rising scopes: the same entry for every choice, the rules kept, as many bytes, and one record for
-- all layouts of it. Then the same for lists of records.
use mathlib.Core.Path.{◌≡◌, refl, ap, ap₂, sym, ◌∙◌}
use mathlib.Core.Bool.{true}
use mathlib.Core.List.Memᴰ.{head as here}
use mathlib.Core.List.Memᴰ.{tail as there}
use mathlib.Core.List.{List, [], ◌∷◌, map, Memᴰ as In}
use Prim.Native.Nat.{ℕ, suc, ◌+◌, ◌≤◌}
use native.Mathlib.Omega.{arith}
use lib.ListN.{length, get_or, length-append, length-map}
use Rattle.model.specs.Basics.{All}
use Rattle.model.specs.Problems.{Table, size_of, Word, DomainSize, TableRules}
use Rattle.model.specs.Encoding.{word_bytes, table_bytes, tables_bytes}
use Rattle.model.specs.Costs.{is_choice, entry_from, cost_of}
use Rattle.model.specs.Frontiers.{choices}
use Rattle.model.proofs.Elements.{all_at, all_map}
use Rattle.model.proofs.Scopes.{Distinct, scope_distinct, distinct_range}
use Rattle.model.proofs.Words.{length_word_bytes}
use Rattle.model.proofs.Choices.{choices_in_lem, choice_length}
use Rattle.form_canonical.specs.Canonical.{sizes_within, turned, turned_tables}
use Rattle.form_canonical.specs.Statements.{Turning, TurnedAlike}
use Rattle.form_canonical.proofs.ChoicePlaces.{choices_length, entry_at}
use Rattle.form_canonical.proofs.RisenScopes.{risen_variables, risen_rule, risen_same, sizes_same, risen_length}
use Rattle.form_canonical.proofs.RisenScopes.{risen_size}
use Rattle.form_canonical.proofs.RisenEntries.{values_within, within_choice, choice_within, within_entry}
use Rattle.form_canonical.proofs.RisenEntries.{risen_entry, risen_entries}

-- ## one record

pub turned_cost : (ds : List ℕ) (t : Table) (xs : List ℕ) → is_choice ds xs ≡ true
    → cost_of ds xs (turned ds t) ≡ cost_of ds xs t
unfolding cost_of turned
turned_cost ds t xs h =
    let sizes = sizes_within 0 ds t.scope in
    let values = values_within 0 t.scope xs in
    ap (λ (i : ℕ). get_or (turned ds t).costs i 0) (risen_entry ds t.scope xs (choice_length ds xs h))
    ∙ entry_at (λ ys. cost_of ds ys t) sizes values (within_choice 0 ds t.scope xs h)
    ∙ ap (λ (i : ℕ). get_or t.costs i 0) (within_entry ds t.scope xs)

module _ (p : ℕ) (ds : List ℕ) (t : Table) (rules : TableRules p ds t) where
  once : Distinct (length ds) t.scope
  once = scope_distinct (length ds) t.scope rules.distinct

  pub turned_turning : Turning ds (turned ds t) t
  unfolding turned
  turned_turning = record {
    objective = refl;
    variables = risen_variables ds t.scope (distinct_range (length ds) t.scope once);
    entries = turned_cost ds t;
  }

  pub turned_arity : length (turned ds t).scope ≡ length t.scope
  unfolding turned
  turned_arity = risen_length ds t.scope once

  turned_entries : length (turned ds t).costs ≡ size_of ds (turned ds t).scope
  unfolding turned
  turned_entries =
      length-map (choices (sizes_within 0 ds t.scope)) (λ xs. cost_of ds xs t)
      ∙ choices_length (sizes_within 0 ds t.scope)
      ∙ risen_entries ds t.scope

  pub turned_many : length (turned ds t).costs ≡ length t.costs
  unfolding turned
  turned_many = turned_entries ∙ risen_size ds ds t.scope once ∙ sym rules.entries

  turned_words : (cs : List (List ℕ)) → All Word (map (λ xs. cost_of ds xs t) cs)
  unfolding cost_of
  turned_words [] = tt
  turned_words (xs ∷ cs) = (
    all_at Word t.costs rules.words (entry_from 0 ds t.scope xs) 0 (omega arith),
    turned_words cs,
  )

  pub turned_rules : TableRules p ds (turned ds t)
  unfolding turned
  turned_rules = record {
    owner = rules.owner;
    arity = omega (arith, turned_arity, rules.arity);
    distinct = risen_rule (length ds) 0 ds t.scope (omega arith);
    entries = turned_entries;
    words = turned_words (choices (sizes_within 0 ds t.scope));
  }

  pub turned_length : length (table_bytes (turned ds t)) ≡ length (table_bytes t)
  unfolding table_bytes
  turned_length =
      omega (
        arith,
        length-append (turned ds t).scope (word_bytes (turned ds t).costs),
        length-append t.scope (word_bytes t.costs),
        length_word_bytes (turned ds t).costs,
        length_word_bytes t.costs,
        turned_arity,
        turned_many,
      )

map_same : {A B : Type 0} (f g : A → B) (xs : List A) → ((x : A) → In x xs → f x ≡ g x) → map f xs ≡ map g xs
map_same f g [] h = refl
map_same f g (x ∷ xs) h = ap₂ ◌∷◌ (h x (here refl)) (map_same f g xs (λ y m. h y (there m)))

pub turned_unique : (ds : List ℕ) (t u : Table) → All DomainSize ds → Turning ds t u → turned ds t ≡ turned ds u
unfolding turned
turned_unique ds t u sizes same i =
    record {
      objective = same.objective i;
      scope = risen_same t.scope u.scope same.variables 0 ds i;
      costs = entries i;
    }
  where
    low : All (λ d. 1 ≤ d) ds
    low = all_map DomainSize (λ d. 1 ≤ d) (λ d s. s.0) ds sizes

    entries : map (λ xs. cost_of ds xs t) (choices (sizes_within 0 ds t.scope))
        ≡ map (λ xs. cost_of ds xs u) (choices (sizes_within 0 ds u.scope))
    entries =
        ap (λ (es : List ℕ). map (λ xs. cost_of ds xs t) (choices es))
        (sizes_same t.scope u.scope same.variables 0 ds)
        ∙ map_same (λ xs. cost_of ds xs t) (λ xs. cost_of ds xs u) (choices (sizes_within 0 ds u.scope))
        (λ xs m.
        same.entries xs (choice_within 0 ds u.scope xs low (choices_in_lem (sizes_within 0 ds u.scope) xs m)))

-- ## lists of records

pub turned_tables_count : (ds : List ℕ) (ts : List Table) → length (turned_tables ds ts) ≡ length ts
unfolding turned_tables
turned_tables_count ds [] = refl
turned_tables_count ds (t ∷ ts) = ap suc (turned_tables_count ds ts)

module _ (p : ℕ) (ds : List ℕ) where
  pub turned_alike : (ts : List Table) → All (TableRules p ds) ts → TurnedAlike ds (turned_tables ds ts) ts
  unfolding turned_tables
  turned_alike [] h = refl
  turned_alike (t ∷ ts) h = (turned_turning p ds t h.0, turned_alike ts h.1)

  pub turned_tables_rules : (ts : List Table) → All (TableRules p ds) ts → All (TableRules p ds) (turned_tables ds ts)
  unfolding turned_tables
  turned_tables_rules [] h = tt
  turned_tables_rules (t ∷ ts) h = (turned_rules p ds t h.0, turned_tables_rules ts h.1)

  pub turned_tables_length : (ts : List Table) → All (TableRules p ds) ts
      → length (tables_bytes (turned_tables ds ts)) ≡ length (tables_bytes ts)
  unfolding turned_tables tables_bytes
  turned_tables_length [] h = refl
  turned_tables_length (t ∷ ts) h =
      length-append (table_bytes (turned ds t)) (tables_bytes (turned_tables ds ts))
      ∙ ap₂ ◌+◌ (turned_length p ds t h.0) (turned_tables_length ts h.1)
      ∙ sym (length-append (table_bytes t) (tables_bytes ts))

pub turned_tables_unique : (ds : List ℕ) (ts us : List Table) → All DomainSize ds → TurnedAlike ds ts us
    → turned_tables ds ts ≡ turned_tables ds us
unfolding turned_tables
turned_tables_unique ds [] us sizes same = sym (ap (turned_tables ds) same)
turned_tables_unique ds (t ∷ ts) [] sizes same = absurd same
turned_tables_unique ds (t ∷ ts) (u ∷ us) sizes same =
    ap₂ ◌∷◌ (turned_unique ds t u sizes same.0) (turned_tables_unique ds ts us sizes same.1)
