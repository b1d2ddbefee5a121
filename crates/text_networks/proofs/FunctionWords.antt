-- The words of a cost function: nothing in them is refused, they give its table, and how many they are.
use mathlib.Core.Path.{◌≡◌, refl, sym, subst}
use mathlib.Core.Bool.{true, false, not, ◌&&◌}
use mathlib.Core.List.{List, [], ◌∷◌, ◌++◌}
use Prim.Native.Nat.{ℕ, suc, ◌+◌, ◌*◌, ◌≤◌}
use native.Mathlib.Omega.{arith}
use native.Mathlib.Numerals.{one-add}
use lib.Dec.{eqb, ltb}
use lib.ListN.{length, drop, replicate, length-append}
use lib.Seq.{append_snoc}
use borrow.Author.Tests.{lt-ltb, le-ltb, not-true}
use Rattle.model.specs.Limits.{max_arity, word_end}
use Rattle.model.specs.Problems.{Word, InRange, size_of, has_variable, scope_rule}
use Rattle.model.proofs.Bits.{and_left, and_right}
use Rattle.model.proofs.Scopes.{scope_distinct, distinct_range}
use Rattle.text_words.specs.Texts.{number, value_of}
use Rattle.text_networks.specs.Findings.{Words, fine, and_then, field, term_at, values_in, runs}
use Rattle.text_networks.specs.Networks.{repeated, repeated_tuple, declared_finding, function_width, sizes_over}
use Rattle.text_networks.specs.Networks.{tuple_finding, tuples_of, function_finding, with_tuples, function_table}
use Rattle.text_networks.proofs.TextNumbers.{start_numbers}
use Rattle.text_networks.proofs.NumberWords.{Reads, reads_left, reads_next, reads_values}

-- ## scopes

scope_found : (n : ℕ) (vs : List ℕ) (ws : Words) → InRange n vs → Reads vs ws
    → runs (length vs) (λ us. declared_finding n (term_at 0 us)) 1 ws ≡ fine
unfolding runs and_then field
scope_found n [] ws r h = refl
scope_found n (v ∷ vs) ws r h = rw (h.0, lt-ltb v n r.0) (scope_found n vs (drop 1 ws) r.1 h.1)

scope_once : (n : ℕ) (vs : List ℕ) → scope_rule n vs ≡ true → repeated vs ≡ false
unfolding scope_rule repeated
scope_once n [] h = refl
scope_once n (v ∷ vs) h =
    let k : (not (has_variable v vs) && scope_rule n vs) ≡ true = and_right (ltb v n) _ h in
    rw (not-true (has_variable v vs) (and_left (not (has_variable v vs)) _ k))
    (scope_once n vs (and_right (not (has_variable v vs)) _ k))

pub scope_range : (n : ℕ) (vs : List ℕ) → scope_rule n vs ≡ true → InRange n vs
scope_range n vs h = distinct_range n vs (scope_distinct n vs h)

-- ## a function by what its first words say

module _ (vs : List ℕ) (c k : ℕ) (ws : Words) (h : Reads (start_numbers vs c k) ws) where
  arity_term : term_at 0 ws ≡ number (length vs)
  arity_term = h.0

  scope_reads : Reads vs (drop 1 ws)
  scope_reads = reads_left vs (c ∷ k ∷ []) (drop 1 ws) h.1

  scope_values : values_in (length vs) (drop 1 ws) ≡ vs
  scope_values = reads_values vs (drop 1 ws) scope_reads

  default_term : term_at (1 + length vs) ws ≡ number c
  default_term = rw one-add (reads_next (length vs ∷ vs) c (k ∷ []) ws h)

  count_term : term_at (2 + length vs) ws ≡ number k
  count_term =
      let front = length vs ∷ (vs ++ (c ∷ [])) in
      let long : length front ≡ 2 + length vs = omega (arith, length-append vs (c ∷ [])) in
      let all : Reads (front ++ (k ∷ [])) ws =
      subst (λ (l : List ℕ). Reads (length vs ∷ l) ws) (sym (append_snoc vs c (k ∷ []))) h in
      rw long at (reads_next front k [] ws all)

  pub function_found : (ds : List ℕ) → length vs ≤ max_arity → scope_rule (length ds) vs ≡ true → Word c
      → (eqb (length vs) 0 && ltb 0 k) ≡ false
      → runs k (tuple_finding (sizes_over ds vs)) (suc (length vs)) (drop (3 + length vs) ws) ≡ fine
      → repeated_tuple (tuples_of k (length vs) (drop (3 + length vs) ws)) ≡ false → function_finding ds ws ≡ fine
  unfolding function_finding value_of field and_then
  function_found ds few rule w none found once =
      rw (
        arity_term,
        default_term,
        count_term,
        scope_values,
        le-ltb max_arity (length vs) few,
        scope_found (length ds) vs (drop 1 ws) (scope_range (length ds) vs rule) scope_reads,
        scope_once (length ds) vs rule,
        lt-ltb c word_end w,
        none,
        found,
        once,
      )

  pub function_table_lem : (ds : List ℕ)
      → function_table ds ws
      ≡ record {
        objective = 0;
        scope = vs;
        costs = with_tuples k (sizes_over ds vs) (drop (3 + length vs) ws) (replicate (size_of ds vs) c);
      }
  unfolding function_table value_of
  function_table_lem ds = rw (arity_term, default_term, count_term, scope_values)

  pub function_width_lem : function_width ws ≡ 3 + length vs + k * suc (length vs)
  unfolding value_of
  function_width_lem = rw (arity_term, count_term)
