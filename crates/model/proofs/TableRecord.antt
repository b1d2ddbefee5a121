-- One cost record, in both directions: from a table to bytes and back.
use mathlib.Core.Path.{◌≡◌, refl, ap, sym, ◌∙◌}
use mathlib.Core.Bool.{true, not}
use mathlib.Core.List.{List, ◌++◌, append_assoc}
use Prim.Native.Nat.{ℕ, ◌+◌, ◌*◌, ◌≤◌, ◌<◌}
use native.Mathlib.Omega.{arith}
use lib.ListN.{length, take, drop, length-append, length-drop, length-take, take-append-drop}
use lib.Seq.{drop-drop, drop-cons, take-append_seam, drop-append_seam, length-take-le}
use borrow.Author.Tests.{ltb-false, le-ltb, leb-false, lt-leb, not-false}
use Rattle.model.specs.Basics.{All}
use Rattle.model.specs.Limits.{max_arity}
use Rattle.model.specs.Refusals.{cut_short, bad_owner, bad_arity, bad_scope}
use Rattle.model.specs.Problems.{Table, TableRules, size_of, scope_rule}
use Rattle.model.specs.Encoding.{Byte, letter_c, letter_f, word_bytes, table_bytes}
use Rattle.model.specs.Reading.{words_in, table_objective, table_arity, table_scope, table_length, table_number}
use Rattle.model.specs.Reading.{table_of}
use Rattle.model.proofs.Elements.{all_drop}
use Rattle.model.proofs.Words.{words_read, words_written, words_below, length_word_bytes, length_words_in}
use Rattle.model.proofs.Verdicts.{first_none, none_first, when_none, none_when}
use Rattle.model.proofs.Marks.{Marked, start_marked, marked_start, marked_list}

-- what number 0 says of a cost record
pub record GoodTable (p : ℕ) (ds s : List ℕ) : Type 0 where
  pub start : Marked letter_c letter_f 2 s
  pub owner : table_objective s < p
  pub arity : table_arity s ≤ max_arity
  pub distinct : scope_rule (length ds) (table_scope s) ≡ true
  pub long : table_length ds s ≤ length s

pub table_good : (p : ℕ) (ds s : List ℕ) → table_number p ds s ≡ 0 → GoodTable p ds s
unfolding table_number
table_good p ds s h =
    let h₁ = first_none _ _ h in
    let h₂ = first_none _ _ h₁.1 in
    let h₃ = first_none _ _ h₂.1 in
    let h₄ = first_none _ _ h₃.1 in
    let h₅ = first_none _ _ h₄.1 in
    record {
      start = start_marked letter_c letter_f 2 s h₁.0;
      owner = leb-false _ _ (when_none _ bad_owner refl h₂.0);
      arity = ltb-false _ _ (when_none _ bad_arity refl h₃.0);
      distinct = not-false _ (when_none _ bad_scope refl h₅.0);
      long = ltb-false _ _ (when_none _ cut_short refl h₅.1);
    }

good_table : (p : ℕ) (ds s : List ℕ) → GoodTable p ds s → table_number p ds s ≡ 0
unfolding table_number table_length
good_table p ds s g =
    none_first _ (marked_start letter_c letter_f 2 s g.start)
    (none_first _ (none_when bad_owner (lt-leb _ _ g.owner))
    (none_first _ (none_when bad_arity (le-ltb _ _ g.arity))
    (none_first _ (none_when cut_short (le-ltb (length s) (4 + table_arity s) (omega (arith, g.long))))
    (none_first _ (none_when bad_scope (ap not g.distinct)) (none_when cut_short (le-ltb _ _ g.long))))))

-- ## from a table to bytes

module _ (p : ℕ) (ds : List ℕ) (t : Table) (rest : List ℕ) (rules : TableRules p ds t) where
  scope_read : table_scope (table_bytes t ++ rest) ≡ t.scope
  unfolding table_bytes table_scope
  scope_read =
      ap (take (length t.scope)) (append_assoc t.scope (word_bytes t.costs) rest)
      ∙ take-append_seam t.scope (word_bytes t.costs ++ rest)

  pub length_table : length (table_bytes t) ≡ table_length ds (table_bytes t ++ rest)
  unfolding table_bytes table_length
  length_table =
      rw scope_read
      (omega (arith, length-append t.scope (word_bytes t.costs), length_word_bytes t.costs, rules.entries))

  costs_left : drop (4 + length t.scope) (table_bytes t ++ rest) ≡ word_bytes t.costs ++ rest
  unfolding table_bytes
  costs_left =
      sym (drop-drop (length t.scope) 4 (table_bytes t ++ rest))
      ∙ ap (drop (length t.scope)) (append_assoc t.scope (word_bytes t.costs) rest)
      ∙ drop-append_seam t.scope (word_bytes t.costs ++ rest)

  pub table_read : table_of ds (table_bytes t ++ rest) ≡ t
  unfolding table_bytes table_of
  table_read =
      let s = table_bytes t ++ rest in
      let costs : words_in (size_of ds (table_scope s)) (drop (4 + table_arity s) s) ≡ t.costs =
      rw (scope_read, ← rules.entries, costs_left) (words_read t.costs rest) in
      λ i. record { objective = t.objective; scope = scope_read i; costs = costs i }

  pub table_accepted : table_number p ds (table_bytes t ++ rest) ≡ 0
  unfolding table_bytes
  table_accepted =
      let s = table_bytes t ++ rest in
      let long : table_length ds s ≤ length s = omega (arith, length-append (table_bytes t) rest, length_table) in
      let start : Marked letter_c letter_f 2 s = record { letter = refl; next = refl; long = omega arith } in
      good_table p ds s
      (record {
        start = start;
        owner = rules.owner;
        arity = rules.arity;
        distinct = rw scope_read rules.distinct;
        long = long;
      })

-- ## from bytes to a table

pub table_rules : (p : ℕ) (ds s : List ℕ) → All Byte s → table_number p ds s ≡ 0 → TableRules p ds (table_of ds s)
unfolding table_of table_scope
table_rules p ds s b h =
    let g = table_good p ds s h in
    record {
      owner = g.owner;
      arity = omega (arith, length-take (table_arity s) (drop 4 s), g.arity);
      distinct = g.distinct;
      entries = length_words_in _ _;
      words = words_below _ _ (all_drop Byte (4 + table_arity s) s b);
    }

fields_written : (p : ℕ) (ds s : List ℕ) → All Byte s → GoodTable p ds s
    → table_scope s ++ word_bytes (table_of ds s).costs ++ drop (table_length ds s) s ≡ drop 4 s
unfolding table_of table_scope table_length
fields_written p ds s b g =
    let a = table_arity s in
    let size = size_of ds (table_scope s) in
    let costs : word_bytes (words_in size (drop (4 + a) s)) ++ drop (4 * size) (drop (4 + a) s) ≡ drop (4 + a) s =
    words_written size (drop (4 + a) s) (omega (arith, length-drop (4 + a) s, g.long)) (all_drop Byte (4 + a) s b) in
    let place : table_length ds s ≡ 4 + a + 4 * size = omega arith in
    rw (append_assoc, place, ← drop-drop (4 * size) (4 + a) s, costs, ← drop-drop a 4 s) (take-append-drop a (drop 4 s))

pub table_written : (p : ℕ) (ds s : List ℕ) → All Byte s → GoodTable p ds s
    → table_bytes (table_of ds s) ++ drop (table_length ds s) s ≡ s
unfolding table_bytes table_of table_scope table_length
table_written p ds s b g =
    let arity : length (table_scope s) ≡ table_arity s = length-take-le (table_arity s) (drop 4 s)
    (omega (arith, length-drop 4 s, g.long)) in
    rw (
      arity,
      fields_written p ds s b g,
      ← drop-cons s 3 0 (omega (arith, g.long)),
      ← drop-cons s 2 0 (omega (arith, g.long)),
    )
    (sym (marked_list letter_c letter_f 2 s g.start))
