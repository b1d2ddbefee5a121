-- The header, in both directions: from its fields to bytes and back.
use mathlib.Core.Path.{◌≡◌, refl, sym}
use mathlib.Core.List.{List, [], ◌++◌, append_assoc}
use Prim.Native.Nat.{ℕ, ◌*◌, ◌≤◌}
use native.Mathlib.Omega.{arith}
use lib.ListN.{length, drop, length-drop, length-append}
use lib.Seq.{drop-drop, drop-cons}
use borrow.Author.Tests.{ltb-false, le-ltb}
use Rattle.model.specs.Basics.{All}
use Rattle.model.specs.Limits.{max_variables, max_objectives, max_tables}
use Rattle.model.specs.Refusals.{cut_short, bad_variables, bad_objectives, bad_tables}
use Rattle.model.specs.Problems.{Problem, RecordRules}
use Rattle.model.specs.Encoding.{Byte, letter_h, letter_d, two_bytes, word_bytes, head_bytes}
use Rattle.model.specs.Reading.{word2, words_in, head_variables, head_objectives, head_tables, head_length, head_number}
use Rattle.model.proofs.Elements.{all_drop}
use Rattle.model.proofs.Words.{two_at, two_read, two_written, words_read, words_written, length_word_bytes}
use Rattle.model.proofs.Verdicts.{first_none, none_first, when_none, none_when}
use Rattle.model.proofs.Marks.{Marked, start_marked, marked_start, marked_list, not_outside, inside}

-- what number 0 says of the header
pub record GoodHead (s : List ℕ) : Type 0 where
  pub start : Marked letter_h letter_d 4 s
  pub variables : (1 ≤ head_variables s) × (head_variables s ≤ max_variables)
  pub objectives : (1 ≤ head_objectives s) × (head_objectives s ≤ max_objectives)
  pub tables : head_tables s ≤ max_tables
  pub long : head_length s ≤ length s

pub head_good : (s : List ℕ) → head_number s ≡ 0 → GoodHead s
unfolding head_number
head_good s h =
    let h₁ = first_none _ _ h in
    let h₂ = first_none _ _ h₁.1 in
    let h₃ = first_none _ _ h₂.1 in
    let h₄ = first_none _ _ h₃.1 in
    record {
      start = start_marked letter_h letter_d 4 s h₁.0;
      variables = not_outside max_variables (head_variables s) (when_none _ bad_variables refl h₂.0);
      objectives = not_outside max_objectives (head_objectives s) (when_none _ bad_objectives refl h₃.0);
      tables = ltb-false _ _ (when_none _ bad_tables refl h₄.0);
      long = ltb-false _ _ (when_none _ cut_short refl h₄.1);
    }

good_head : (s : List ℕ) → GoodHead s → head_number s ≡ 0
unfolding head_number
good_head s g =
    none_first _ (marked_start letter_h letter_d 4 s g.start)
    (none_first _ (none_when bad_variables (inside max_variables (head_variables s) g.variables))
    (none_first _ (none_when bad_objectives (inside max_objectives (head_objectives s) g.objectives))
    (none_first _ (none_when bad_tables (le-ltb _ _ g.tables)) (none_when cut_short (le-ltb _ _ g.long)))))

-- a list whose header is that of the problem q
pub record Opens (q : Problem) (s : List ℕ) : Type 0 where
  pub variables : head_variables s ≡ length q.domains
  pub objectives : head_objectives s ≡ q.objectives
  pub tables : head_tables s ≡ length q.tables
  pub ceilings : words_in (head_objectives s) (drop 6 s) ≡ q.ceilings

-- ## from fields to bytes

module _ (q : Problem) (rest : List ℕ) (rules : RecordRules q) where
  pub head_opens : Opens q (head_bytes q ++ rest)
  unfolding head_bytes two_bytes word2
  head_opens =
      record {
        variables = refl;
        objectives = refl;
        tables = two_read (length q.tables) [];
        ceilings = rw (← rules.ceiling_each) (words_read q.ceilings rest);
      }

  pub length_head : length (head_bytes q) ≡ head_length (head_bytes q ++ rest)
  unfolding head_bytes two_bytes
  length_head = omega (arith, length_word_bytes q.ceilings, rules.ceiling_each)

  pub head_accepted : head_number (head_bytes q ++ rest) ≡ 0
  unfolding head_bytes
  head_accepted =
      let s = head_bytes q ++ rest in
      let o = head_opens in
      let long : head_length s ≤ length s = omega (arith, length-append (head_bytes q) rest, length_head) in
      let start : Marked letter_h letter_d 4 s = record { letter = refl; next = refl; long = omega (arith, long) } in
      good_head s
      (record {
        start = start;
        variables = (rules.some_variable, rules.few_variables);
        objectives = (rules.some_objective, rules.few_objectives);
        tables = rw o.tables rules.few_tables;
        long = long;
      })

-- ## from bytes to fields

fields_written : (s : List ℕ) → All Byte s → GoodHead s
    → two_bytes (head_tables s) ++ word_bytes (words_in (head_objectives s) (drop 6 s)) ++ drop (head_length s) s
    ≡ drop 4 s
fields_written s b g =
    let p = head_objectives s in
    let count : two_bytes (word2 0 (drop 4 s)) ++ drop 2 (drop 4 s) ≡ drop 4 s =
    two_written (drop 4 s) (omega (arith, length-drop 4 s, g.long)) (all_drop Byte 4 s b) in
    let ceilings : word_bytes (words_in p (drop 6 s)) ++ drop (4 * p) (drop 6 s) ≡ drop 6 s =
    words_written p (drop 6 s) (omega (arith, length-drop 6 s, g.long)) (all_drop Byte 6 s b) in
    rw (append_assoc, ← drop-drop (4 * p) 6 s, ceilings, ← drop-drop 2 4 s, two_at 4 s) count

pub head_written : (q : Problem) (s : List ℕ) → All Byte s → GoodHead s → Opens q s
    → head_bytes q ++ drop (head_length s) s ≡ s
unfolding head_bytes
head_written q s b g o =
    rw (
      ← o.ceilings,
      ← o.variables,
      ← o.objectives,
      ← o.tables,
      fields_written s b g,
      ← drop-cons s 3 0 (omega (arith, g.long)),
      ← drop-cons s 2 0 (omega (arith, g.long)),
    )
    (sym (marked_list letter_h letter_d 4 s g.start))
