-- A function up to the number of its tuples: the scope, a variable twice, the default cost, the number of tuples.
use mathlib.Core.Path.{◌≡◌, sym, ap, ◌∙◌}
use mathlib.Core.Logic.{⊎_elim}
use mathlib.Core.List.{List, []}
use Prim.Native.Nat.{ℕ, ◌+◌, ◌≤◌, ◌<◌, min}
use native.Mathlib.Omega.{arith}
use lib.ListN.{length, get_or, take, drop}
use lib.Seq.{drop-drop, get_or-drop}
use Rattle.text_words.specs.Texts.{term_of, value_of}
use Rattle.text_words.specs.Reads.{words_at, cap_end}
use Rattle.text_networks.specs.Findings.{Words, dialect, and_then, find_if, term_at, values_in}
use Rattle.text_networks.specs.Networks.{repeated, cost_finding, count_finding}
use Rattle.text_checking.specs.declared.Found.{Found}
use Rattle.text_checking.specs.declared.Found.TheVariants.{Nothing}
use Rattle.text_checking.specs.Codes.{rank, found_of, both}
use Rattle.text_checking.specs.Steps.{ScopeSays, CountsSays, FrontSays, front_finding}
use Rattle.text_checking.specs.declared.Step as DS
use Rattle.text_checking.specs.declared.Counted as DC
use Rattle.text_checking.proofs.Codes.{lt_or_ge, both_heavy, both_assoc, both_first, both_second, both_either}
use Rattle.text_checking.proofs.Codes.{some_rank}
use Rattle.text_checking.proofs.Codes.{found_both, test_light}
use Rattle.text_checking.proofs.Filling.{filled_values}

module _ (s : List ℕ) (start : DS.Step) (arity n : ℕ) (scope : List ℕ) (room : 3 ≤ length scope)
    (few : start.finding ≡ Nothing → arity ≤ 3) (over : DS.Step) (says : ScopeSays s start.next arity n scope over)
    (twice : Found) (light : rank twice ≤ 1)
    (once : arity ≤ 3 → twice ≡ found_of (find_if (repeated (take arity scope)) dialect)) (counts : DC.Counted)
    (counted : CountsSays s arity over.next counts) (total : Found)
    (sum : total ≡ both (both (both start.finding over.finding) twice) counts.finding) where
  abbrev us : Words
  us = words_at s start.next

  abbrev r : Found
  r = found_of (find_if (repeated (values_in arity us)) dialect)

  abbrev k : Found
  k = found_of (and_then (cost_finding (term_at arity us)) (count_finding arity (term_at (1 + arity) us)))

  front_code : found_of (front_finding n arity us) ≡ both over.finding (both r k)
  unfolding front_finding
  front_code =
      found_both _ _ ∙ rw (← says.step.finding) (ap (both over.finding) (found_both _ _))

  -- the words behind the scope
  module _ (l : rank over.finding < 2) where
    behind : words_at s over.next ≡ drop arity us
    behind = says.step.words l

    term_behind : (i j : ℕ) → arity + i ≡ j → get_or (words_at s over.next) i [] ≡ get_or us j []
    term_behind i j e = rw (behind, ← e) (get_or-drop arity us i [])

    same_counts : counts.finding ≡ k
    same_counts =
        counted.finding
        ∙ rw (term_behind 0 arity (omega arith), term_behind 1 (1 + arity) (omega arith))

    same_twice : arity ≤ 3 → twice ≡ r
    same_twice h =
        once h
        ∙ ap (λ (vs : List ℕ). found_of (find_if (repeated vs) dialect))
        (filled_values us arity scope (omega arith) (says.filled l))

  some : 3 < arity → 1 ≤ rank start.finding
  some h = some_rank start.finding (λ z. omega (arith, few z))

  all_found : both start.finding (both over.finding (both twice counts.finding))
      ≡ both start.finding (both over.finding (both r k))
  all_found =
      ⊎_elim (λ (l : rank over.finding < 2).
      rw (same_counts l)
      (⊎_elim (λ (h : 3 < arity).
      both_either start.finding over.finding twice r k (some h) light
      (test_light (repeated (values_in arity us))))
      (λ (h : arity ≤ 3). rw (same_twice l h)) (lt_or_ge 3 arity)))
      (λ (l : 2 ≤ rank over.finding).
      ap (both start.finding) (both_heavy over.finding _ l ∙ sym (both_heavy over.finding _ l)))
      (lt_or_ge (rank over.finding) 2)

  total_code : total ≡ both start.finding (found_of (front_finding n arity us))
  total_code =
      sum
      ∙ both_assoc (both start.finding over.finding) twice counts.finding
      ∙ both_assoc start.finding over.finding (both twice counts.finding)
      ∙ all_found
      ∙ ap (both start.finding) (sym front_code)

  module _ (l : rank total < 2) where
    parts : (rank over.finding < 2) × (rank counts.finding < 2)
    parts =
        let h = rw sum at l in
        let one = both_first _ counts.finding h in
        (both_second start.finding _ (both_first _ twice one), both_second _ counts.finding h)

  pub front_says : FrontSays s start arity n scope
      (record { finding = total; next = counts.next; count = counts.count })
  front_says =
      record {
        finding = total_code;
        within = counted.within;
        words = λ l.
            let wide : arity + 2 ≡ 2 + arity = omega arith in
            counted.words (parts l).1 ∙ rw (behind (parts l).0, ← wide) (drop-drop 2 arity us);
        count = λ l.
            counted.count (parts l).1
            ∙ ap (λ (w : List ℕ). min (value_of (term_of w)) cap_end)
            (term_behind (parts l).0 1 (1 + arity) (omega arith));
        filled = λ l. says.filled (parts l).0;
      }
