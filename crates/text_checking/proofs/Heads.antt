-- What stands between the name and the domain sizes: four numbers in a row.
use mathlib.Core.Path.{◌≡◌, refl, sym, ap, ◌∙◌}
use mathlib.Core.List.{List, []}
use Prim.Native.Nat.{ℕ, ◌<◌, min}
use native.Mathlib.Omega.{arith}
use lib.ListN.{get_or, drop}
use lib.Seq.{drop-drop}
use Rattle.model.proofs.Lists.{get_d_first}
use Rattle.text_words.specs.Texts.{Term, number, negative, other, term_of, value_of}
use Rattle.text_words.specs.Reads.{words_at, cap_end, kind_of, NumberSays}
use Rattle.text_words.specs.declared.Kind.TheVariants.{Natural}
use Rattle.text_words.specs.declared.Number as DN
use Rattle.text_networks.specs.Findings.{Words, field, term_at}
use Rattle.text_networks.specs.Networks.{variables_finding, largest_finding, functions_number, bound_finding}
use Rattle.text_checking.specs.declared.Found.{Found}
use Rattle.text_checking.specs.Codes.{rank, found_of, both}
use Rattle.text_checking.specs.Steps.{HeadSays, head_finding}
use Rattle.text_checking.proofs.Codes.{both_first, both_second, found_both}

-- a largest size that does not decide is a number
largest_kind : (t : Term) → rank (found_of (largest_finding t)) < 2 → kind_of t ≡ Natural
unfolding field found_of kind_of
largest_kind (number x) h = refl
largest_kind negative h = absurd (omega arith)
largest_kind other h = absurd (omega arith)

module _ (s : List ℕ) (at : ℕ) (a b c d : DN.Number) (first : NumberSays s at a) (second : NumberSays s a.end b)
    (third : NumberSays s b.end c) (fourth : NumberSays s c.end d) where
  abbrev ws : Words
  ws = words_at s at

  words_two : words_at s b.end ≡ drop 2 ws
  words_two = second.rest ∙ rw first.rest (drop-drop 1 1 ws)

  words_three : words_at s c.end ≡ drop 3 ws
  words_three = third.rest ∙ rw words_two (drop-drop 1 2 ws)

  words_four : words_at s d.end ≡ drop 4 ws
  words_four = fourth.rest ∙ rw words_three (drop-drop 1 3 ws)

  word_at : (i place : ℕ) → words_at s place ≡ drop i ws → get_or (words_at s place) 0 [] ≡ get_or ws i []
  word_at i place e = rw e (get_d_first [] i ws)

  module _ (p q r t : Found) (variables : p ≡ found_of (variables_finding (term_at 0 ws)))
      (largest : q ≡ found_of (largest_finding (term_at 0 (words_at s a.end))))
      (functions : r ≡ found_of (functions_number (term_at 0 (words_at s b.end))))
      (bound : t ≡ found_of (bound_finding (term_at 0 (words_at s c.end)))) (total : Found)
      (sum : total ≡ both (both p q) (both r t)) where
    head_code : total ≡ found_of (head_finding ws)
    unfolding head_finding
    head_code =
        sum
        ∙ rw (
          variables,
          largest,
          functions,
          bound,
          word_at 1 a.end first.rest,
          word_at 2 b.end words_two,
          word_at 3 c.end words_three,
        )
        (sym (found_both _ _ ∙ rw (found_both, found_both)))

    number_kind : rank total < 2 → b.kind ≡ Natural
    number_kind l =
        second.kind
        ∙ largest_kind _ (rw largest at (both_second p q (both_first (both p q) (both r t) (rw sum at l))))

    pub head_says : HeadSays s at (
        record {
          finding = total;
          next = d.end;
          variables = a.value;
          functions = c.value;
          largest = b;
        }
        )
    head_says =
        record {
          finding = head_code;
          within = fourth.within;
          words = words_four;
          variables = first.value;
          functions =
              third.value
              ∙ ap (λ (w : List ℕ). min (value_of (term_of w)) cap_end) (word_at 2 b.end words_two);
          digits = λ l. second.digits (number_kind l);
          largest = λ l.
              second.exact (number_kind l)
              ∙ ap (λ (w : List ℕ). value_of (term_of w)) (word_at 1 a.end first.rest);
        }
