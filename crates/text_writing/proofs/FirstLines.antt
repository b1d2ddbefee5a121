-- The first line of a text, part by part: the name, a space, two sizes, two numbers.
use mathlib.Core.Path.{◌∙◌, ap}
use mathlib.Core.List.{List, [], ◌∷◌, ◌++◌, append_assoc}
use Prim.Native.Nat.{ℕ, ◌+◌, ◌≤◌}
use lib.ListN.{length}
use Rattle.model.specs.Limits.{word_end}
use Rattle.text_words.specs.Texts.{decimal, spaced, line, space, line_feed}
use Rattle.text_lines.specs.Written.{Written}
use Rattle.text_lines.proofs.Lines.{line_last}
use Rattle.text_lines.proofs.Writing.{Underway, Split, split_in, begin_first, due, go_on}
use Rattle.text_networks.specs.NetworkTexts.{letter_p}
use Rattle.text_writing.specs.Forms.{first_line}
use Rattle.text_writing.proofs.Heads.{head_end, spaced_append}

module _ (n d r b : ℕ) where
  -- the numbers: two sizes are due, then two numbers
  numbers_first : Split (line (n ∷ d ∷ r ∷ b ∷ [])) (spaced (n ∷ d ∷ [])) (head_end r b)
  unfolding spaced
  numbers_first =
      record {
        parts =
            (line_last (n ∷ d ∷ r ∷ []) b).parts
            ∙ ap (λ (l : List ℕ). l ++ (decimal b ++ (line_feed ∷ []))) (spaced_append (n ∷ d ∷ []) (r ∷ []))
            ∙ append_assoc (spaced (n ∷ d ∷ [])) (decimal r ++ (space ∷ [])) (decimal b ++ (line_feed ∷ []));
      }

  -- Writing it: what is due behind each part.
  module _ (out : List ℕ) (placed : length (first_line n d r b) ≤ word_end) where
    module _ {m₁ m₂ : ℕ} {o₁ o₂ : List ℕ} (name : Written 0 (letter_p ∷ []) out o₁ m₁)
        (gap : Written m₁ (space ∷ []) o₁ o₂ m₂) where
      numbers_due : Underway 0 (first_line n d r b) out (line (n ∷ d ∷ r ∷ b ∷ [])) o₂ m₂
      numbers_due =
          let numbers = line (n ∷ d ∷ r ∷ b ∷ []) in
          let named = go_on (split_in (letter_p ∷ []) (space ∷ numbers)) (begin_first out placed) name in
          go_on (split_in (space ∷ []) numbers) named gap

      pub sizes_due : m₂ + length (spaced (n ∷ d ∷ [])) ≤ word_end
      sizes_due = due numbers_first numbers_due

      module _ {m₃ : ℕ} {o₃ : List ℕ} (sizes : Written m₂ (spaced (n ∷ d ∷ [])) o₂ o₃ m₃) where
        tables_next : Underway 0 (first_line n d r b) out (head_end r b) o₃ m₃
        tables_next = go_on numbers_first numbers_due sizes

        pub tables_due : m₃ + length (decimal r ++ (space ∷ [])) ≤ word_end
        tables_due = due (split_in (decimal r ++ (space ∷ [])) (decimal b ++ (line_feed ∷ []))) tables_next

        pub bound_next : {m₄ : ℕ} {o₄ : List ℕ} → Written m₃ (decimal r ++ (space ∷ [])) o₃ o₄ m₄
            → Underway 0 (first_line n d r b) out (decimal b ++ (line_feed ∷ [])) o₄ m₄
        bound_next put = go_on (split_in (decimal r ++ (space ∷ [])) (decimal b ++ (line_feed ∷ []))) tables_next put
