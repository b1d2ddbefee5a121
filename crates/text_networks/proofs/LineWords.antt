-- The words of a line of numbers are its numbers in decimal.
use mathlib.Core.Path.{◌≡◌, refl, ap, ◌∙◌}
use mathlib.Core.Bool.{true}
use mathlib.Core.List.{List, [], ◌∷◌, ◌++◌, map, append_assoc}
use Prim.Native.Nat.{ℕ, ◌≤◌}
use native.Mathlib.Omega.{arith}
use lib.ListN.{length}
use Rattle.text_words.specs.Texts.{space, line_feed, is_space, all_digits, words_of, decimal, line}
use Rattle.text_words.specs.Reads.{is_solid, is_break}
use Rattle.text_words.proofs.Words.{space_front, word_front, digits_solid}
use Rattle.text_networks.proofs.Digits.{decimal_all, decimal_some}

-- a word ends at white space, and so does a number
pub word_ends : (b : ℕ) (w : List ℕ) (c : ℕ) (rest : List ℕ) → is_solid (b ∷ w) ≡ true → is_space c ≡ true
    → words_of ((b ∷ w) ++ (c ∷ rest)) ≡ (b ∷ w) ∷ words_of rest
unfolding is_break
word_ends b w c rest h k =
    word_front b w (c ∷ rest) h k ∙ ap (λ (ws : List (List ℕ)). (b ∷ w) ∷ ws) (space_front c rest k)

number_ends : (w : List ℕ) (c : ℕ) (rest : List ℕ) → 1 ≤ length w → all_digits w ≡ true → is_space c ≡ true
    → words_of (w ++ (c ∷ rest)) ≡ w ∷ words_of rest
number_ends [] c rest l h k = absurd (omega arith)
number_ends (b ∷ w) c rest l h k = word_ends b w c rest (digits_solid (b ∷ w) h) k

decimal_ends : (x c : ℕ) (rest : List ℕ) → is_space c ≡ true
    → words_of (decimal x ++ (c ∷ rest)) ≡ decimal x ∷ words_of rest
decimal_ends x c rest k = number_ends (decimal x) c rest (decimal_some x) (decimal_all x) k

-- a line of one number at least
pub line_words : (xs rest : List ℕ) → 1 ≤ length xs → words_of (line xs ++ rest) ≡ map decimal xs ++ words_of rest
unfolding line
line_words [] rest l = absurd (omega arith)
line_words (x ∷ []) rest l = rw append_assoc (decimal_ends x line_feed rest refl)
line_words (x ∷ y ∷ xs) rest l =
    rw append_assoc (decimal_ends x space (line (y ∷ xs) ++ rest) refl
    ∙ ap (λ (ws : List (List ℕ)). decimal x ∷ ws) (line_words (y ∷ xs) rest (omega arith)))
