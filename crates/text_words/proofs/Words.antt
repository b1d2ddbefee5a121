-- The words of a text by its front: white space changes none of them, and bytes without white space, before white
-- space or the end, are the first. There are about half as many words as bytes at most.
use mathlib.Core.Path.{◌≡◌, refl, ap, ◌∙◌}
use mathlib.Core.Logic.{⊎_elim, inr}
use mathlib.Core.Bool.{true, false, not}
use mathlib.Core.List.{List, [], ◌∷◌, ◌++◌}
use Prim.Native.Nat.{ℕ, suc, ◌+◌, ◌≤◌, max}
use native.Mathlib.Omega.{arith}
use lib.Dec.{leb}
use lib.ListN.{length}
use borrow.Author.Tests.{not-true, lt-leb, ne_eqb, leb-true}
use Rattle.model.proofs.Bits.{test, and_left, and_right, and_both, and-false}
use Rattle.text_words.specs.Texts.{space, is_space, is_digit, joined, words_of, all_digits}
use Rattle.text_words.specs.Reads.{is_solid, is_break}

pub space_front : (b : ℕ) (s : List ℕ) → is_space b ≡ true → words_of (b ∷ s) ≡ words_of s
unfolding words_of
space_front b s e = simp e

-- ## bytes without white space

pub solid_first : (b : ℕ) (w : List ℕ) → is_solid (b ∷ w) ≡ true → is_space b ≡ false
unfolding is_solid
solid_first b w e = not-true (is_space b) (and_left (not (is_space b)) (is_solid w) e)

pub solid_rest : (b : ℕ) (w : List ℕ) → is_solid (b ∷ w) ≡ true → is_solid w ≡ true
unfolding is_solid
solid_rest b w e = and_right (not (is_space b)) (is_solid w) e

pub solid_cons : (b : ℕ) (w : List ℕ) → is_space b ≡ false → is_solid w ≡ true → is_solid (b ∷ w) ≡ true
unfolding is_solid
solid_cons b w e d = and_both {a = not (is_space b)} (ap not e) d

pub solid_append : (v w : List ℕ) → is_solid v ≡ true → is_solid w ≡ true → is_solid (v ++ w) ≡ true
solid_append [] w e d = d
solid_append (b ∷ v) w e d = solid_cons b (v ++ w) (solid_first b v e) (solid_append v w (solid_rest b v e) d)

-- no digit is white space
pub digit_solid : (b : ℕ) → is_digit b ≡ true → is_space b ≡ false
digit_solid b e =
    let low : 48 ≤ b = leb-true 48 b (and_left _ _ e) in
    let high = and-false (leb 9 b) (leb b 13) (inr (lt-leb b 13 (omega arith))) in
    simp (high, ne_eqb b space (λ q. omega arith))

pub digits_solid : (w : List ℕ) → all_digits w ≡ true → is_solid w ≡ true
unfolding is_solid all_digits
digits_solid [] e = refl
digits_solid (b ∷ w) e =
    solid_cons b w (digit_solid b (and_left (is_digit b) (all_digits w) e))
    (digits_solid w (and_right (is_digit b) (all_digits w) e))

-- ## the first word

joined_break : (b c : ℕ) (s : List ℕ) (ws : List (List ℕ)) → is_space c ≡ true
    → joined b (c ∷ s) ws ≡ (b ∷ []) ∷ ws
unfolding joined
joined_break b c s [] e = refl
joined_break b c s (w ∷ ws) e = simp e

one_front : (b : ℕ) (s : List ℕ) → is_space b ≡ false → is_break s ≡ true → words_of (b ∷ s) ≡ (b ∷ []) ∷ words_of s
unfolding words_of joined is_break
one_front b [] e d = simp e
one_front b (c ∷ s) e d = simp e (joined_break b c s (words_of (c ∷ s)) d)

pub word_front : (b : ℕ) (w s : List ℕ) → is_solid (b ∷ w) ≡ true → is_break s ≡ true
    → words_of ((b ∷ w) ++ s) ≡ (b ∷ w) ∷ words_of s
unfolding words_of joined
word_front b [] s e d = one_front b s (solid_first b [] e) d
word_front b (c ∷ w) s e d =
    let later = solid_rest b (c ∷ w) e in
    simp (solid_first b (c ∷ w) e)
    (ap (joined b (c ∷ (w ++ s))) (word_front c w s later d) ∙ simp (solid_first c w later))

-- ## how many

joined_few : (b c : ℕ) (s : List ℕ) (ws : List (List ℕ)) → is_space c ≡ false
    → length (joined b (c ∷ s) ws) ≤ max 1 (length ws)
unfolding joined
joined_few b c s [] e = omega arith
joined_few b c s (w ∷ ws) e = simp e (omega arith)

pub words_few : (s : List ℕ) → length (words_of s) + length (words_of s) ≤ suc (length s)
unfolding words_of is_break
words_few [] = omega arith
words_few (b ∷ []) =
    ⊎_elim (λ (e : is_space b ≡ true). rw (space_front b [] e) (omega arith))
    (λ (e : is_space b ≡ false). rw (one_front b [] e refl) (omega arith)) (test (is_space b))
words_few (b ∷ c ∷ s) =
    ⊎_elim (λ (e : is_space b ≡ true). rw (space_front b (c ∷ s) e) (omega (arith, words_few (c ∷ s))))
    (λ (e : is_space b ≡ false).
    ⊎_elim (λ (d : is_space c ≡ true).
    rw (one_front b (c ∷ s) e d, space_front c s d) (omega (arith, words_few s)))
    (λ (d : is_space c ≡ false).
    simp e (omega (arith, words_few (c ∷ s), joined_few b c s (words_of (c ∷ s)) d))) (test (is_space c)))
    (test (is_space b))
