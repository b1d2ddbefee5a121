-- What a word is, by its sign and by the digits behind it.
use mathlib.Core.Path.{◌≡◌, refl, sym, ap, ◌∙◌}
use mathlib.Core.Logic.{⊎_elim}
use mathlib.Core.Bool.{true, false}
use mathlib.Core.List.{List, [], ◌∷◌, ◌++◌}
use Prim.Native.Nat.{ℕ, zero, suc, ◌+◌, ◌≤◌, ◌<◌}
use native.Mathlib.Omega.{arith}
use lib.Dec.{eqb}
use lib.ListN.{length, get_or, drop, drop_of_length-le, length-drop}
use borrow.Author.Tests.{eq-eqb, ne_eqb}
use Rattle.model.specs.Basics.{pick}
use Rattle.model.proofs.Bits.{test, pick_both}
use Rattle.model.proofs.Numbers.{equal_or}
use Rattle.text_words.specs.Texts.{is_digit, all_digits, value_from, number, negative, other}
use Rattle.text_words.specs.Texts.{unsigned, negated, term_of}
use Rattle.text_words.specs.Reads.{part, sign_width}
use Rattle.text_words.proofs.Values.{digits_broken}
use Rattle.text_words.proofs.Parts.{rest_cons, part_cons, part_drop, part_length}

-- ## digits behind the sign

pub unsigned_digits : (w : List ℕ) → 0 < length w → all_digits w ≡ true → unsigned w ≡ number (value_from 0 w)
unfolding unsigned
unsigned_digits [] h e = absurd (omega arith)
unsigned_digits (b ∷ w) h e = simp e

pub unsigned_broken : (v : List ℕ) (b : ℕ) (w : List ℕ) → is_digit b ≡ false → unsigned (v ++ (b ∷ w)) ≡ other
unfolding unsigned
unsigned_broken [] b w e = simp (digits_broken [] b w e)
unsigned_broken (a ∷ v) b w e = simp (digits_broken (a ∷ v) b w e)

pub negated_some : (x : ℕ) → (x ≡ 0 → ⊥) → negated (number x) ≡ negative
unfolding negated
negated_some zero n = absurd (n refl)
negated_some (suc x) n = refl

-- ## the sign

pub sign_one : (w : List ℕ) → sign_width w ≤ 1
unfolding sign_width
sign_one [] = omega arith
sign_one (b ∷ w) =
    let P : ℕ → Type 0 = λ n. n ≤ 1 in
    pick_both P (eqb b 45) (omega arith) (pick_both P (eqb b 43) (omega arith) (omega arith))

sign_few : (w : List ℕ) → sign_width w ≤ length w
unfolding sign_width
sign_few [] = omega arith
sign_few (b ∷ w) = omega (arith, sign_one (b ∷ w))

term_plain : (w : List ℕ) → 0 < length w → (get_or w 0 0 ≡ 45 → ⊥) → term_of w ≡ unsigned (drop (sign_width w) w)
unfolding term_of sign_width
term_plain [] h n = absurd (omega arith)
term_plain (b ∷ w) h n =
    ⊎_elim (λ (e : eqb b 43 ≡ true). simp (ne_eqb b 45 n, e)) (λ (e : eqb b 43 ≡ false). simp (ne_eqb b 45 n, e))
    (test (eqb b 43))

term_minus : (w : List ℕ) → 0 < length w → get_or w 0 0 ≡ 45 → term_of w ≡ negated (unsigned (drop (sign_width w) w))
unfolding term_of sign_width
term_minus [] h e = absurd (omega arith)
term_minus (b ∷ w) h e = simp (eq-eqb b 45 e)

-- ## at a place

module _ (s : List ℕ) (start : ℕ) where
  pub sign_none : length s ≤ start → sign_width (drop start s) ≡ 0
  unfolding sign_width
  sign_none h = ap sign_width (drop_of_length-le s {i = start} h)

  pub sign_here : start < length s
      → sign_width (drop start s) ≡ pick (eqb (get_or s start 0) 45) 1 (pick (eqb (get_or s start 0) 43) 1 0)
  unfolding sign_width
  sign_here h = ap sign_width (rest_cons s start h)

  pub sign_within : start ≤ length s → start + sign_width (drop start s) ≤ length s
  sign_within h = omega (arith, sign_few (drop start s), length-drop start s)

  -- the word from here to e, with what is behind its sign
  module _ (e : ℕ) (h : start < e) (g : e ≤ length s) (from : ℕ) (sign : from ≡ start + sign_width (drop start s)) where
    same_sign : sign_width (part s start e) ≡ sign_width (drop start s)
    unfolding sign_width
    same_sign = ap sign_width (part_cons s start e h g) ∙ sym (sign_here (omega arith))

    sign_before : start + sign_width (drop start s) ≤ e
    sign_before = omega (arith, sign_few (part s start e), same_sign, part_length s start e g)

    behind : drop (sign_width (part s start e)) (part s start e) ≡ part s from e
    behind = rw (same_sign, sign) (part_drop s start e (sign_width (drop start s)) sign_before)

    some : 0 < length (part s start e)
    some = rw (part_length s start e g) (omega arith)

    first_byte : get_or (part s start e) 0 0 ≡ get_or s start 0
    first_byte = ap (λ (l : List ℕ). get_or l 0 0) (part_cons s start e h g)

    pub word_plain : (get_or s start 0 ≡ 45 → ⊥) → term_of (part s start e) ≡ unsigned (part s from e)
    word_plain n = term_plain (part s start e) some (λ q. n (sym first_byte ∙ q)) ∙ ap unsigned behind

    pub word_minus : get_or s start 0 ≡ 45 → term_of (part s start e) ≡ negated (unsigned (part s from e))
    word_minus q =
        term_minus (part s start e) some (first_byte ∙ q) ∙ ap (λ (l : List ℕ). negated (unsigned l)) behind

    pub word_other : unsigned (part s from e) ≡ other → term_of (part s start e) ≡ other
    unfolding negated
    word_other u =
        ⊎_elim (λ (q : get_or s start 0 ≡ 45). word_minus q ∙ ap negated u)
        (λ (n : get_or s start 0 ≡ 45 → ⊥). word_plain n ∙ u) (equal_or (get_or s start 0) 45)
