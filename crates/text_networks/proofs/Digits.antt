-- The digits of a number are read as that number, and how many there are.
use mathlib.Core.Path.{◌≡◌, refl, ap, ◌∙◌}
use mathlib.Core.Bool.{true}
use mathlib.Core.List.{List, [], ◌∷◌}
use Prim.Native.Nat.{ℕ, zero, suc, ◌+◌, ◌-◌, ◌*◌, ◌/◌, ◌%◌, ◌^◌, ◌≤◌, ◌<◌}
use native.Mathlib.Omega.{arith}
use lib.Dec.{eqb, leb}
use lib.ListN.{length}
use borrow.Author.Tests.{eqb-true, eqb-false, le-leb, leb-true, ne_eqb}
use Rattle.model.specs.Problems.{Word}
use Rattle.model.proofs.Bits.{and_both, and_left, pick_both}
use Rattle.text_words.specs.Texts.{is_digit, all_digits, value_from, number, term_of, digits_of, decimal}
use Rattle.text_words.proofs.Signs.{unsigned_digits}
use Rattle.text_networks.proofs.Lists.{pick_each}

-- ## the digits of a number are digits, and make that number

digit_each : (x : ℕ) → is_digit (48 + x % 10) ≡ true
digit_each x = and_both (le-leb 48 (48 + x % 10) (omega arith)) (le-leb (48 + x % 10) 57 (omega arith))

digits_all : (n x : ℕ) (behind : List ℕ) → all_digits behind ≡ true → all_digits (digits_of n x behind) ≡ true
unfolding digits_of all_digits
digits_all zero x behind h = and_both (digit_each x) h
digits_all (suc n) x behind h =
    let more : all_digits ((48 + x % 10) ∷ behind) ≡ true = and_both (digit_each x) h in
    pick_both (λ w. all_digits w ≡ true) (eqb (x / 10) 0) more (digits_all n (x / 10) ((48 + x % 10) ∷ behind) more)

digits_some : (n x : ℕ) (behind : List ℕ) → 1 ≤ length (digits_of n x behind)
unfolding digits_of
digits_some zero x behind = omega arith
digits_some (suc n) x behind =
    let more = (48 + x % 10) ∷ behind in
    pick_both (λ w. 1 ≤ length w) (eqb (x / 10) 0) {a = more} (omega arith) (digits_some n (x / 10) more)

one_digit : (i x y : ℕ) (behind : List ℕ) → 10 * i + (48 + x % 10 - 48) ≡ y
    → value_from i ((48 + x % 10) ∷ behind) ≡ value_from y behind
unfolding value_from
one_digit i x y behind e = ap (λ (z : ℕ). value_from z behind) e

digits_value : (n x : ℕ) (behind : List ℕ) → x < 10 ^ suc n → value_from 0 (digits_of n x behind) ≡ value_from x behind
unfolding digits_of
digits_value zero x behind h = one_digit 0 x x behind (omega arith)
digits_value (suc n) x behind h =
    pick_each (λ w. value_from 0 w ≡ value_from x behind) (eqb (x / 10) 0)
    (λ e. one_digit 0 x x behind (omega (arith, eqb-true (x / 10) 0 e)))
    (λ e. digits_value n (x / 10) ((48 + x % 10) ∷ behind) (omega arith) ∙ one_digit (x / 10) x x behind (omega arith))

pub decimal_all : (x : ℕ) → all_digits (decimal x) ≡ true
unfolding all_digits
decimal_all x = digits_all 9 x [] refl

pub decimal_some : (x : ℕ) → 1 ≤ length (decimal x)
decimal_some x = digits_some 9 x []

digits_term : (w : List ℕ) → 1 ≤ length w → all_digits w ≡ true → term_of w ≡ number (value_from 0 w)
unfolding term_of all_digits
digits_term [] l h = absurd (omega arith)
digits_term (b ∷ w) l h =
    let low : 48 ≤ b = leb-true 48 b (and_left (leb 48 b) (leb b 57) (and_left (is_digit b) (all_digits w) h)) in
    rw (ne_eqb b 45 (λ e. omega arith), ne_eqb b 43 (λ e. omega arith)) (unsigned_digits (b ∷ w) l h)

-- a number of four bytes, written in decimal, is read as itself
pub decimal_read : (x : ℕ) → Word x → term_of (decimal x) ≡ number x
unfolding value_from
decimal_read x h =
    digits_term (decimal x) (decimal_some x) (decimal_all x) ∙ ap number (digits_value 9 x [] (omega arith))

-- ## how many digits there are

digits_few : (n k x : ℕ) (behind : List ℕ) → x < 10 ^ suc k → length (digits_of n x behind) ≤ suc k + length behind
unfolding digits_of
digits_few zero k x behind h = omega arith
digits_few (suc n) zero x behind h =
    let more = (48 + x % 10) ∷ behind in
    pick_each (λ w. length w ≤ 1 + length behind) (eqb (x / 10) 0) {a = more} {b = digits_of n (x / 10) more}
    (λ e. omega arith) (λ e. absurd (eqb-false (x / 10) 0 e (omega arith)))
digits_few (suc n) (suc k) x behind h =
    let more = (48 + x % 10) ∷ behind in
    pick_each (λ w. length w ≤ suc (suc k) + length behind) (eqb (x / 10) 0) {a = more} {b = digits_of n (x / 10) more}
    (λ e. omega arith) (λ e. omega (arith, digits_few n k (x / 10) more (omega arith)))

pub decimal_few : (k x : ℕ) → x < 10 ^ suc k → length (decimal x) ≤ suc k
decimal_few k x h = omega (arith, digits_few 9 k x [] h)
