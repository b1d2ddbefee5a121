-- Decimal digits from the last one to the first, and how many there are.
use mathlib.Core.Path.{◌≡◌, refl, sym, ◌∙◌, ap}
use mathlib.Core.Bool.{Bool, true, false}
use mathlib.Core.List.{List, [], ◌∷◌, ◌++◌, append_assoc}
use Prim.Native.Nat.{ℕ, zero, suc, ◌+◌, ◌*◌, ◌/◌, ◌%◌, ◌<◌, ◌≤◌}
use native.Mathlib.Omega.{arith}
use lib.Dec.{eqb}
use borrow.Author.Tests.{ne_eqb}
use lib.ListN.{length, take, drop, set}
use lib.Seq.{take-take, set_split, drop_at, length-take-le}
use Rattle.model.specs.Basics.{pick}
use Rattle.text_words.specs.Texts.{digits_of, decimal}

-- k digits of x before those behind
unfoldable pub last_digits : ℕ → ℕ → List ℕ → List ℕ
last_digits zero x behind = behind
last_digits (suc k) x behind = last_digits k (x / 10) ((48 + x % 10) ∷ behind)

pub last_before : (k x : ℕ) (behind : List ℕ) → last_digits k x behind ≡ last_digits k x [] ++ behind
unfolding last_digits
last_before zero x behind = refl
last_before (suc k) x behind =
    let d = 48 + x % 10 in
    last_before k (x / 10) (d ∷ behind)
    ∙ sym (append_assoc (last_digits k (x / 10) []) (d ∷ []) behind)
    ∙ ap (λ (l : List ℕ). l ++ behind) (sym (last_before k (x / 10) (d ∷ [])))

pub last_length : (k x : ℕ) (behind : List ℕ) → length (last_digits k x behind) ≡ k + length behind
unfolding last_digits
last_length zero x behind = omega arith
last_length (suc k) x behind = omega (arith, last_length k (x / 10) ((48 + x % 10) ∷ behind))

pub last_next : (k x : ℕ) (behind : List ℕ) → last_digits (suc k) x behind
    ≡ last_digits k (x / 10) ((48 + x % 10) ∷ behind)
unfolding last_digits
last_next k x behind = refl

pub last_none : (x : ℕ) (behind : List ℕ) → last_digits 0 x behind ≡ behind
unfolding last_digits
last_none x behind = refl

-- how many digits the number y has behind the first ones, at most n, and none if it is 0
unfoldable pub more_digits : ℕ → ℕ → ℕ
more_digits zero y = 0
more_digits (suc n) y = pick (eqb y 0) 0 (suc (more_digits n (y / 10)))

counted : (n x : ℕ) (behind : List ℕ) (b : Bool)
    → ((more : List ℕ) → digits_of n (x / 10) more ≡ last_digits (suc (more_digits n (x / 10 / 10))) (x / 10) more)
    → pick b ((48 + x % 10) ∷ behind) (digits_of n (x / 10) ((48 + x % 10) ∷ behind))
    ≡ last_digits (suc (pick b 0 (suc (more_digits n (x / 10 / 10))))) x behind
unfolding last_digits
counted n x behind true h = refl
counted n x behind false h = h ((48 + x % 10) ∷ behind)

pub digits_counted : (n x : ℕ) (behind : List ℕ)
    → digits_of n x behind ≡ last_digits (suc (more_digits n (x / 10))) x behind
unfolding digits_of last_digits more_digits
digits_counted zero x behind = refl
digits_counted (suc n) x behind = counted n x behind (eqb (x / 10) 0) (digits_counted n (x / 10))

pub decimal_length : (x : ℕ) → length (decimal x) ≡ suc (more_digits 9 (x / 10))
decimal_length x =
    let k = suc (more_digits 9 (x / 10)) in
    ap length (digits_counted 9 x []) ∙ last_length k x [] ∙ omega arith

-- the digits, from the last one on, before what stands behind
pub decimal_last : (x : ℕ) (behind : List ℕ) → last_digits (length (decimal x)) x behind ≡ decimal x ++ behind
decimal_last x behind =
    let k = suc (more_digits 9 (x / 10)) in
    rw decimal_length
    (last_before k x behind ∙ ap (λ (l : List ℕ). l ++ behind) (sym (digits_counted 9 x [])))

-- a number that n digits hold
abbrev pub tens : ℕ → ℕ
tens zero = 1
tens (suc n) = 10 * tens n

pub tenth : (y m : ℕ) → y < 10 * m → y / 10 < m
tenth y m h = omega arith

pub more_none : (n : ℕ) → more_digits n 0 ≡ 0
unfolding more_digits
more_none zero = refl
more_none (suc n) = refl

pub more_next : (n y : ℕ) → 0 < y → more_digits (suc n) y ≡ suc (more_digits n (y / 10))
unfolding more_digits
more_next n y h = rw (ne_eqb y 0 (λ e. omega arith)) refl

pub some_digit : (k y : ℕ) → 0 < y → y < tens k → 0 < k
some_digit zero y h l = omega arith
some_digit (suc k) y h l = omega arith

-- a digit written before the others
pub digit_put : (k m d : ℕ) (out : List ℕ) → m ≡ suc k → k < length out → drop k (set out k d) ≡ d ∷ drop m out
digit_put k m d out e h =
    ap (drop k) (set_split out k d h)
    ∙ drop_at (take k out) (d ∷ drop (suc k) out) k (length-take-le k out (omega arith))
    ∙ rw (← e) refl

pub front_kept : (j k : ℕ) (x y : List ℕ) → j ≤ k → take k x ≡ take k y → take j x ≡ take j y
front_kept j k x y h e = sym (take-take j k x h) ∙ ap (take j) e ∙ take-take j k y h
