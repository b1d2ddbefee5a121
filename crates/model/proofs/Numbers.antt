-- Numbers: equal or not, and which comes first; products and their sums; digits; what falls step by step.
use mathlib.Core.Path.{◌≡◌, sym, ◌∙◌}
use mathlib.Core.Logic.{◌⊎◌, inl, inr, ⊎_elim}
use Prim.Native.Nat.{ℕ, zero, suc, ◌+◌, ◌*◌, ◌/◌, ◌%◌, ◌≤◌, ◌<◌}
use native.Mathlib.Omega.{arith}
use native.Mathlib.Nat.{suc-mul, mul-add, add-mul, mul_assoc, mul_comm, mul-le-mul, mul-le-mul_right}
use native.Mathlib.Numerals.{add-one}
use lib.Dec.{eqb, ltb}
use borrow.Author.Tests.{eqb-true, eqb-false, ltb-true, ltb-false}
use Rattle.model.proofs.Bits.{test}

pub equal_or : (a b : ℕ) → (a ≡ b) ⊎ (a ≡ b → ⊥)
equal_or a b = ⊎_elim (λ t. inl (eqb-true a b t)) (λ t. inr (eqb-false a b t)) (test (eqb a b))

pub trichotomy : (x y : ℕ) → (x < y) ⊎ ((x ≡ y) ⊎ (y < x))
trichotomy x y =
    ⊎_elim (λ t. inl (ltb-true x y t))
    (λ t. ⊎_elim (λ u. inr (inr (ltb-true y x u))) (λ u. inr (inl (omega (arith, ltb-false x y t, ltb-false y x u))))
    (test (ltb y x)))
    (test (ltb x y))

pub one_first : (a b : ℕ) → (a ≡ b → ⊥) → (a < b) ⊎ (b < a)
one_first a b n = ⊎_elim (λ l. inl l) (λ t. ⊎_elim (λ e. absurd (n e)) (λ l. inr l) t) (trichotomy a b)

-- what holds of four numbers, one by one
pub four_each : (P : ℕ → Type 0) → P 0 → P 1 → P 2 → P 3 → (j : ℕ) → j < 4 → P j
four_each P a b c d zero l = a
four_each P a b c d (suc zero) l = b
four_each P a b c d (suc (suc zero)) l = c
four_each P a b c d (suc (suc (suc zero))) l = d
four_each P a b c d (suc (suc (suc (suc j)))) l = absurd (omega arith)

-- what falls as k rises is largest at 0
pub largest_first :
    (f : ℕ → ℕ) (n : ℕ) → ((k : ℕ) → k < n → f (k + 1) ≤ f k) → (k : ℕ) → k ≤ n → f k ≤ f 0
largest_first f n h zero l = omega arith
largest_first f n h (suc k) l =
    rw (← add-one k) (omega (arith, h k (omega arith), largest_first f n h k (omega arith)))

-- products by their limits; the factors are named, so that `omega` reads them
pub product_small : (m n a b : ℕ) → a ≤ m → b ≤ n → a * b ≤ m * n
product_small m n a b g h = mul-le-mul g h

pub byte_times : (y t : ℕ) → y < 256 → y * t ≤ 255 * t
byte_times y t h = mul-le-mul_right t (omega arith)

-- where k rows of b have room, each of them has
pub row_room : (b k row all : ℕ) → k * b ≤ all → row < k → row * b + b ≤ all
row_room b k row all r h = omega (arith, r, mul-le-mul_right b h, suc-mul row b)

-- a digit x below d: what stands behind it lies among what stands behind all of them
pub digit_room : (i d x z : ℕ) → x < d → (i * d + x + 1) * z ≤ (i + 1) * (d * z)
digit_room i d x z h =
    let e : suc i * d ≡ i * d + d = suc-mul i d in
    let f : i + 1 ≡ suc i = omega arith in
    rw (f, ← mul_assoc) (mul-le-mul_right z (omega arith))

-- numbers that grow evenly with a: the next digit in mixed base, and a multiple of a sum after a start
pub digit_grows : (f t d p q a : ℕ) → (f + a * t) * d + (p + a * q) ≡ (f * d + p) + a * (t * d + q)
digit_grows f t d p q a = omega (arith, add-mul f (a * t) d, mul_assoc a t d, mul-add a (t * d) q)

pub multiple_grows : (s w a f g p q : ℕ) → s + w * ((f + a * p) + (g + a * q)) ≡ (s + w * (f + g)) + a * (w * (p + q))
multiple_grows s w a f g p q =
    let e : w * ((f + g) + a * (p + q)) ≡ w * (f + g) + w * (a * (p + q)) = mul-add w (f + g) (a * (p + q)) in
    let h : w * (a * (p + q)) ≡ a * (w * (p + q)) = sym (mul_assoc w a (p + q))
    ∙ rw (mul_comm w a) (mul_assoc a w (p + q)) in
    let k : (f + a * p) + (g + a * q) ≡ (f + g) + a * (p + q) = omega (arith, mul-add a p q) in
    rw k (omega arith)

-- four bytes of a number
pub bytes_of : (a b c d number : ℕ) → a < 256 → b < 256 → c < 256 → d < 256
    → number ≡ a + 256 * b + 65536 * c + 16777216 * d
    → (number / 1 % 256 ≡ a) × (number / 256 % 256 ≡ b) × (number / 65536 % 256 ≡ c) × (number / 16777216 % 256 ≡ d)
bytes_of a b c d number ha hb hc hd is = (omega arith, omega arith, omega arith, omega arith)
