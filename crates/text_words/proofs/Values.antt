-- The values of digits: one more digit behind them, up to the cap; which of two is less, by their lengths where there
-- are no leading zeros, and by the first digits that differ where they are as long.
use mathlib.Core.Path.{◌≡◌, refl, sym, ◌∙◌}
use mathlib.Core.Logic.{⊎_elim, inl, inr}
use mathlib.Core.Bool.{Bool, true, false}
use mathlib.Core.List.{List, [], ◌∷◌, ◌++◌}
use Prim.Native.Nat.{ℕ, ◌+◌, ◌-◌, ◌*◌, ◌^◌, ◌≤◌, ◌<◌, min}
use native.Mathlib.Omega.{arith}
use native.Mathlib.Nat.{pow-succ', pow-le-pow_right, mul-le-mul_right, le_of_lt}
use lib.Dec.{leb, ltb}
use lib.ListN.{length}
use borrow.Author.Tests.{ltb-true, ltb-false, leb-true, lt-ltb, le-ltb}
use Rattle.model.proofs.Bits.{test, and_left, and_right, and_both, and-false}
use Rattle.model.proofs.Numbers.{one_first}
use Rattle.text_words.specs.Texts.{is_digit, all_digits, value_from}
use Rattle.text_words.specs.Reads.{cap_end}

-- ## digits

module _ (b : ℕ) (e : is_digit b ≡ true) where
  pub digit_low : 48 ≤ b
  digit_low = leb-true 48 b (and_left (leb 48 b) (leb b 57) e)

  pub digit_high : b ≤ 57
  digit_high = leb-true b 57 (and_right (leb 48 b) (leb b 57) e)

module _ (b : ℕ) (w : List ℕ) where
  pub digits_first : all_digits (b ∷ w) ≡ true → is_digit b ≡ true
  unfolding all_digits
  digits_first e = and_left (is_digit b) (all_digits w) e

  pub digits_rest : all_digits (b ∷ w) ≡ true → all_digits w ≡ true
  unfolding all_digits
  digits_rest e = and_right (is_digit b) (all_digits w) e

pub digits_append : (v w : List ℕ) → all_digits v ≡ true → all_digits w ≡ true → all_digits (v ++ w) ≡ true
unfolding all_digits
digits_append [] w e d = d
digits_append (b ∷ v) w e d =
    and_both {a = is_digit b} (digits_first b v e) (digits_append v w (digits_rest b v e) d)

pub digits_broken : (v : List ℕ) (b : ℕ) (w : List ℕ) → is_digit b ≡ false → all_digits (v ++ (b ∷ w)) ≡ false
unfolding all_digits
digits_broken [] b w e = and-false (is_digit b) (all_digits w) (inl e)
digits_broken (a ∷ v) b w e = and-false (is_digit a) (all_digits (v ++ (b ∷ w))) (inr (digits_broken v b w e))

-- ## values

pub value_append : (i : ℕ) (v w : List ℕ) → value_from i (v ++ w) ≡ value_from (value_from i v) w
unfolding value_from
value_append i [] w = refl
value_append i (b ∷ v) w = value_append (10 * i + (b - 48)) v w

-- the digits before count for a power of ten
value_behind : (i : ℕ) (w : List ℕ) → value_from i w ≡ i * 10 ^ length w + value_from 0 w
unfolding value_from
value_behind i [] = omega arith
value_behind i (b ∷ w) =
    rw (value_behind (10 * i + (b - 48)) w, value_behind (10 * 0 + (b - 48)) w, pow-succ' 10 (length w)) (omega arith)

value_cons : (b : ℕ) (w : List ℕ) → value_from 0 (b ∷ w) ≡ (b - 48) * 10 ^ length w + value_from 0 w
unfolding value_from
value_cons b w = value_behind (10 * 0 + (b - 48)) w ∙ omega arith

pub value_below : (w : List ℕ) → all_digits w ≡ true → value_from 0 w < 10 ^ length w
unfolding value_from
value_below [] e = omega arith
value_below (b ∷ w) e =
    let high = digit_high b (digits_first b w e) in
    let most : b - 48 ≤ 9 = omega arith in
    rw (value_cons b w, pow-succ' 10 (length w))
    (omega (arith, value_below w (digits_rest b w e), mul-le-mul_right (10 ^ length w) most))

-- ## up to the cap

pub cap_step : (x d : ℕ) → min (10 * min x cap_end + d) cap_end ≡ min (10 * x + d) cap_end
cap_step x d = omega arith

-- tests of two orders that say the same
ltb_same : (a b c d : ℕ) → (a < b → c < d) → (c < d → a < b) → ltb a b ≡ ltb c d
ltb_same a b c d f g = go (ltb a b) refl
  where
    go : (t : Bool) → ltb a b ≡ t → ltb a b ≡ ltb c d
    go true e = e ∙ sym (lt-ltb c d (f (ltb-true a b e)))
    go false e =
        let high : b ≤ a = ltb-false a b e in
        e ∙ sym (⊎_elim (λ (h : ltb c d ≡ true). absurd (omega (arith, g (ltb-true c d h))))
        (λ (h : ltb c d ≡ false). h) (test (ltb c d)))

-- ## which is less

pub shorter_less : (v : List ℕ) (b : ℕ) (w : List ℕ) → all_digits v ≡ true → 48 < b → length v ≤ length w
    → value_from 0 v < value_from 0 (b ∷ w)
shorter_less v b w e h k =
    let one : 1 ≤ b - 48 = omega arith in
    rw (value_cons b w)
    (omega (
      arith,
      value_below v e,
      pow-le-pow_right {n = 10} (omega arith) k,
      mul-le-mul_right (10 ^ length w) one,
    ))

module _ (v w : List ℕ) (as_long : length v ≡ length w) where
  pub front_same : (b : ℕ) → ltb (value_from 0 (b ∷ v)) (value_from 0 (b ∷ w)) ≡ ltb (value_from 0 v) (value_from 0 w)
  front_same b =
      let first : value_from 0 (b ∷ v) ≡ (b - 48) * 10 ^ length w + value_from 0 v = rw as_long at (value_cons b v) in
      let second : value_from 0 (b ∷ w) ≡ (b - 48) * 10 ^ length w + value_from 0 w = value_cons b w in
      ltb_same (value_from 0 (b ∷ v)) (value_from 0 (b ∷ w)) (value_from 0 v) (value_from 0 w) (λ k. omega arith)
      (λ k. omega arith)

  -- the first digits differ
  module _ (b c : ℕ) (low : 48 ≤ b) (h : b < c) (e : all_digits v ≡ true) where
    front_less : value_from 0 (b ∷ v) < value_from 0 (c ∷ w)
    front_less =
        let more : b - 48 + 1 ≤ c - 48 = omega arith in
        rw (value_cons b v, value_cons c w, as_long)
        (omega (arith, rw as_long at (value_below v e), mul-le-mul_right (10 ^ length w) more))

pub front_differs : (b c : ℕ) (v w : List ℕ) → length v ≡ length w → all_digits (b ∷ v) ≡ true
    → all_digits (c ∷ w) ≡ true → (b ≡ c → ⊥) → ltb (value_from 0 (b ∷ v)) (value_from 0 (c ∷ w)) ≡ ltb b c
front_differs b c v w as_long e d n =
    ⊎_elim (λ (h : b < c).
    lt-ltb _ _ (front_less v w as_long b c (digit_low b (digits_first b v e)) h (digits_rest b v e))
    ∙ sym (lt-ltb b c h))
    (λ (h : c < b).
    le-ltb (value_from 0 (b ∷ v)) (value_from 0 (c ∷ w))
    (le_of_lt (front_less w v (sym as_long) c b (digit_low c (digits_first c w d)) h (digits_rest c w d)))
    ∙ sym (le-ltb b c (le_of_lt h))) (one_first b c n)
