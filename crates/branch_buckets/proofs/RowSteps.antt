-- Rows of eight numbers: filling one, number by number, and several, row by row.
use mathlib.Core.Path.{◌≡◌, refl, ◌∙◌}
use mathlib.Core.Logic.{◌⊎◌, inl, inr, ⊎_elim}
use mathlib.Core.List.{List}
use Prim.Native.Nat.{ℕ, ◌+◌, ◌*◌, ◌≤◌, ◌<◌}
use native.Mathlib.Omega.{arith}
use borrow.Author.Count.{below_more}
use lib.ListN.{length, get_or, set, length-set}
use lib.Seq.{get_or-set_same, get_or-set_other}

-- j of n numbers from `at` on are f's, the others are as before
pub record Filling (f : ℕ → ℕ) (at n : ℕ) (before : List ℕ) (j : ℕ) (rows : List ℕ) : Type 0 where
  pub few : j ≤ n
  pub long : length rows ≡ length before
  pub done : (i : ℕ) → i < j → get_or rows (at + i) 0 ≡ f i
  pub rest : (i : ℕ) → (i < at) ⊎ (at + j ≤ i) → get_or rows i 0 ≡ get_or before i 0

pub filling_start : (f : ℕ → ℕ) (at n : ℕ) (before : List ℕ) → Filling f at n before 0 before
filling_start f at n before = record {
  few = omega arith;
  long = refl;
  done = λ i h. absurd (omega arith);
  rest = λ i h. refl;
}

module _ {f : ℕ → ℕ} {at n : ℕ} {before : List ℕ} {j : ℕ} {rows : List ℕ} (u : Filling f at n before j rows) where
  filling_put : at + n ≤ length before → j < n → (y : ℕ) → y ≡ f j → Filling f at n before (j + 1) (set rows (at + j) y)
  filling_put room more y is =
      let inside : at + j < length rows = omega (arith, u.long) in
      let other : (i : ℕ) → (i ≡ at + j → ⊥) → get_or (set rows (at + j) y) i 0 ≡ get_or rows i 0 =
      λ i h. get_or-set_other rows (at + j) i y 0 h in
      record {
        few = omega arith;
        long = length-set rows (at + j) y ∙ u.long;
        done =
            below_more (λ i. get_or (set rows (at + j) y) (at + i) 0 ≡ f i) j
            (λ i h. other (at + i) (λ e. omega arith) ∙ u.done i h) (get_or-set_same rows (at + j) y 0 inside ∙ is);
        rest =
            λ i. ⊎_elim (λ (h : i < at). other i (λ e. omega arith) ∙ u.rest i (inl h))
            (λ (h : at + (j + 1) ≤ i). other i (λ e. omega arith) ∙ u.rest i (inr (omega arith)));
      }

  pub filling_next : at + n ≤ length before → j < n → (y : ℕ) → y ≡ f j → (i : ℕ) → i ≡ at + j
      → Filling f at n before (j + 1) (set rows i y)
  filling_next room more y is i e = rw e (filling_put room more y is)

-- the rows of the values below a are f's, what follows is as before
pub record RowsFilled (f : ℕ → ℕ → ℕ) (before : List ℕ) (a : ℕ) (rows : List ℕ) : Type 0 where
  pub long : length rows ≡ length before
  pub done : (b j : ℕ) → b < a → j < 8 → get_or rows (8 * b + j) 0 ≡ f b j
  pub rest : (i : ℕ) → 8 * a ≤ i → get_or rows i 0 ≡ get_or before i 0
