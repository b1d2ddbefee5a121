-- A list that is filled from the front, and the words that its numbers were read from.
use mathlib.Core.Path.{◌≡◌, refl, sym, ap, ◌∙◌}
use mathlib.Core.Logic.{⊎_elim}
use mathlib.Core.List.{List, [], ◌∷◌, ◌++◌, map}
use Prim.Native.Nat.{ℕ, zero, suc, ◌+◌, ◌≤◌, ◌<◌, min}
use native.Mathlib.Omega.{arith}
use native.Mathlib.Nat.{zero-add, suc-add}
use lib.ListN.{length, get_or, take, drop, set, length-set, length-take}
use lib.Seq.{get_or-set_same, get_or-set_other, ext_get_or, get_or-take}
use Rattle.model.proofs.Numbers.{equal_or}
use Rattle.text_words.specs.Reads.{cap_end}
use Rattle.text_networks.specs.Findings.{Words, value_at, values_in}
use Rattle.text_networks.proofs.Lists.{drop_one, get_d_one}
use Rattle.text_networks.proofs.FineTables.{values_count}
use Rattle.text_checking.specs.Steps.{Holds}
use Rattle.text_checking.proofs.Codes.{lt_or_ge}

pub holds_more : (g : ℕ → ℕ → Type 0) (i : ℕ) (l : List ℕ) (x : ℕ) → Holds g i l → g i x → Holds g (i + 1) (set l i x)
holds_more g i l x h here k few inside =
    let in-l : k < length l = omega (arith, length-set l i x) in
    ⊎_elim (λ (e : k ≡ i).
    let at_i : i < length l = omega arith in
    rw (e, get_or-set_same l i x 0 at_i) here)
    (λ (n : k ≡ i → ⊥). rw (get_or-set_other l i k x 0 n) (h k (omega (arith, n)) in-l)) (equal_or k i)

-- each number up to a place is put anew, the others are kept
module _ (i : ℕ) (l : List ℕ) (x : ℕ) where
  pub anew_more : (g : ℕ → ℕ → Type 0) → i < length l → ((k : ℕ) → k < i → g k (get_or l k 0)) → g i x
      → (k : ℕ) → k < i + 1 → g k (get_or (set l i x) k 0)
  anew_more g inside h here k few =
      ⊎_elim (λ (e : k ≡ i). rw (e, get_or-set_same l i x 0 inside) here)
      (λ (n : k ≡ i → ⊥). rw (get_or-set_other l i k x 0 n) (h k (omega (arith, n)))) (equal_or k i)

  pub kept_more : (g : ℕ → ℕ) → ((k : ℕ) → i ≤ k → get_or l k 0 ≡ g k) → (k : ℕ) → i + 1 ≤ k
      → get_or (set l i x) k 0 ≡ g k
  kept_more g h k few = get_or-set_other l i k x 0 (λ e. omega arith) ∙ h k (omega arith)

-- ## numbers in words

pub values_at : (n : ℕ) (ws : Words) (v : ℕ) → v < n → get_or (values_in n ws) v 0 ≡ value_at v ws
unfolding values_in
values_at zero ws v h = absurd (omega arith)
values_at (suc n) ws zero h = refl
values_at (suc n) ws (suc v) h = values_at n (drop 1 ws) v (omega arith) ∙ rw (← get_d_one [] v ws)

pub values_none : (n : ℕ) (ws : Words) (v : ℕ) → n ≤ v → get_or (values_in n ws) v 0 ≡ 0
unfolding values_in
values_none zero ws v h = refl
values_none (suc n) ws zero h = absurd (omega arith)
values_none (suc n) ws (suc v) h = values_none n (drop 1 ws) v (omega arith)

-- a variable's number up to the cap finds the same size
pub values_capped : (n : ℕ) (ws : Words) (v : ℕ) → n ≤ cap_end
    → get_or (values_in n ws) (min v cap_end) 0 ≡ get_or (values_in n ws) v 0
values_capped n ws v h =
    ⊎_elim (λ (k : v < cap_end). let e : min v cap_end ≡ v = omega arith in rw e)
    (λ (k : cap_end ≤ v). values_none n ws (min v cap_end) (omega arith) ∙ sym (values_none n ws v (omega arith)))
    (lt_or_ge v cap_end)

pub values_split : (a b : ℕ) (ws : Words) → values_in (a + b) ws ≡ values_in a ws ++ values_in b (drop a ws)
unfolding values_in
values_split zero b ws = rw zero-add
values_split (suc a) b ws =
    rw (suc-add, drop_one a ws) (ap (λ (l : List ℕ). value_at 0 ws ∷ l) (values_split a b (drop 1 ws)))

pub map_at : (f : ℕ → ℕ) (l : List ℕ) (i : ℕ) → i < length l → get_or (map f l) i 0 ≡ f (get_or l i 0)
map_at f [] i h = absurd (omega arith)
map_at f (x ∷ l) zero h = refl
map_at f (x ∷ l) (suc i) h = map_at f l i (omega arith)

-- a list that was filled with the numbers
pub filled_values : (ws : Words) (n : ℕ) (l : List ℕ) → n ≤ length l → Holds (λ k v. v ≡ value_at k ws) n l
    → take n l ≡ values_in n ws
filled_values ws n l few h =
    let long : length (take n l) ≡ n = length-take n l ∙ omega arith in
    ext_get_or 0 (take n l) (values_in n ws) (long ∙ sym (values_count n ws))
    (λ i k.
    let low : i < n = omega arith in
    get_or-take n l i 0 low ∙ h i low (omega arith) ∙ sym (values_at n ws i low))
