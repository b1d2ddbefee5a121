-- Rows of numbers in a plan: two that undo each other, and one that falls to 0.
use Rattle.std.specs.Prelude.{◌≡◌, List, ℕ, ◌+◌, ◌≤◌, ◌<◌, get_or}

-- n numbers from `from` on are below n, and those from `to` on lead back
abbrev pub LeadsBack : ℕ → ℕ → ℕ → List ℕ → Type 0
LeadsBack from to n plan =
    (i : ℕ) → i < n → (get_or plan (from + i) 0 < n) × (get_or plan (to + get_or plan (from + i) 0) 0 ≡ i)

-- the numbers from `at` on fall, and number n is 0
pub record Falling (at n : ℕ) (plan : List ℕ) : Type 0 where
  pub falls : (k : ℕ) → k < n → get_or plan (at + (k + 1)) 0 ≤ get_or plan (at + k) 0
  pub last : get_or plan (at + n) 0 ≡ 0
