-- The largest number of a list below a ceiling: it is found one number at a time, and none below the ceiling is larger.
use Rattle.std.proofs.Common.{◌≡◌, ℕ, zero, suc, ◌+◌, ◌<◌, ◌≤◌, max, List, [], ◌∷◌, length, get_or, drop, refl, ◌∙◌}
use Rattle.std.proofs.Common.{add-one, arith, drop_of_length-le, drop-cons, le-ltb, lt-ltb}
use Rattle.model.specs.Problems.{size_of}
use Rattle.model.specs.Reading.{table_arity, table_scope, table_of}
use Rattle.model.specs.Core.{entry_end}
use Rattle.model.proofs.Core.{weighed_length}
use Rattle.model.proofs.Words.{length_words_in}
use Rattle.costs.specs.Entries.{table_at, entries_at}
use Rattle.plan_spreads.specs.LargestCosts.{largest_under}

-- a table has as many entries as its scope says
pub entries_many : (ds s : List ℕ) (at : ℕ) → length (table_at ds s at).costs ≡ entries_at ds s at
unfolding table_of
entries_many ds s at =
    let t = drop at s in
    weighed_length _ ∙ length_words_in (size_of ds (table_scope t)) (drop (4 + table_arity t) t)

module _ (c : ℕ) where
  under_first : (x : ℕ) (xs : List ℕ) → x < c → largest_under c (x ∷ xs) ≡ max x (largest_under c xs)
  unfolding largest_under
  under_first x xs h = rw (lt-ltb x c h) refl

  over_first : (x : ℕ) (xs : List ℕ) → c ≤ x → largest_under c (x ∷ xs) ≡ largest_under c xs
  unfolding largest_under
  over_first x xs h = rw (le-ltb x c h) (omega arith)

  pub at_most_largest : (xs : List ℕ) (i : ℕ) → get_or xs i 0 < c → get_or xs i 0 ≤ largest_under c xs
  unfolding largest_under
  at_most_largest [] i h = omega arith
  at_most_largest (x ∷ xs) zero h = omega (arith, under_first x xs h)
  at_most_largest (x ∷ xs) (suc i) h = omega (arith, at_most_largest xs i h)

-- ## the loop over a table's entries

-- the least and the largest number below c of the first i; the least is above the largest where there is none
pub record Scanned (c : ℕ) (xs : List ℕ) (low most i : ℕ) : Type 0 where
  pub small : most < entry_end
  pub none : most < low → most ≡ 0
  pub rest : max most (largest_under c (drop i xs)) ≡ largest_under c xs

module _ {c : ℕ} {xs : List ℕ} {low most i : ℕ} (u : Scanned c xs low most i) where
  pub scan_end : length xs ≤ i → most ≡ largest_under c xs
  unfolding largest_under
  scan_end h = let end = rw (drop_of_length-le xs {i = i} h) at u.rest in omega (arith, end)

  module _ (h : i < length xs) where
    step : drop i xs ≡ get_or xs i 0 ∷ drop (i + 1) xs
    step = rw add-one (drop-cons xs i 0 h)

    -- a number from the ceiling on is left out
    pub scan_over : c ≤ get_or xs i 0 → Scanned c xs low most (i + 1)
    scan_over over =
        record {
          small = u.small;
          none = u.none;
          rest = rw (step, over_first c (get_or xs i 0) (drop (i + 1) xs) over) at u.rest;
        }

    -- one below it counts
    pub scan_under : {x l m : ℕ} → x ≡ get_or xs i 0 → x < c → x < entry_end → l ≤ x → m ≡ max most x
        → Scanned c xs l m (i + 1)
    scan_under {x = x} {l = l} {m = m} is under fits least new =
        let rest = rw (step, ← is, under_first c x (drop (i + 1) xs) under) at u.rest in
        record { small = omega (arith, u.small); none = λ (k : m < l). omega arith; rest = omega (arith, rest) }
