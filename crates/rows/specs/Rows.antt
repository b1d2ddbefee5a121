-- The listed points in work memory, a row of 14 numbers each: four costs of two numbers, and 24 values of a byte, four
-- to a number.
use Rattle.std.specs.Prelude.{◌≡◌, ◌⊎◌, List, [], ◌∷◌, ℕ, zero, suc, ◌+◌, ◌*◌, ◌/◌, ◌%◌, ◌^◌, ◌≤◌, ◌<◌, length, get_or}
use Rattle.std.specs.Prelude.{take, drop}
use Rattle.model.specs.Basics.{All}
use Rattle.model.specs.Limits.{max_objectives, max_variables, max_points, word_end}
use Rattle.model.specs.Frontiers.{Point, point}
use Rattle.layout.specs.Layout.{list_at, row_width, list_end}

-- where row i starts
abbrev pub row_at : ℕ → ℕ
row_at i = list_at + row_width * i

-- the cost that stands at a place: two numbers, the low one first
unfoldable pub cost_at : List ℕ → ℕ → ℕ
cost_at work at = get_or work at 0 + word_end * get_or work (at + 1) 0

-- value v of those that stand from a place on: byte v % 4 of number v / 4
unfoldable pub value_at : List ℕ → ℕ → ℕ → ℕ
value_at work at v = get_or work (at + v / 4) 0 / 256 ^ (v % 4) % 256

-- what f gives from i on, k numbers
unfoldable pub tabulated : (ℕ → ℕ) → ℕ → ℕ → List ℕ
tabulated f i zero = []
tabulated f i (suc k) = f i ∷ tabulated f (i + 1) k

-- the first p costs of row i, and the first n values
unfoldable pub costs_in : ℕ → List ℕ → ℕ → List ℕ
costs_in p work i = tabulated (λ j. cost_at work (row_at i + 2 * j)) 0 p

unfoldable pub values_in : ℕ → List ℕ → ℕ → List ℕ
values_in n work i = tabulated (value_at work (row_at i + 8)) 0 n

-- the point in row i, with p costs and n values
abbrev pub point_in : ℕ → ℕ → List ℕ → ℕ → Point
point_in p n work i = point (costs_in p work i) (values_in n work i)

-- k points from row i on
unfoldable pub list_in : ℕ → ℕ → List ℕ → ℕ → ℕ → List Point
list_in p n work i zero = []
list_in p n work i (suc k) = point_in p n work i ∷ list_in p n work (i + 1) k

-- all of row i
abbrev pub row_in : List ℕ → ℕ → Point
row_in work i = point_in max_objectives max_variables work i

-- each of the first p costs of the first c rows
abbrev pub EachCost : (ℕ → Type 0) → ℕ → List ℕ → ℕ → Type 0
EachCost P p work c = (i : ℕ) → i < c → All P (costs_in p work i)

-- of all numbers only those at `size` places from `at` on have changed
pub record Changed (at size : ℕ) (work work' : List ℕ) : Type 0 where
  pub long : length work' ≡ length work
  pub others : (j : ℕ) → (j < at) ⊎ (at + size ≤ j) → get_or work' j 0 ≡ get_or work j 0

-- the costs or the values are written from a place on, and all else is kept
pub record CostsWritten (at : ℕ) (costs work work' : List ℕ) : Type 0 where
  pub changed : Changed at 8 work work'
  pub written : (j : ℕ) → j < max_objectives → cost_at work' (at + 2 * j) ≡ get_or costs j 0

pub record ValuesWritten (at : ℕ) (choice work work' : List ℕ) : Type 0 where
  pub changed : Changed at 6 work work'
  pub written : (v : ℕ) → v < max_variables → value_at work' at v ≡ get_or choice v 0

-- what stands before the list and behind it is kept
pub record Framed (work work' : List ℕ) : Type 0 where
  pub long : length work' ≡ length work
  pub before : take list_at work' ≡ take list_at work
  pub behind : drop list_end work' ≡ drop list_end work

-- row k is `row` now, and all else is kept
pub record RowWritten (work : List ℕ) (k : ℕ) (row : Point) (work' : List ℕ) : Type 0 where
  pub frame : Framed work work'
  pub written : row_in work' k ≡ row
  pub others : (j : ℕ) → j ≤ max_points → (j ≡ k → ⊥) → row_in work' j ≡ row_in work j
