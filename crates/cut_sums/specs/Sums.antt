-- The sums of two lists of points in work memory: what the passes over them rely on and ensure.
use mathlib.Core.List.{List, Memᴰ as In}
use Rattle.std.specs.Prelude.{ℕ, ◌+◌, ◌≤◌, ◌<◌, length, take}
use Rattle.model.specs.Basics.{All}
use Rattle.model.specs.Limits.{max_objectives, max_variables, max_points, max_domain}
use Rattle.model.specs.Core.{core_sum_end}
use Rattle.model.specs.Vectors.{added}
use Rattle.model.specs.Frontiers.{Point, point}
use Rattle.model.specs.Merging.{all_sums}
use Rattle.layout.specs.Layout.{first_row, second_row, halves_end}
use Rattle.rows.specs.Rows.{point_in, list_in}
use Rattle.pass_search.specs.declared.Met as DM

-- the halves' lists, of a and b points, and their sums under the ceilings
abbrev pub first_in : ℕ → ℕ → List ℕ → ℕ → List Point
first_in p n work a = list_in p n work first_row a

abbrev pub second_in : ℕ → ℕ → List ℕ → ℕ → List Point
second_in p n work b = list_in p n work second_row b

abbrev pub sums_in : ℕ → ℕ → List ℕ → List ℕ → ℕ → ℕ → List Point
sums_in p n ceilings work a b = all_sums (take p ceilings) (first_in p n work a) (second_in p n work b)

-- the point of a sum that is met or held, with p costs and n values
abbrev pub point_of : ℕ → ℕ → DM.Met → Point
point_of p n h = point (take p h.costs) (take n h.choice)

-- costs of which two can be added: sums of the core
abbrev pub SmallCosts : Point → Type 0
SmallCosts t = All (λ c. c < core_sum_end) t.costs

-- values of domains
abbrev pub Values : List ℕ → Type 0
Values xs = All (λ v. v < max_domain) xs

-- memory in which the point in row i may be added to each of the second half's: k listed points,
-- costs that can be added, and added choices that are values of domains
pub record Paired (p n k i b : ℕ) (work : List ℕ) : Type 0 where
  pub long : halves_end ≤ length work
  pub objectives : p ≤ max_objectives
  pub variables : n ≤ max_variables
  pub count : k ≤ max_points
  pub row : i < first_row + max_points
  pub second_count : b ≤ max_points
  pub small : SmallCosts (point_in p n work i)
  pub second_small : All SmallCosts (second_in p n work b)
  pub values : (y : Point) → In y (second_in p n work b) → Values (added (point_in p n work i).choice y.choice)

-- memory in which a merge may run: k listed points, and two lists whose costs can be added and whose added choices are
-- values of domains
pub record Halved (p n k a b : ℕ) (work : List ℕ) : Type 0 where
  pub long : halves_end ≤ length work
  pub objectives : p ≤ max_objectives
  pub variables : n ≤ max_variables
  pub count : k ≤ max_points
  pub first_count : a ≤ max_points
  pub second_count : b ≤ max_points
  pub first_small : All SmallCosts (first_in p n work a)
  pub second_small : All SmallCosts (second_in p n work b)
  pub values : (x y : Point) → In x (first_in p n work a) → In y (second_in p n work b)
      → Values (added x.choice y.choice)
