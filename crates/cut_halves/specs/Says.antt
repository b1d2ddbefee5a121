-- What keeping a half's list ensures.
use Rattle.std.specs.Prelude.{◌≡◌, false, not, List, ℕ, ◌+◌, ◌≤◌, ltb, length, drop, Option}
use Rattle.model.specs.Basics.{when}
use Rattle.model.specs.Limits.{max_points}
use Rattle.model.specs.Frontiers.{Point}
use Rattle.rows.specs.Rows.{row_at, list_in}
use Rattle.pass_list.specs.Says.{is_full, count_of}
use Rattle.layout.specs.Layout.{first_row}

-- a half's list fs stands from the row on, or it is longer than a list may be; where the rows end before it,
-- the first half's list stays
pub record KeptSays (p n : ℕ) (fs : List Point) (row : ℕ) (work work' : List ℕ) (f : Option ℕ) : Type 0 where
  pub full : is_full f ≡ ltb max_points (length fs)
  pub count : count_of f ≡ when (not (is_full f)) (length fs)
  pub list : is_full f ≡ false → list_in p n work' row (count_of f) ≡ fs
  pub long : length work' ≡ length work
  pub behind : row + max_points ≤ first_row → drop (row_at first_row) work' ≡ drop (row_at first_row) work
