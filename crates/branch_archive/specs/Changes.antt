-- What the changes of the archive ensure, row by row. The points stand in c rows of work memory.
use Rattle.std.specs.Prelude.{◌≡◌, ◌⊎◌, true, false, List, ℕ, ◌≤◌, ◌<◌, take}
use Rattle.model.specs.Limits.{max_objectives, max_points}
use Rattle.model.specs.Vectors.{at_most, earlier}
use Rattle.model.specs.Frontiers.{point}
use Rattle.model.specs.Calls.{padded}
use Rattle.model.specs.Archive.{weighted, Serves}
use Rattle.rows.specs.Rows.{costs_in, values_in, point_in, row_in, Framed, RowWritten}
use Rattle.branch_archive.specs.declared.Taken as DT

-- the most that a weight may be
abbrev pub max_weight : ℕ
max_weight = 4096

-- costs that stand once
abbrev pub Apart : ℕ → List ℕ → ℕ → Type 0
Apart p work c = (a b : ℕ) → a < c → b < c → costs_in p work a ≡ costs_in p work b → a ≡ b

-- rows i and m have changed places
pub record Exchanged (work : List ℕ) (i m : ℕ) (work' : List ℕ) : Type 0 where
  pub frame : Framed work work'
  pub first : row_in work' i ≡ row_in work m
  pub second : row_in work' m ≡ row_in work i
  pub others : (j : ℕ) → j ≤ max_points → (j ≡ i → ⊥) → (j ≡ m → ⊥) → row_in work' j ≡ row_in work j

-- of c rows those that v beats or matches are taken out; so far the first i of `left` rows are tested
pub record Dropping (p c : ℕ) (v work : List ℕ) (i left : ℕ) (work' : List ℕ) : Type 0 where
  pub frame : Framed work work'
  pub fewer : left ≤ c
  pub unbeaten : (j : ℕ) → j < i → at_most (take p v) (costs_in p work' j) ≡ false
  pub old : (j : ℕ) → j < left → (k : ℕ) × (k < c) × (row_in work' j ≡ row_in work k)
  pub kept : (k : ℕ) → k < c → at_most (take p v) (costs_in p work k) ≡ false
      → (j : ℕ) × (j < left) × (row_in work' j ≡ row_in work k)
  pub apart : Apart p work c → Apart p work' left

-- the choice x with the costs v against row i, whose costs match them: the row does as well,
-- or it takes the earlier choice
abbrev pub Kept : ℕ → ℕ → List ℕ → List ℕ → List ℕ → ℕ → List ℕ → Type 0
Kept p n v x work i work' =
    ((work' ≡ work) × Serves (point_in p n work i) (point (take p v) (take n x)))
    ⊎ ((take p v ≡ costs_in p work i) × (earlier (take n x) (values_in n work i) ≡ true)
    × RowWritten work i (point (padded max_objectives (take p v)) x) work')

-- the new point has the largest sum: it is not stored
pub record Refused (p c : ℕ) (ws v work : List ℕ) (t : DT.Taken) (work' : List ℕ) : Type 0 where
  pub unadded : t.added ≡ false
  pub same : work' ≡ work
  pub sum : t.limit ≡ weighted ws (take p v)
  pub largest : (j : ℕ) → j < c → weighted ws (costs_in p work j) ≤ weighted ws (take p v)

-- row i has the largest sum: the new point takes its place
pub record Replaced (p c : ℕ) (ws v x work : List ℕ) (t : DT.Taken) (work' : List ℕ) : Type 0 where
  pub row : ℕ
  pub inside : row < c
  pub stored : RowWritten work row (point (padded max_objectives (take p v)) x) work'
  pub sum : t.limit ≡ weighted ws (costs_in p work row)
  pub largest : (j : ℕ) → j < c → weighted ws (costs_in p work j) ≤ weighted ws (costs_in p work row)
  pub smaller : weighted ws (take p v) ≤ weighted ws (costs_in p work row)

pub record TakenOver (p c : ℕ) (ws v x work : List ℕ) (t : DT.Taken) (work' : List ℕ) : Type 0 where
  pub count : t.points ≡ c
  pub way : Refused p c ws v work t work' ⊎ Replaced p c ws v x work t work'
