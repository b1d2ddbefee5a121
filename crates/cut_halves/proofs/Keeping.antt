-- A half's list kept behind the list that is made: rows copied to other rows, and rows before them as they were.
use mathlib.Core.Path.{◌≡◌, ◌∙◌}
use mathlib.Core.Logic.{◌⊎◌, inl}
use mathlib.Core.List.{List, ◌++◌}
use Prim.Native.Nat.{ℕ, ◌+◌, ◌*◌, ◌≤◌}
use native.Mathlib.Omega.{arith}
use lib.ListN.{length, take, drop, length-drop, length-append}
use lib.Seq.{length-take-le, take-append-le, drop_at}
use Rattle.model.specs.Limits.{max_objectives, max_variables, max_points, work_need}
use Rattle.model.specs.Frontiers.{Point}
use Rattle.model.proofs.Lists.{part_same}
use Rattle.layout.specs.Layout.{list_at, search_end, row_width, first_row, second_row}
use Rattle.groups.proofs.Overwritten.{over, over_length, over_behind, over_here}
use Rattle.rows.specs.Rows.{row_at, list_in}
use Rattle.rows.proofs.RowsKept.{behind_rows, copied_rows}
use Rattle.std.specs.Prelude.{Option}
use Rattle.pass_list.specs.Says.{FoundSays, is_full, count_of}
use Rattle.cut_sums.specs.Sums.{first_in}
use Rattle.answers.proofs.FoundRows.{found_few}
use Rattle.cut_halves.specs.Says.{KeptSays}

-- a list that is not longer than its room
pub kept_few : {p n row : ℕ} {fs : List Point} {was work : List ℕ} {f : Option ℕ} → KeptSays p n fs row was work f
    → count_of f ≤ max_points
kept_few {fs = fs} {f = f} h = found_few (is_full f) max_points (count_of f) (length fs) h.full h.count

-- the rows of the first half, where nothing from them on changed
pub first_same : (p n : ℕ) (was work : List ℕ) → drop (row_at first_row) work ≡ drop (row_at first_row) was → (a : ℕ)
    → first_in p n work a ≡ first_in p n was a
first_same p n was work e a = behind_rows (row_at first_row) work was e p n first_row a (omega arith)

-- the list that was found in the front part of memory is copied to a row behind it
module _ {p n : ℕ} {fs : List Point} (was : List ℕ) {front : List ℕ} {f : Option ℕ}
    (says : FoundSays p n fs max_points (take search_end was) front f) (long : work_need ≤ length was) (row : ℕ)
    (low : second_row ≤ row) (high : row ≤ first_row) where
  abbrev work : List ℕ
  work = front ++ drop search_end was

  front_length : length front ≡ search_end
  front_length = says.long ∙ length-take-le search_end was (omega arith)

  work_length : length work ≡ length was
  work_length = length-append front (drop search_end was) ∙ omega (arith, front_length, length-drop search_end was)

  abbrev size : ℕ
  size = row_width * count_of f

  pub copied_count : count_of f ≤ max_points
  copied_count = found_few (is_full f) max_points (count_of f) (length fs) says.full says.count

  pub copied_asked :
      (list_at + size ≤ length work) × (row_at row + size ≤ length work)
      × ((list_at + size ≤ row_at row) ⊎ (row_at row + size ≤ list_at))
  copied_asked = (
    omega (arith, copied_count, work_length),
    omega (arith, copied_count, work_length),
    inl (omega (arith, copied_count)),
  )

  module _ (few : p ≤ max_objectives) (values : n ≤ max_variables) (copied : List ℕ)
      (is : copied ≡ over work (row_at row) (take size (drop list_at work)) (row_at row + size)) where
    part_size : length (take size (drop list_at work)) ≡ size
    part_size = length-take-le size (drop list_at work) (omega (arith, copied_asked.0, length-drop list_at work))

    ends : row_at row + size ≡ row_at row + length (take size (drop list_at work))
    ends = omega (arith, part_size)

    -- the list lies in the front part
    front_rows : list_in p n work 0 (count_of f) ≡ list_in p n front 0 (count_of f)
    front_rows =
        copied_rows p n few values work front 0 0 (count_of f)
        (part_same search_end size list_at work front (omega (arith, copied_count))
        (take-append-le search_end front (drop search_end was) (omega (arith, front_length))))

    same_rows : list_in p n copied row (count_of f) ≡ list_in p n work 0 (count_of f)
    same_rows =
        copied_rows p n few values copied work row 0 (count_of f)
        (rw is
        (rw part_size
        at (over_here work (row_at row) (take size (drop list_at work)) (row_at row + size) ends copied_asked.1)))

    pub copied_says : KeptSays p n fs row was copied f
    copied_says =
        record {
          full = says.full;
          count = says.count;
          list = λ t. same_rows ∙ front_rows ∙ says.list t;
          long =
              rw is
              (over_length work (row_at row) (take size (drop list_at work)) (row_at row + size) ends copied_asked.1
              ∙ work_length);
          behind =
              λ before. rw is
              (over_behind work (row_at row) (take size (drop list_at work)) (row_at row + size) ends copied_asked.1
              search_end (omega (arith, copied_count))
              ∙ drop_at front (drop search_end was) search_end front_length);
        }
