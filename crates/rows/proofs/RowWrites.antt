-- A row written over work memory: it has the new costs and values, the other rows and all outside the list are kept.
use mathlib.Core.Path.{◌≡◌, sym, ap, ap₂, ◌∙◌}
use mathlib.Core.Logic.{inl, ⊎_elim}
use mathlib.Core.List.{List, ◌++◌}
use Prim.Native.Nat.{ℕ, ◌+◌, ◌*◌, ◌≤◌, ◌<◌}
use native.Mathlib.Omega.{arith}
use lib.ListN.{length, get_or, take, drop, length-drop}
use lib.Seq.{length-take-le, get_or-take, get_or-drop}
use Rattle.model.specs.Limits.{max_objectives, max_variables, max_points, word_end}
use Rattle.model.specs.Frontiers.{Point, point}
use Rattle.model.specs.Calls.{padded}
use Rattle.model.proofs.Lists.{get_d_later}
use Rattle.model.proofs.Points.{point_eq}
use Rattle.problem.proofs.Filled.{take_padded}
use Rattle.layout.specs.Layout.{list_end, row_width}
use Rattle.groups.proofs.Overwritten.{over_length, over_behind, over_before, over_here}
use Rattle.rows.specs.Rows.{row_at, cost_at, value_at, costs_in, values_in, point_in, row_in}
use Rattle.rows.specs.Rows.{Changed, Framed, RowWritten, CostsWritten, ValuesWritten}
use Rattle.rows.proofs.Tabulated.{tabulated_is}
use Rattle.rows.proofs.RowNumbers.{costs_front, values_front, equal_points}
use Rattle.rows.proofs.Changing.{changed_wider, changed_then, changed_row, changed_others}

-- only numbers of row k have changed, and the row is known
written_row : {k : ℕ} {work work' : List ℕ} → Changed (row_at k) row_width work work' → k ≤ max_points
    → list_end ≤ length work → (row : Point) → row_in work' k ≡ row → RowWritten work k row work'
written_row u few long row is =
    record { frame = changed_row u few long; written = is; others = λ j l apart. changed_others u j apart }

-- costs are written to row k, and then values behind them
module _ (k : ℕ) {costs choice work one two : List ℕ} (c : CostsWritten (row_at k) costs work one)
    (v : ValuesWritten (row_at k + 8) choice one two)
    (wide : length costs ≡ max_objectives) (full : length choice ≡ max_variables) where
  changed : Changed (row_at k) row_width work two
  changed =
      changed_then (changed_wider c.changed (row_at k) row_width (omega arith) (omega arith)) two
      (changed_wider v.changed (row_at k) row_width (omega arith) (omega arith))

  here_costs : costs_in max_objectives two k ≡ costs
  unfolding costs_in cost_at
  here_costs =
      tabulated_is (λ j. cost_at two (row_at k + 2 * j)) costs max_objectives wide (λ j l.
      ap₂ (λ (a b : ℕ). a + word_end * b) (v.changed.others (row_at k + 2 * j) (inl (omega arith)))
      (v.changed.others (row_at k + 2 * j + 1) (inl (omega arith)))
      ∙ c.written j l)

  here_values : values_in max_variables two k ≡ choice
  unfolding values_in
  here_values = tabulated_is (value_at two (row_at k + 8)) choice max_variables full v.written

  pub row_stored : k ≤ max_points → list_end ≤ length work → RowWritten work k (point costs choice) two
  row_stored few long = written_row changed few long (point costs choice) (point_eq here_costs here_values)

-- the numbers of row j are copied to row k
module _ (work work' : List ℕ) (j k : ℕ) (l : j ≤ max_points) (few : k ≤ max_points) (long : list_end ≤ length work)
    (is : work' ≡ take (row_at k) work ++ take row_width (drop (row_at j) work) ++ drop (row_at k + row_width) work)
  where
    abbrev numbers : List ℕ
    numbers = take row_width (drop (row_at j) work)

    ends : row_at k + row_width ≡ row_at k + length numbers
    ends = omega (arith, length-take-le row_width (drop (row_at j) work) (omega (arith, length-drop (row_at j) work)))

    inside : row_at k + row_width ≤ length work
    inside = omega arith

    here : (m : ℕ) → m < row_width → get_or work' (row_at k + m) 0 ≡ get_or work (row_at j + m) 0
    here m h =
        let count : length numbers ≡ row_width = omega (arith, ends) in
        let part : take row_width (drop (row_at k) work') ≡ numbers =
        rw is (rw count at (over_here work (row_at k) numbers (row_at k + row_width) ends inside)) in
        sym (get_or-take row_width (drop (row_at k) work') m 0 h ∙ get_or-drop (row_at k) work' m 0)
        ∙ ap (λ (xs : List ℕ). get_or xs m 0) part
        ∙ get_or-take row_width (drop (row_at j) work) m 0 h
        ∙ get_or-drop (row_at j) work m 0

    copied : Changed (row_at k) row_width work work'
    copied =
        record {
          long = rw is (over_length work (row_at k) numbers (row_at k + row_width) ends inside);
          others = λ m o. ⊎_elim
              (λ h. rw is (over_before work (row_at k) numbers (row_at k + row_width) ends inside m h))
              (λ h. behind m h)
              o;
        }
      where
        behind : (m : ℕ) → row_at k + row_width ≤ m → get_or work' m 0 ≡ get_or work m 0
        behind m h =
            get_d_later 0 m m work' work (omega arith)
            (rw is (over_behind work (row_at k) numbers (row_at k + row_width) ends inside m h))

    pub row_copied : RowWritten work k (row_in work j) work'
    row_copied =
        written_row copied few long (row_in work j)
        (equal_points work' work k j row_width here max_objectives max_variables (omega arith) (omega arith))

-- the point that stands in a written row
pub written_point : (work costs choice work' : List ℕ) (p n k : ℕ) → p ≤ max_objectives → n ≤ max_variables
    → length (take p costs) ≡ p → RowWritten work k (point (padded max_objectives (take p costs)) choice) work'
    → point_in p n work' k ≡ point (take p costs) (take n choice)
written_point work costs choice work' p n k few small wide w =
    point_eq
    (sym (costs_front work' k p max_objectives few) ∙ ap (λ (t : Point). take p t.costs) w.written
    ∙ take_padded max_objectives p (take p costs) wide)
    (sym (values_front work' k n max_variables small) ∙ ap (λ (t : Point). take n t.choice) w.written)

-- two changes that keep what is outside the list
pub framed_trans : {one two three : List ℕ} → Framed one two → Framed two three → Framed one three
framed_trans f g = record { long = g.long ∙ f.long; before = g.before ∙ f.before; behind = g.behind ∙ f.behind }
