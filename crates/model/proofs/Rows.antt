-- The one table of examples, from bytes, under one statement: the reference's starred cases first, then rows that tell
-- the definitions from near ones.
use mathlib.Core.List.{List, ◌++◌}
use Rattle.model.specs.Basics.{All}
use Rattle.model.proofs.Elements.{all_append}
use Rattle.model.proofs.ExampleRow.{Row, Right}
use Rattle.model.proofs.StarredRows.{starred_rows, starred_right}
use Rattle.model.proofs.ReadingRows.{reading_rows, reading_right}
use Rattle.model.proofs.FrontierRows.{frontier_rows, frontier_right}
use Rattle.model.proofs.CeilingRows.{ceiling_rows, ceiling_right}
use Rattle.model.proofs.CutRows.{cut_rows, cut_right}
use Rattle.model.proofs.BoundRows.{bound_rows, bound_right}

abbrev pub rows : List Row
rows = starred_rows ++ reading_rows ++ frontier_rows ++ ceiling_rows ++ cut_rows ++ bound_rows

pub rows_right : All Right rows
rows_right =
    all_append Right starred_rows (reading_rows ++ frontier_rows ++ ceiling_rows ++ cut_rows ++ bound_rows)
    starred_right (
    all_append Right reading_rows (frontier_rows ++ ceiling_rows ++ cut_rows ++ bound_rows) reading_right (
    all_append Right frontier_rows (ceiling_rows ++ cut_rows ++ bound_rows) frontier_right (
    all_append Right ceiling_rows (cut_rows ++ bound_rows) ceiling_right (
    all_append Right cut_rows bound_rows cut_right (
    bound_right)))))
