-- What `sum_at` leaves to show: the weights of a sum are a row of the table.
use Rattle.std.proofs.Common.{◌∙◌, ℕ, ◌*◌, ◌≤◌, drop}
use lib.Seq.{take-take}
use Rattle.model.proofs.Elements.{all_take}
use Rattle.branch_archive.specs.Changes.{max_weight}
use Rattle.branch_directions.proofs.TableRows.{row_all}
use Rattle.branch_directions.proofs.sum_at.Goals as goal

pub sum_of-requires : goal.sum_of-requires
sum_of-requires c =
    let d = c.args.d in
    let small : ℕ → Type 0 = λ w. w ≤ max_weight in (
      c.requires.0.few,
      c.requires.2,
      all_take small d.objectives c.row_of.result
          (row_all small d.weights c.row_of.result c.args.i c.row_of.ensures c.requires.0.small),
    )

pub returns : goal.returns
returns c =
    let d = c.args.d in
    c.sum_of.ensures
    ∙ rw (c.row_of.ensures, take-take d.objectives 4 (drop (4 * c.args.i) d.weights) c.requires.0.few)
