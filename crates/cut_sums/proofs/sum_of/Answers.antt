-- What `sum_of` leaves to show: the first costs and values of two rows are added.
use Rattle.std.proofs.Common.{◌≡◌, ◌∙◌, ℕ, take}
use Rattle.model.specs.Limits.{max_objectives, max_variables}
use Rattle.model.specs.Vectors.{added}
use Rattle.rows.specs.Rows.{costs_in, values_in}
use Rattle.rows.proofs.RowNumbers.{costs_front, values_front}
use Rattle.cut_sums.proofs.sum_of.Goals as goal

pub costs_sum-costs-requires : goal.costs_sum-costs-requires
costs_sum-costs-requires c =
    let a = c.args in
    let front = λ (i : ℕ). costs_front a.work.now i a.p max_objectives c.requires.0 in (
      c.requires.0,
      rw (c.row_costs.ensures, front a.i) c.requires.4,
      rw (c.row_costs-2.ensures, front a.j) c.requires.5,
    )

pub choice_sum-choice-requires : goal.choice_sum-choice-requires
choice_sum-choice-requires c =
    let a = c.args in
    let front = λ (i : ℕ). values_front a.work.now i a.n max_variables c.requires.1 in
    (c.requires.1, rw (c.row_choice.ensures, c.row_choice-2.ensures, front a.i, front a.j) c.requires.6)

pub returns : goal.returns
returns c =
    let a = c.args in
    let w = a.work.now in
    let front_costs = λ (i : ℕ). costs_front w i a.p max_objectives c.requires.0 in
    let front_values = λ (i : ℕ). values_front w i a.n max_variables c.requires.1 in
    let costs : take a.p c.costs_sum-costs.result ≡ added (costs_in a.p w a.i) (costs_in a.p w a.j) =
    c.costs_sum-costs.ensures ∙ rw (c.row_costs.ensures, c.row_costs-2.ensures, front_costs a.i, front_costs a.j) in
    let choice : take a.n c.choice_sum-choice.result ≡ added (values_in a.n w a.i) (values_in a.n w a.j) =
    c.choice_sum-choice.ensures
    ∙ rw (c.row_choice.ensures, c.row_choice-2.ensures, front_values a.i, front_values a.j) in
    rw (costs, choice)
