-- What `areas_fit` leaves to show: its tests in their order.
use Rattle.std.proofs.Common.{refl, ◌*◌, arith}
use borrow.Author.Tests.{le-leb, lt-leb}
use Rattle.batch_frames.specs.Outcomes.{cost_area, choice_area, areas_ok}
use Rattle.batch_frames.proofs.areas_fit.Goals as goal

pub returns-then-costs-count : goal.returns-then-costs-count
unfolding areas_ok
returns-then-costs-count c =
    let a = c.args in
    rw (lt-leb (cost_area * a.count) a.costs (omega arith)) refl

pub returns-then-choices-count : goal.returns-then-choices-count
unfolding areas_ok
returns-then-choices-count c =
    let a = c.args in
    rw (
      le-leb (cost_area * a.count) a.costs (omega arith),
      lt-leb (choice_area * a.count) a.choices (omega arith),
    ) refl

pub returns : goal.returns
unfolding areas_ok
returns c =
    let a = c.args in
    rw (
      le-leb (cost_area * a.count) a.costs (omega arith),
      le-leb (choice_area * a.count) a.choices (omega arith),
    ) refl
