-- What `is_ahead` leaves to show: equal costs are those of which neither is earlier.
use Rattle.std.proofs.Common.{◌≡◌, ◌∙◌, sym, length, take, length-take-le, arith}
use Rattle.cut_sums.specs.Sums.{point_of}
use Rattle.cut_sums.proofs.Ahead.{costs_four, ahead_later, ahead_tied}
use Rattle.cut_sums.proofs.is_ahead.Goals as goal

pub returns-then-is_earlier-2 : goal.returns-then-is_earlier-2
returns-then-is_earlier-2 c =
    let a = c.args in
    ahead_later (point_of a.p a.n a.sum) (point_of a.p a.n a.held) (sym c.is_earlier-2.ensures ∙ c.if-is_earlier-2.true)

pub returns : goal.returns
returns c =
    let a = c.args in
    let front : length (take a.p a.sum.costs) ≡ a.p = length-take-le a.p a.sum.costs
    (omega (arith, c.requires.0, costs_four a.sum _ c.well_formed.0)) in
    let other : length (take a.p a.held.costs) ≡ a.p = length-take-le a.p a.held.costs
    (omega (arith, c.requires.0, costs_four a.held _ c.well_formed.1.0)) in
    c.is_earlier_choice.ensures
    ∙ ahead_tied (point_of a.p a.n a.sum) (point_of a.p a.n a.held) (front ∙ sym other)
    (sym c.is_earlier.ensures ∙ c.if-is_earlier.false)
    (sym c.is_earlier-2.ensures ∙ c.if-is_earlier-2.false)
