-- What `take_sum` leaves to show: its tests are those of a pass over one sum, in their order.
use Rattle.std.proofs.Common.{◌∙◌, sym}
use Rattle.rows.specs.Rows.{list_in}
use Rattle.cut_sums.proofs.Taking.{taken_over, taken_listed, taken_later, taken_ahead, taken_first}
use Rattle.cut_sums.proofs.take_sum.Goals as goal

pub returns-then-not-is_under : goal.returns-then-not-is_under
returns-then-not-is_under c =
    let a = c.args in
    taken_over a.p a.n (list_in a.p a.n a.work.now 0 a.k) a.ceilings a.sum a.held
    (sym c.is_under.ensures ∙ c.if-not-is_under.true)

pub returns-then-is_matched : goal.returns-then-is_matched
returns-then-is_matched c =
    let a = c.args in
    taken_listed a.p a.n (list_in a.p a.n a.work.now 0 a.k) a.ceilings a.sum a.held
    (sym c.is_under.ensures ∙ c.if-not-is_under.false)
    (sym c.is_matched.ensures ∙ c.if-is_matched.true)

pub returns-then-not-is_ahead : goal.returns-then-not-is_ahead
returns-then-not-is_ahead c =
    let a = c.args in
    taken_later a.p a.n (list_in a.p a.n a.work.now 0 a.k) a.ceilings a.sum a.held
    (sym c.is_under.ensures ∙ c.if-not-is_under.false) (sym c.is_matched.ensures ∙ c.if-is_matched.false)
    c.in-Some.least c.in-Some.is (sym c.is_ahead.ensures ∙ c.if-not-is_ahead.true)

pub returns-else-not-is_ahead : goal.returns-else-not-is_ahead
returns-else-not-is_ahead c =
    let a = c.args in
    taken_ahead a.p a.n (list_in a.p a.n a.work.now 0 a.k) a.ceilings a.sum a.held
    (sym c.is_under.ensures ∙ c.if-not-is_under.false) (sym c.is_matched.ensures ∙ c.if-is_matched.false)
    c.in-Some.least c.in-Some.is (sym c.is_ahead.ensures ∙ c.if-not-is_ahead.false)

pub returns-in_default : goal.returns-in_default
returns-in_default c =
    let a = c.args in
    taken_first a.p a.n (list_in a.p a.n a.work.now 0 a.k) a.ceilings a.sum a.held
    (sym c.is_under.ensures ∙ c.if-not-is_under.false) (sym c.is_matched.ensures ∙ c.if-is_matched.false)
    c.in_default.is
