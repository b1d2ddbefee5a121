-- What the loop of `next_sum` leaves to show: each turn meets the sums of one row more.
use Rattle.std.proofs.Common.{◌∙◌, sym, arith}
use Rattle.model.specs.Search.{nothing}
use Rattle.pass_search.specs.States.{held_of}
use Rattle.cut_sums.proofs.Meeting.{pass_start, pass_end, pass_next, halved_paired}
use Rattle.cut_sums.proofs.next_sum.Goals as goal

pub loop-i-init : goal.loop-i-init
loop-i-init c =
    let a = c.args in
    pass_start a.p a.n a.ceilings a.work.now a.k a.a a.b nothing

pub meet_row-best-requires : goal.meet_row-best-requires
meet_row-best-requires c = halved_paired c.requires c.loop-i.i (omega arith)

pub loop-i-preserved : goal.loop-i-preserved
loop-i-preserved c =
    let a = c.args in
    let w = c.loop-i in
    pass_next a.p a.n a.ceilings a.work.now a.k a.a a.b w.i (held_of a.p a.n w.best)
    (held_of a.p a.n c.meet_row-best.result) (omega arith) c.meet_row-best.ensures
    ∙ w.invariant

pub returns : goal.returns
returns c =
    let a = c.args in
    let w = c.loop-i in
    sym (pass_end a.p a.n a.ceilings a.work.now a.k a.a a.b w.i (held_of a.p a.n w.best) (omega arith)) ∙ w.invariant
