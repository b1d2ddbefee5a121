-- What the loop of `meet_row` leaves to show: each turn meets one sum more.
use Rattle.std.proofs.Common.{◌∙◌, sym, arith}
use Rattle.rows.specs.Rows.{point_in}
use Rattle.rows.proofs.RowParts.{row_has}
use Rattle.pass_search.specs.States.{held_of}
use Rattle.layout.specs.Layout.{second_row}
use Rattle.cut_sums.specs.Sums.{point_of, SmallCosts}
use Rattle.cut_sums.proofs.Meeting.{meets_start, meets_end, meets_next, paired_values}
use Rattle.cut_sums.proofs.meet_row.Goals as goal

pub sum_of-sum-requires : goal.sum_of-sum-requires
sum_of-sum-requires c =
    let j = c.loop-j.j in
    let a = c.args in
    let h = c.requires in
    let words = row_has a.p a.n a.work.now SmallCosts second_row a.b h.second_small j (omega arith) in (
      h.objectives,
      h.variables,
      omega (arith, h.long, h.row),
      omega (arith, h.long, h.second_count),
      h.small,
      words,
      paired_values h j (omega arith),
    )

pub loop-j-preserved : goal.loop-j-preserved
loop-j-preserved c =
    let a = c.args in
    let w = c.loop-j in
    meets_next a.p a.n a.ceilings a.work.now a.k (point_in a.p a.n a.work.now a.i) a.b w.j (held_of a.p a.n w.best)
    (held_of a.p a.n c.take_sum-best.result) (omega arith) (point_of a.p a.n c.sum_of-sum.result) c.sum_of-sum.ensures
    c.take_sum-best.ensures
    ∙ w.invariant

pub returns : goal.returns
returns c =
    let a = c.args in
    let w = c.loop-j in
    let x = point_in a.p a.n a.work.now a.i in
    sym (meets_end a.p a.n a.ceilings a.work.now a.k x a.b w.j (held_of a.p a.n w.best) (omega arith))
    ∙ w.invariant
    ∙ meets_start a.p a.n a.ceilings a.work.now a.k x a.b (held_of a.p a.n a.held)
