-- What the loop of `extent_at` leaves to show.
use Rattle.std.proofs.Common.{◌<◌, ◌≤◌, length, sym, ◌∙◌, arith}
use Rattle.costs.specs.Entries.{table_at}
use Rattle.plan_spreads.proofs.LargestEntries.{entries_many, scan_over, scan_under, scan_end}
use Rattle.plan_spreads.proofs.extent_at.Goals as goal
use Rattle.plan_spreads.proofs.extent_at.Goals.{then-cost-ceiling, else-cost-ceiling}

pub loop-i-preserved : goal.loop-i-preserved
loop-i-preserved c =
    let a = c.args in
    let inside : c.loop-i.i < length (table_at a.sizes.now a.s.now a.at).costs =
    omega (arith, entries_many a.sizes.now a.s.now a.at, c.entries_of-count.ensures) in
    let read = c.table_entry-cost.ensures in
    elim c.if-cost-ceiling.branch [
      | then-cost-ceiling w ↦ scan_under c.loop-i.invariant inside read.0 w.if-cost-ceiling.true read.1
          (omega arith) (omega arith)
      | else-cost-ceiling w ↦ rw (w.low-is, w.most-is)
          (scan_over c.loop-i.invariant inside (omega (arith, w.if-cost-ceiling.false, read.0)))
    ]

pub returns-then-most-low : goal.returns-then-most-low
returns-then-most-low c =
    let a = c.args in
    let all : length (table_at a.sizes.now a.s.now a.at).costs ≤ c.loop-i.i =
    omega (arith, entries_many a.sizes.now a.s.now a.at, c.entries_of-count.ensures) in
    (sym (c.loop-i.invariant.none c.if-most-low.true) ∙ scan_end c.loop-i.invariant all, omega arith)

pub returns : goal.returns
returns c =
    let a = c.args in (
      scan_end c.loop-i.invariant (omega (arith, entries_many a.sizes.now a.s.now a.at, c.entries_of-count.ensures)),
      c.loop-i.invariant.small,
    )
