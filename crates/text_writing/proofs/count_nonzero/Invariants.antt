-- The loop of `count_nonzero`: those counted and those ahead are all.
use Rattle.std.proofs.Common.{◌≡◌, ◌+◌, drop}
use Rattle.model.specs.Reading.{table_of}
use Rattle.text_networks.specs.NetworkTexts.{nonzero}
use Rattle.text_writing.proofs.count_nonzero.Given as goal

abbrev pub invariant-loop-i : goal.invariant-loop-i
invariant-loop-i l =
    let cs = (table_of l.sizes (drop l.at l.s)).costs in
    l.count + nonzero (drop l.i cs) ≡ nonzero cs
