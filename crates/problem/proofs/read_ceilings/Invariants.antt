-- The loop of `read_ceilings`: the array is the numbers read so far, then zeros.
use Rattle.std.proofs.Common.{◌≡◌, drop}
use Rattle.model.specs.Limits.{max_objectives}
use Rattle.model.specs.Reading.{words_in}
use Rattle.model.specs.Calls.{padded}
use Rattle.problem.proofs.read_ceilings.Given as goal

abbrev pub invariant-loop-i : goal.invariant-loop-i
invariant-loop-i l = l.ceilings ≡ padded max_objectives (words_in l.i (drop 6 l.s))
