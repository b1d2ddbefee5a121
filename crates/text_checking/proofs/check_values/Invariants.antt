-- The loop of `check_values`: the values so far are read, and nothing is found.
use Rattle.text_checking.specs.Sizes.{sizes_held}
use Rattle.text_checking.proofs.Values.{ValuesRead}
use Rattle.text_checking.proofs.check_values.Given as goal

abbrev pub invariant-loop-e : goal.invariant-loop-e
invariant-loop-e l = ValuesRead l.s (sizes_held l.s l.entries) l.at l.e-index l.next
