-- The loop of `check_tuples`: the tuples so far are read, and what is found does not decide.
use Rattle.std.proofs.Common.{suc, ◌+◌, length}
use Rattle.text_networks.specs.Networks.{tuple_finding}
use Rattle.text_checking.specs.Sizes.{scope_sizes}
use Rattle.text_checking.proofs.Runs.{RunRead}
use Rattle.text_checking.proofs.check_tuples.Given as goal

abbrev pub invariant-loop-i : goal.invariant-loop-i
invariant-loop-i l =
    RunRead l.s (tuple_finding (scope_sizes l.s l.entries l.fn.far l.fn.declared))
    (suc (length l.entries + l.fn.far.count)) l.count l.at l._i l.finding l.next
