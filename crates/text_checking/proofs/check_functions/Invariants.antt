-- The loop of `check_functions`: the functions so far are read, and what is found does not decide.
use Rattle.text_checking.proofs.FunctionRuns.{FunctionsRead}
use Rattle.text_checking.proofs.check_functions.Given as goal

abbrev pub invariant-loop-i : goal.invariant-loop-i
invariant-loop-i l =
    FunctionsRead l.s l.fn.declared l.count l.front l.initial.finding l.initial.next l._i l.finding l.next l.bytes
