-- What `twice_code` leaves to show, by the answer of `repeats`.
use Rattle.std.proofs.Common.{arith}
use Rattle.text_checking.specs.Codes.{found_of}
use Rattle.text_checking.proofs.twice_code.Goals as goal

pub returns-then-repeats : goal.returns-then-repeats
unfolding found_of
returns-then-repeats c = (omega arith, λ _. rw (← c.repeats.ensures, c.if-repeats.true))

pub returns : goal.returns
unfolding found_of
returns c = (omega arith, λ _. rw (← c.repeats.ensures, c.if-repeats.false))
