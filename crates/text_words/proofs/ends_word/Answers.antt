-- What `ends_word` leaves to show: what is left at the place starts with the byte there, or is empty.
use Rattle.std.proofs.Common.{sym, ◌∙◌, arith}
use Rattle.text_words.proofs.Places.{break_here, break_end}
use Rattle.text_words.proofs.ends_word.Goals as goal

pub returns-then-at-s : goal.returns-then-at-s
returns-then-at-s c = c.is_space.ensures ∙ sym (break_here c.args.s.now c.args.at (omega arith))

pub returns : goal.returns
returns c = sym (break_end c.args.s.now c.args.at (omega arith))
