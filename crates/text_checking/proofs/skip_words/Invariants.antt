-- The loop of `skip_words`: so many words are read.
use Rattle.std.proofs.Common.{◌≡◌, ◌≤◌, length, drop}
use Rattle.text_words.specs.Reads.{words_at}
use Rattle.text_checking.proofs.skip_words.Given as goal

abbrev pub invariant-loop-i : goal.invariant-loop-i
invariant-loop-i l =
    record { within : l.next ≤ length l.s; words : words_at l.s l.next ≡ drop l._i (words_at l.s l.at) }
