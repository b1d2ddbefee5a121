-- The loop of `check_far`: the values so far are read, and nothing is found; the word of the next variable.
use Rattle.std.proofs.Common.{◌≡◌, [], ◌≤◌, length, drop}
use Rattle.text_words.specs.Reads.{words_at}
use Rattle.text_checking.specs.Sizes.{scope_sizes}
use Rattle.text_checking.proofs.Values.{ValuesRead}
use Rattle.text_checking.proofs.check_far.Given as goal

abbrev pub invariant-loop-i : goal.invariant-loop-i
invariant-loop-i l =
    record {
      read : ValuesRead l.s (scope_sizes l.s [] l.fn.far l.fn.declared) l.at l._i l.next;
      within : l.word ≤ length l.s;
      words : words_at l.s l.word ≡ drop l._i (words_at l.s l.fn.far.at);
    }
