-- The loop of `read_digits`: digits so far, with their value up to the cap.
use Rattle.std.proofs.Common.{◌≡◌, true, min}
use Rattle.text_words.specs.Texts.{all_digits, value_from}
use Rattle.text_words.specs.Reads.{part, cap_end}
use Rattle.text_words.proofs.read_digits.Given as goal

abbrev pub invariant-loop-i : goal.invariant-loop-i
invariant-loop-i l =
    record {
      digits : all_digits (part l.s l.at l.i) ≡ true;
      value : l.value ≡ min (value_from 0 (part l.s l.at l.i)) cap_end;
    }
