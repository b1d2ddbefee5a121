-- The loop of `front_less`: the comparison of what is left is that of all.
use Rattle.std.proofs.Common.{◌≡◌, true, ◌+◌, ltb}
use Rattle.text_words.specs.Texts.{all_digits, value_from}
use Rattle.text_words.specs.Reads.{part}
use Rattle.text_words.proofs.front_less.Given as goal

abbrev pub invariant-loop-i : goal.invariant-loop-i
invariant-loop-i l =
    record {
      first : all_digits (part l.s (l.a + l.i) (l.a + l.n)) ≡ true;
      second : all_digits (part l.s (l.b + l.i) (l.b + l.n)) ≡ true;
      less :
          ltb (value_from 0 (part l.s (l.a + l.i) (l.a + l.n))) (value_from 0 (part l.s (l.b + l.i) (l.b + l.n)))
          ≡ ltb (value_from 0 (part l.s l.a (l.a + l.n))) (value_from 0 (part l.s l.b (l.b + l.n)));
    }
