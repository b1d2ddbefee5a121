-- The loop of `put_digits`: the digits that are left stand before those written.
use Rattle.std.proofs.Common.{◌≡◌, ◌++◌, ◌-◌, ◌≤◌, take, drop}
use Rattle.text_words.specs.Texts.{decimal}
use Rattle.text_lines.proofs.Digits.{last_digits}
use Rattle.text_lines.proofs.put_digits.Given as goal

abbrev pub invariant-loop-k : goal.invariant-loop-k
invariant-loop-k l =
    record {
      after : l.at ≤ l.k;
      front : take l.k l.out ≡ take l.k l.initial.out;
      digits : last_digits (l.k - l.at) l.left (drop l.k l.out) ≡ decimal l.x ++ drop l.end l.initial.out;
    }
