-- The loop of `digit_count`: what is left has the digits that are not counted yet.
use Rattle.std.proofs.Common.{◌≡◌, suc, ◌+◌, ◌-◌, ◌/◌, ◌<◌, ◌≤◌}
use Rattle.text_lines.proofs.Digits.{more_digits, tens}
use Rattle.text_lines.proofs.digit_count.Given as goal

abbrev pub invariant-loop-left : goal.invariant-loop-left
invariant-loop-left l =
    record {
      some : 1 ≤ l.count;
      few : l.count ≤ 10;
      small : l.left < tens (10 - l.count);
      digits : l.count + more_digits (10 - l.count) l.left ≡ suc (more_digits 9 (l.x / 10));
    }

abbrev pub decreases-loop-left : goal.decreases-loop-left
decreases-loop-left l = l.left
