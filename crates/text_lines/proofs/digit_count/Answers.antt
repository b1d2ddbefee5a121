-- What `digit_count` leaves to show: one more digit is counted, and none is left.
use Rattle.std.proofs.Common.{◌≡◌, suc, ◌+◌, ◌-◌, ◌/◌, ◌<◌, arith}
use Rattle.text_lines.proofs.Digits.{more_digits, tens, tenth, some_digit, more_none, more_next, decimal_length}
use Rattle.text_lines.proofs.digit_count.Goals as goal

pub loop-left-preserved : goal.loop-left-preserved
loop-left-preserved c =
    let w = c.loop-left in
    let some = some_digit (10 - w.count) w.left (omega arith) w.invariant.small in
    let more : 10 - w.count ≡ suc (10 - (w.count + 1)) = omega arith in
    let small : w.left < tens (suc (10 - (w.count + 1))) = rw more at w.invariant.small in
    let said : w.count + more_digits (suc (10 - (w.count + 1))) w.left ≡ suc (more_digits 9 (c.args.x / 10)) =
    rw more at w.invariant.digits in
    record {
      some = omega arith;
      few = omega arith;
      small = tenth w.left (tens (10 - (w.count + 1))) small;
      digits = omega (arith, said, more_next (10 - (w.count + 1)) w.left (omega arith));
    }

pub returns : goal.returns
returns c =
    let w = c.loop-left in
    let none : w.left ≡ 0 = omega arith in
    omega (arith, rw (none, more_none) at w.invariant.digits, decimal_length c.args.x)
