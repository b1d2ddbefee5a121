-- What the loop of `read_digits` leaves to show: no digits at first, and one more.
use Rattle.std.proofs.Common.{sym, ap, ◌∙◌, ℕ, ◌+◌, ◌-◌, ◌*◌, min, get_or, arith}
use Rattle.text_words.specs.Texts.{all_digits, value_from}
use Rattle.text_words.specs.Reads.{cap_end}
use Rattle.text_words.proofs.Values.{cap_step}
use Rattle.text_words.proofs.Parts.{part_empty}
use Rattle.text_words.proofs.Places.{digits_more, value_more}
use Rattle.text_words.proofs.read_digits.Goals as goal

pub loop-i-init : goal.loop-i-init
unfolding all_digits value_from
loop-i-init c =
    let none = part_empty c.args.s.now c.args.at in
    record { digits = ap all_digits none; value = rw none }

pub loop-i-preserved : goal.loop-i-preserved
loop-i-preserved c =
    let s = c.args.s.now in
    let w = c.loop-i.invariant in
    record {
      digits =
          digits_more s c.args.at c.loop-i.i (omega arith) c.loop-i-test.true w.digits
          (sym c.is_digit.ensures ∙ c.if-not-is_digit.false);
      value =
          c.with_digit-value.ensures
          ∙ ap (λ (v : ℕ). min (10 * v + (get_or s c.loop-i.i 0 - 48)) cap_end) w.value
          ∙ cap_step _ _
          ∙ ap (λ (v : ℕ). min v cap_end)
          (sym (value_more s c.args.at c.loop-i.i (omega arith) c.loop-i-test.true));
    }
