-- What `put_number` leaves to show: the digits and then the byte.
use Rattle.std.proofs.Common.{ap, ℕ, ◌+◌, arith}
use Rattle.text_words.specs.Texts.{decimal}
use Rattle.text_lines.proofs.Writing.{written_between, byte_written, written_then}
use Rattle.text_lines.proofs.put_number.Goals as goal

pub returns : goal.returns
returns c =
    let a = c.args in
    let end : ℕ = a.at + c.digit_count.result in
    let there =
    written_between a.at end (decimal a.x) a.out.now _ (ap (λ (n : ℕ). a.at + n) c.digit_count.ensures) (omega arith)
    c.put_digits.ensures in
    written_then there (byte_written end a.behind _ (omega (arith, there.kept)))
