-- What `put_line` leaves to show: the numbers before the last, then the last.
use Rattle.text_lines.proofs.Lines.{line_last}
use Rattle.text_lines.proofs.Writing.{begin, due, go_on, last}
use Rattle.text_lines.proofs.put_line.Goals as goal

pub put_spaced-next-requires : goal.put_spaced-next-requires
put_spaced-next-requires c = due (line_last c.args.numbers.now c.args.last) (begin c.args.out.now c.requires)

pub put_number-requires : goal.put_number-requires
put_number-requires c =
    (go_on (line_last c.args.numbers.now c.args.last) (begin c.args.out.now c.requires) c.put_spaced-next.ensures
    ).placed

pub returns : goal.returns
returns c =
    last
    (go_on (line_last c.args.numbers.now c.args.last) (begin c.args.out.now c.requires) c.put_spaced-next.ensures)
    c.put_number.ensures
