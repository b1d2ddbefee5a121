-- What `is_less` leaves to show: without leading zeros the shorter number is less.
use Rattle.text_words.proofs.Widths.{width_less}
use Rattle.text_words.proofs.is_less.Goals as goal

pub returns-then-a_width-b_width : goal.returns-then-a_width-b_width
returns-then-a_width-b_width c =
    let a = c.args.a in
    let b = c.args.b in
    width_less c.args.s.now a.from a.end c.skip_zeros-a_start.result b.from b.end c.skip_zeros-b_start.result
    c.skip_zeros-a_start.ensures c.skip_zeros-b_start.ensures c.requires.0.within c.requires.1.within
    c.if-a_width-b_width.true
