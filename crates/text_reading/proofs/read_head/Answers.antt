-- What `read_head` leaves to show: the numbers are below the cap, since nothing is refused.
use Rattle.text_reading.proofs.Heads.{line_read, bound_some, ceiling_fits, head_says}
use Rattle.text_reading.proofs.read_head.Goals as goal

pub overflow_sub-result : goal.overflow_sub-result
overflow_sub-result c =
    bound_some
    (line_read c.requires c.next_word-name.ensures c.read_number-variables.ensures c.read_number-largest.ensures
    c.read_number-functions.ensures c.read_number-bound.ensures)

pub overflow_cast-result : goal.overflow_cast-result
overflow_cast-result c =
    let line =
    line_read c.requires c.next_word-name.ensures c.read_number-variables.ensures c.read_number-largest.ensures
    c.read_number-functions.ensures c.read_number-bound.ensures in
    record { fits = ceiling_fits line }

pub returns : goal.returns
returns c =
    head_says
    (line_read c.requires c.next_word-name.ensures c.read_number-variables.ensures c.read_number-largest.ensures
    c.read_number-functions.ensures c.read_number-bound.ensures)
