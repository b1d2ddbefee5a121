-- What `put_head` leaves to show: the counts, the number of tables, the ceiling.
use Rattle.std.proofs.Common.{arith}
use Rattle.model.specs.Encoding.{two_bytes, four_bytes, word_bytes}
use Rattle.text_lines.proofs.Writing.{written_then}
use Rattle.text_reading.proofs.put_head.Goals as goal

pub put_four-requires : goal.put_four-requires
unfolding two_bytes
put_four-requires c = omega (arith, c.put_two-ceiling.ensures.next, c.put_bytes-counts.ensures.next)

pub returns : goal.returns
unfolding two_bytes four_bytes word_bytes
returns c =
    written_then (written_then c.put_bytes-counts.ensures c.put_two-ceiling.ensures) c.put_four.ensures
