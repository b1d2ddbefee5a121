-- What `put_table_head` leaves to show: behind the four bytes there is place for the scope, and both are the head.
use Rattle.text_lines.proofs.Writing.{written_then}
use Rattle.text_reading.proofs.put_table_head.Goals as goal

pub returns : goal.returns
returns c = written_then c.put_bytes-counts.ensures c.put_bytes.ensures
