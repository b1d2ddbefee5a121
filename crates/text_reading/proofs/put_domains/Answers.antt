-- What the loop of `put_domains` leaves to show.
use Rattle.std.proofs.Common.{add-one, arith}
use Rattle.text_lines.proofs.Writing.{begin, due, go_on, done}
use Rattle.text_reading.specs.Heads.{domain_list}
use Rattle.text_reading.proofs.Forms.{domain_next, domains_end}
use Rattle.text_reading.proofs.put_domains.Goals as goal

pub loop-size-init : goal.loop-size-init
loop-size-init c = begin c.args.out.now c.requires.1

pub put_bytes-next-requires : goal.put_bytes-next-requires
put_bytes-next-requires c =
    due (domain_next (domain_list c.args.d) c.loop-size.size-index (omega arith)) c.loop-size.invariant

pub loop-size-preserved : goal.loop-size-preserved
loop-size-preserved c =
    rw add-one
    (go_on (domain_next (domain_list c.args.d) c.loop-size.size-index (omega arith)) c.loop-size.invariant
    c.put_bytes-next.ensures)

pub returns : goal.returns
returns c = done (rw (domains_end (domain_list c.args.d) c.loop-size.size-index (omega arith)) at c.loop-size.invariant)
