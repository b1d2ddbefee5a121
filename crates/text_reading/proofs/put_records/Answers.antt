-- What `put_records` leaves to show: the head, the domain sizes, the tables.
use Rattle.text_reading.proofs.Records.{head_read, sizes_read, head_small, sizes_small, domains_room, functions_at}
use Rattle.text_reading.proofs.Records.{records_put}
use Rattle.text_reading.proofs.put_records.Goals as goal

pub read_domains-domains-requires : goal.read_domains-domains-requires
read_domains-domains-requires c =
    let head = head_read c.requires.0 c.requires.2 c.read_head-head.ensures in
    (c.read_head-head.ensures.within, (head_small head).0, sizes_small head)

pub put_head-sizes-requires : goal.put_head-sizes-requires
put_head-sizes-requires c = head_small (head_read c.requires.0 c.requires.2 c.read_head-head.ensures)

pub put_domains-tables-requires : goal.put_domains-tables-requires
put_domains-tables-requires c =
    let head = head_read c.requires.0 c.requires.2 c.read_head-head.ensures in
    domains_room (sizes_read head c.read_domains-domains.ensures) _ c.put_head-sizes.ensures.next

pub put_functions-requires : goal.put_functions-requires
put_functions-requires c =
    let head = head_read c.requires.0 c.requires.2 c.read_head-head.ensures in
    functions_at (sizes_read head c.read_domains-domains.ensures) _ c.put_head-sizes.ensures.next _
    c.put_domains-tables.ensures.next

pub returns : goal.returns
returns c =
    let head = head_read c.requires.0 c.requires.2 c.read_head-head.ensures in
    records_put (sizes_read head c.read_domains-domains.ensures) c.put_head-sizes.ensures
    c.put_domains-tables.ensures c.put_functions.ensures c.requires.1
