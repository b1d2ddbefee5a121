-- What `put_first_line` leaves to show: what is due behind each part of the line.
use Rattle.text_lines.proofs.Writing.{last}
use Rattle.text_writing.proofs.FirstLines.{sizes_due, tables_due, bound_next}
use Rattle.text_writing.proofs.put_first_line.Goals as goal

pub put_spaced-behind_sizes-requires : goal.put_spaced-behind_sizes-requires
put_spaced-behind_sizes-requires c =
    let a = c.args in
    sizes_due a.variables a.largest a.tables a.bound a.out.now c.requires c.put_byte-behind_name.ensures
    c.put_byte-behind_space.ensures

pub put_number-behind_tables-requires : goal.put_number-behind_tables-requires
put_number-behind_tables-requires c =
    let a = c.args in
    tables_due a.variables a.largest a.tables a.bound a.out.now c.requires c.put_byte-behind_name.ensures
    c.put_byte-behind_space.ensures c.put_spaced-behind_sizes.ensures

pub put_number-requires : goal.put_number-requires
put_number-requires c =
    let a = c.args in
    (bound_next a.variables a.largest a.tables a.bound a.out.now c.requires c.put_byte-behind_name.ensures
    c.put_byte-behind_space.ensures c.put_spaced-behind_sizes.ensures c.put_number-behind_tables.ensures).placed

pub returns : goal.returns
returns c =
    let a = c.args in
    last
    (bound_next a.variables a.largest a.tables a.bound a.out.now c.requires c.put_byte-behind_name.ensures
    c.put_byte-behind_space.ensures c.put_spaced-behind_sizes.ensures c.put_number-behind_tables.ensures)
    c.put_number.ensures
