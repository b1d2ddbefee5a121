-- What `put_network` leaves to show: what is due behind each part of the text.
use Rattle.std.proofs.Common.{refl, arith}
use Rattle.text_lines.proofs.Writing.{last}
use Rattle.text_writing.proofs.Networks.{first_due, sizes_due, functions_next}
use Rattle.text_writing.proofs.put_network.Goals as goal

pub put_first_line-behind_first-requires : goal.put_first_line-behind_first-requires
put_first_line-behind_first-requires c =
    let a = c.args in
    first_due a.s.now a.head a.sizes.now c.requires _ c.largest_of-largest.ensures _ refl _ refl a.out.now

pub put_line-behind_sizes-requires : goal.put_line-behind_sizes-requires
put_line-behind_sizes-requires c =
    let a = c.args in
    sizes_due a.s.now a.head a.sizes.now c.requires _ c.largest_of-largest.ensures _ refl _ refl a.out.now
    c.put_first_line-behind_first.ensures _ _ (omega (arith, c.requires.some)) c.wide-size.ensures

pub put_functions-requires : goal.put_functions-requires
put_functions-requires c =
    let a = c.args in (
      rw c.tables_start-start.ensures c.requires.whole,
      c.requires.small,
      omega arith,
      (functions_next a.s.now a.head a.sizes.now c.requires _ c.largest_of-largest.ensures _ refl _
          c.tables_start-start.ensures a.out.now c.put_first_line-behind_first.ensures _ _
          (omega (arith, c.requires.some)) c.wide-size.ensures c.put_line-behind_sizes.ensures).placed,
    )

pub returns : goal.returns
returns c =
    let a = c.args in
    last
    (functions_next a.s.now a.head a.sizes.now c.requires _ c.largest_of-largest.ensures _ refl _
    c.tables_start-start.ensures a.out.now c.put_first_line-behind_first.ensures _ _
    (omega (arith, c.requires.some)) c.wide-size.ensures c.put_line-behind_sizes.ensures)
    c.put_functions.ensures
