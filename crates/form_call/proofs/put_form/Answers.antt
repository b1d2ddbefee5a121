-- What `put_form` leaves to show: as many parts are lent as there are records, and the records end the form.
use Rattle.std.proofs.Common.{ℕ, arith}
use lib.ListN.{length-replicate}
use Rattle.model.specs.Basics.{All}
use Rattle.model.specs.Limits.{max_bytes}
use Rattle.model.specs.Encoding.{Byte}
use Rattle.model.proofs.Elements.{all_each}
use Rattle.form_call.proofs.FormBytes.{no_bytes, parts_lent, records_due, form_written}
use Rattle.form_call.proofs.put_form.Goals as goal

pub put_records-requires : goal.put_records-requires
put_records-requires c =
    let a = c.args in
    let bytes : All Byte a.s.now = all_each Byte 0 a.s.now (λ i. omega (arith, c.type_inv.s i)) in
    records_due a.s.now a.head a.sizes.now c.requires.0 bytes c.tables_start-start.result
    c.tables_start-start.ensures a.form.now _ c.requires.1 c.copy_bytes.ensures _ no_bytes
    (parts_lent a.head.tables c.requires.0.few) (length-replicate {A = ℕ} max_bytes 0)

pub returns : goal.returns
returns c =
    let a = c.args in
    let bytes : All Byte a.s.now = all_each Byte 0 a.s.now (λ i. omega (arith, c.type_inv.s i)) in
    form_written a.s.now a.head a.sizes.now c.requires.0 bytes c.tables_start-start.result
    c.tables_start-start.ensures a.form.now _ c.requires.1 c.copy_bytes.ensures _ _
    (parts_lent a.head.tables c.requires.0.few) c.put_records.ensures
