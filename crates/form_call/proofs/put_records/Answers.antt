-- What `put_records` leaves to show: the parts in order are the records of the form.
use Rattle.form_call.proofs.TurnedRecords.{records_asked, records_put}
use Rattle.form_call.proofs.put_records.Goals as goal

pub copy_parts-requires : goal.copy_parts-requires
copy_parts-requires c = records_asked c.turn_records.ensures c.sort_parts.ensures c.requires.2

pub returns : goal.returns
returns c = records_put c.turn_records.ensures c.sort_parts.ensures c.args.form.now c.copy_parts.ensures
