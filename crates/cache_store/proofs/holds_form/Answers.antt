-- What `holds_form` leaves to show: a slot of another length is told by its length word alone.
use Rattle.std.proofs.Common.{sym, ◌∙◌}
use Rattle.cache_store.proofs.Slots.{other_length, same_length}
use Rattle.cache_store.proofs.holds_form.Goals as goal

pub returns-then-four_at-form : goal.returns-then-four_at-form
returns-then-four_at-form c =
    let other = rw c.four_at.ensures at c.if-four_at-form.true in
    sym (other_length c.args.form.now c.args.slot.now other)

pub returns : goal.returns
returns c =
    let one = rw c.four_at.ensures at c.if-four_at-form.false in
    c.starts_with.ensures ∙ sym (same_length c.args.form.now c.args.slot.now one)
