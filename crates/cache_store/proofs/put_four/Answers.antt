-- What `put_four` leaves to show: the bytes of the number are the four that are named.
use Rattle.std.proofs.Common.{◌∙◌, arith}
use Rattle.model.specs.Encoding.{four_bytes, two_bytes}
use Rattle.form_canonical.proofs.Places.{over_part}
use Rattle.cache_store.proofs.Costs.{four_low_first}
use Rattle.cache_store.proofs.put_four.Goals as goal

pub returns : goal.returns
unfolding four_bytes two_bytes
returns c =
    over_part c.args.at _ (four_bytes c.args.x) _ c.args.out.now
    (c.copy_from_slice.ensures.after ∙ c.to_le_bytes.ensures ∙ four_low_first c.args.x (omega arith)) (omega arith)
