-- What `put_two` leaves to show: the bytes of the number are the two that are named.
use Rattle.std.proofs.Common.{◌≡◌, ◌<◌, ◌%◌, ◌/◌, ◌∙◌, ℕ, [], ◌∷◌, w16, arith}
use Rattle.std.specs.Int.{to_le_bytes}
use Rattle.model.specs.Encoding.{two_bytes}
use Rattle.text_lines.proofs.Writing.{written_as}
use Rattle.text_reading.proofs.put_two.Goals as goal

two_low_first : (x : ℕ) → x < 65536 → to_le_bytes w16 x ≡ two_bytes x
unfolding two_bytes
two_low_first x h =
    let last : x / 256 % 256 ≡ x / 256 = omega arith in
    λ i. x % 256 ∷ last i ∷ []

pub returns : goal.returns
returns c = written_as (c.to_le_bytes.ensures ∙ two_low_first c.args.x c.requires.0) c.put_bytes.ensures
