-- What `put_four` leaves to show: the bytes of the number are the four that are named.
use Rattle.std.proofs.Common.{◌≡◌, ◌<◌, ◌%◌, ◌/◌, ◌^◌, ◌∙◌, ℕ, [], ◌∷◌, w32, refl, arith}
use Rattle.std.specs.Int.{to_le_bytes}
use Rattle.model.specs.Encoding.{two_bytes, four_bytes}
use Rattle.text_lines.proofs.Writing.{written_as}
use Rattle.text_reading.proofs.put_four.Goals as goal

four_low_first : (x : ℕ) → x < 2 ^ 32 → to_le_bytes w32 x ≡ four_bytes x
unfolding four_bytes two_bytes
four_low_first x h =
    let first : x % 256 ≡ x % 65536 % 256 = omega arith in
    let second : x / 256 % 256 ≡ x % 65536 / 256 = omega arith in
    let third : x / 65536 % 256 ≡ x / 65536 % 256 = refl in
    let last : x / 16777216 % 256 ≡ x / 65536 / 256 = omega arith in
    λ i. first i ∷ second i ∷ third i ∷ last i ∷ []

pub returns : goal.returns
returns c = written_as (c.to_le_bytes.ensures ∙ four_low_first c.args.x (omega arith)) c.put_bytes.ensures
