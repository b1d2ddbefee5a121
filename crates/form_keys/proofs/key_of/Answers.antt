-- What the loop of `key_of` leaves to show.
use Rattle.std.proofs.Common.{◌≡◌, refl, ◌∙◌, ℕ, List, ◌+◌, ◌*◌, ◌%◌, ◌^◌, ◌<◌, ◌≤◌, length, get_or, drop}
use Rattle.std.proofs.Common.{add-one, drop-cons, drop_of_length-le}
use Rattle.std.specs.Int.Bits.{bit_xor}
use Rattle.form_keys.specs.Keys.{key_from, key_prime}
use Rattle.form_keys.proofs.key_of.Goals as goal

-- one byte more, and none left
key_more : (bytes : List ℕ) (i key r : ℕ) → i < length bytes → r ≡ bit_xor (get_or bytes i 0) key * key_prime % 2 ^ 64
    → key_from r (drop (i + 1) bytes) ≡ key_from key (drop i bytes)
unfolding key_from
key_more bytes i key r h e = rw (add-one, drop-cons bytes i 0) (rw e refl)

key_end : (bytes : List ℕ) (i key : ℕ) → length bytes ≤ i → key ≡ key_from key (drop i bytes)
unfolding key_from
key_end bytes i key h = rw (drop_of_length-le bytes h) refl

pub loop-byte-preserved : goal.loop-byte-preserved
loop-byte-preserved c =
    key_more _ c.loop-byte.byte-index _ _ c.loop-byte-test.true c.key_step-key.ensures ∙ c.loop-byte.invariant

pub returns : goal.returns
returns c = key_end _ c.loop-byte.byte-index _ c.loop-byte-test.false ∙ c.loop-byte.invariant
