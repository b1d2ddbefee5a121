-- The loop of `key_of`: what is done and what is left give the key of the whole.
use Rattle.std.proofs.Common.{◌≡◌, drop}
use Rattle.form_keys.specs.Keys.{key_from, key_start}
use Rattle.form_keys.proofs.key_of.Given as goal

abbrev pub invariant-loop-byte : goal.invariant-loop-byte
invariant-loop-byte l = key_from l.key (drop l.byte-index l.bytes) ≡ key_from key_start l.bytes
