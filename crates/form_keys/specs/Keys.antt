-- FNV-1a with 64 bits, in the words of its authors: for each byte, an exclusive or and then a product modulo 2^64.
use Rattle.std.specs.Prelude.{List, [], ◌∷◌, ℕ, ◌*◌, ◌%◌, ◌^◌}
use Rattle.std.specs.Int.Bits.{bit_xor}

-- the offset basis, and the prime
abbrev pub key_start : ℕ
key_start = 14695981039346656037

abbrev pub key_prime : ℕ
key_prime = 1099511628211

unfoldable pub key_from : ℕ → List ℕ → ℕ
key_from k [] = k
key_from k (b ∷ bs) = key_from (bit_xor b k * key_prime % 2 ^ 64) bs

abbrev pub key_of : List ℕ → ℕ
key_of bs = key_from key_start bs
