-- Bytes written at a place of a buffer.
use Rattle.std.specs.Prelude.{List, ◌++◌, ℕ, ◌+◌, length, take, drop}

abbrev pub over_at : ℕ → List ℕ → List ℕ → List ℕ
over_at at bytes out = take at out ++ (bytes ++ drop (at + length bytes) out)
