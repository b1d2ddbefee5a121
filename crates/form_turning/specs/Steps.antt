-- A table's bytes read in even steps: along the rising scope, each variable with a stride of its own.
use Rattle.std.specs.Prelude.{List, [], ◌++◌, ℕ, zero, suc, ◌+◌, take, drop}

-- n strings, made from i, from i + stride and so on
unfoldable pub steps : ℕ → ℕ → (ℕ → List ℕ) → ℕ → List ℕ
steps zero stride f i = []
steps (suc n) stride f i = f i ++ steps n stride f (i + stride)

-- the four bytes at i
unfoldable pub entry_bytes : List ℕ → ℕ → List ℕ
entry_bytes s i = take 4 (drop i s)
