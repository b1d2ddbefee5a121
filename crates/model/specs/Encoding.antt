-- A problem as bytes: one `HD` record, a `DO` record for each variable, the `CF` records. Numbers are little-endian.
use Rattle.std.specs.Prelude.{List, [], ◌∷◌, ◌++◌, ℕ, ◌≤◌, ◌<◌, ◌/◌, ◌%◌, length}
use Rattle.model.specs.Limits.{max_bytes, byte_end, short_end}
use Rattle.model.specs.Problems.{Table, Problem, RecordRules}

abbrev pub Byte : ℕ → Type 0
Byte b = b < byte_end

-- the letters of the marks
abbrev pub letter_c : ℕ
letter_c = 67

abbrev pub letter_d : ℕ
letter_d = 68

abbrev pub letter_f : ℕ
letter_f = 70

abbrev pub letter_h : ℕ
letter_h = 72

abbrev pub letter_o : ℕ
letter_o = 79

unfoldable pub two_bytes : ℕ → List ℕ
two_bytes x = x % byte_end ∷ x / byte_end ∷ []

unfoldable pub four_bytes : ℕ → List ℕ
four_bytes x = two_bytes (x % short_end) ++ two_bytes (x / short_end)

unfoldable pub word_bytes : List ℕ → List ℕ
word_bytes [] = []
word_bytes (x ∷ xs) = four_bytes x ++ word_bytes xs

unfoldable pub head_bytes : Problem → List ℕ
head_bytes q =
    (letter_h ∷ letter_d ∷ length q.domains ∷ q.objectives ∷ two_bytes (length q.tables)) ++ word_bytes q.ceilings

unfoldable pub domain_bytes : List ℕ → List ℕ
domain_bytes [] = []
domain_bytes (d ∷ ds) = letter_d ∷ letter_o ∷ d ∷ domain_bytes ds

unfoldable pub table_bytes : Table → List ℕ
table_bytes t = (letter_c ∷ letter_f ∷ t.objective ∷ length t.scope ∷ t.scope) ++ word_bytes t.costs

unfoldable pub tables_bytes : List Table → List ℕ
tables_bytes [] = []
tables_bytes (t ∷ ts) = table_bytes t ++ tables_bytes ts

unfoldable pub encode : Problem → List ℕ
encode q = head_bytes q ++ domain_bytes q.domains ++ tables_bytes q.tables

-- a problem that keeps the record rules and the limit of bytes
pub record WellFormed (q : Problem) : Type 0 where
  pub rules : RecordRules q
  pub short : length (encode q) ≤ max_bytes
