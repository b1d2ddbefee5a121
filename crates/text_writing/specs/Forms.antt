-- The first line of a text, and the lines of the text of the record at a place of a problem's bytes.
use Rattle.std.specs.Prelude.{List, [], ◌∷◌, ◌++◌, map, ℕ, length, drop}
use Rattle.model.specs.Problems.{Table}
use Rattle.model.specs.Reading.{table_scope, table_of, tables_at}
use Rattle.costs.specs.Entries.{number_at}
use Rattle.text_words.specs.Texts.{space, line}
use Rattle.text_networks.specs.Networks.{sizes_over}
use Rattle.text_networks.specs.NetworkTexts.{written_cost, written_table, letter_p, tuple_line, tuple_lines}

-- the name, how many variables, the largest domain size, how many functions, the upper bound
abbrev pub first_line : ℕ → ℕ → ℕ → ℕ → List ℕ
first_line n largest r bound = letter_p ∷ space ∷ line (n ∷ largest ∷ r ∷ bound ∷ [])

-- a record's first line, with a default cost and a number of tuples
abbrev pub head_line : List ℕ → ℕ → ℕ → ℕ → List ℕ
head_line s at default count =
    let vs = table_scope (drop at s) in
    line (length vs ∷ vs ++ (default ∷ count ∷ []))

-- a record's table, and those of r records, as they are written under an upper bound
abbrev pub written_at : ℕ → List ℕ → List ℕ → ℕ → Table
written_at bound ds s at = written_table bound (table_of ds (drop at s))

abbrev pub written_from : ℕ → ℕ → List ℕ → List ℕ → ℕ → List Table
written_from bound r ds s at = map (written_table bound) (tables_at r ds s at)

-- the line of entry i; those of all entries
abbrev pub entry_line : ℕ → List ℕ → List ℕ → ℕ → ℕ → List ℕ
entry_line bound ds s at i =
    tuple_line (sizes_over ds (table_scope (drop at s))) i (written_cost bound (number_at ds s at i))

abbrev pub table_lines : ℕ → List ℕ → List ℕ → ℕ → List ℕ
table_lines bound ds s at = tuple_lines (sizes_over ds (table_scope (drop at s))) 0 (written_at bound ds s at).costs
