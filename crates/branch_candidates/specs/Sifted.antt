-- Candidates of a table's rows: what is not among them is out, by what the table means. A list of candidates has the
-- numbers of rows, and behind them how many there are.
use Rattle.std.specs.Prelude.{◌≡◌, ◌⊎◌, List, ℕ, ◌≤◌, ◌<◌, length, get_or}

abbrev pub max_rows : ℕ
max_rows = 128

abbrev pub list_width : ℕ
list_width = 129

-- how many candidates a list has
abbrev pub count_in : List ℕ → ℕ
count_in c = get_or c max_rows 0

-- row i is one of the first `count` of `rows`
abbrev pub Among : List ℕ → ℕ → ℕ → Type 0
Among rows count i = (j : ℕ) × (j < count) × (get_or rows j 0 ≡ i)

-- each of m rows is a candidate, or out
pub record Sifted (m : ℕ) (out : ℕ → Type 0) (c : List ℕ) : Type 0 where
  pub long : length c ≡ list_width
  pub few : count_in c ≤ max_rows
  pub inside : (j : ℕ) → j < count_in c → get_or c j 0 < m
  pub rest : (i : ℕ) → i < m → Among c (count_in c) i ⊎ out i

-- of the first `j` candidates `old` those that are not out are the first `kept` of `rows`
pub record Sifting (m : ℕ) (out : ℕ → Type 0) (old : List ℕ) (j : ℕ) (rows : List ℕ) (kept : ℕ) : Type 0 where
  pub long : length rows ≡ list_width
  pub fewer : kept ≤ j
  pub inside : (k : ℕ) → k < kept → get_or rows k 0 < m
  pub rest : (k : ℕ) → k < j → Among rows kept (get_or old k 0) ⊎ out (get_or old k 0)
