-- What reading a text finds, item after item.
use Rattle.std.specs.Prelude.{Bool, List, ℕ, zero, suc, get_or, drop, [], ◌∷◌}
use Rattle.model.specs.Basics.{pick}
use Rattle.text_words.specs.Texts.{Term, number, negative, other, term_of, value_of}

abbrev pub Words : Type 0
Words = List (List ℕ)

-- nothing to refuse; content that is refused, behind which reading goes on; a negative number, behind which nothing is
-- read; what is not the format
pub data Finding : Type 0 where
  fine : Finding
  dialect : Finding
  stop : Finding
  fault : Finding

-- a finding, and then what follows
unfoldable pub and_then : Finding → Finding → Finding
and_then fine b = b
and_then dialect fine = dialect
and_then dialect dialect = dialect
and_then dialect stop = stop
and_then dialect fault = fault
and_then stop b = stop
and_then fault b = fault

-- what is found where a test passes, and nothing else
abbrev pub find_if : Bool → Finding → Finding
find_if test found = pick test found fine

-- a word as a number: what its number gives, and what is found where it is negative
unfoldable pub field : Finding → (ℕ → Finding) → Term → Finding
field below f (number x) = f x
field below f negative = below
field below f other = fault

-- word i, as a term and as a number; a word that is missing is no number
abbrev pub term_at : ℕ → Words → Term
term_at i ws = term_of (get_or ws i [])

abbrev pub value_at : ℕ → Words → ℕ
value_at i ws = value_of (term_at i ws)

unfoldable pub values_in : ℕ → Words → List ℕ
values_in zero ws = []
values_in (suc n) ws = value_at 0 ws ∷ values_in n (drop 1 ws)

-- n items one after another, each of `width` words
unfoldable pub runs : ℕ → (Words → Finding) → ℕ → Words → Finding
runs zero f width ws = fine
runs (suc n) f width ws = and_then (f ws) (runs n f width (drop width ws))
