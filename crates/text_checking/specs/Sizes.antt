-- Domain sizes of any length in a word of memory each.
use Rattle.std.specs.Prelude.{◌≡◌, List, ◌++◌, map, ℕ, ◌+◌, ◌-◌, ◌≤◌, ◌<◌, max, ltb, length, get_or}
use Rattle.model.specs.Basics.{pick}
use Rattle.text_words.specs.Texts.{value_of}
use Rattle.text_words.specs.Reads.{words_at, term_at, cap_end}
use Rattle.text_networks.specs.Findings.{values_in}
use Rattle.text_networks.specs.Networks.{sizes_over}
use Rattle.text_checking.specs.declared.Declared as DD
use Rattle.text_checking.specs.declared.Far as DF

-- an entry below this one is a size; the size of another stands in the text, as far behind this number
abbrev pub half : ℕ
half = 9223372036854775808

unfoldable pub entry_of : ℕ → ℕ → ℕ
entry_of value place = pick (ltb value half) value (half + place)

-- the size that an entry holds; none from `half` on is less than that
unfoldable pub size_held : List ℕ → ℕ → ℕ
size_held s e = pick (ltb e half) e (max half (value_of (term_at s (e - half))))

abbrev pub sizes_held : List ℕ → List ℕ → List ℕ
sizes_held s entries = map (size_held s) entries

-- the domain sizes of a text
abbrev pub domains_at : List ℕ → DD.Declared → List ℕ
domains_at s d = values_in d.variables (words_at s d.sizes)

-- the index has the sizes of the first variables
pub record Indexed (s : List ℕ) (d : DD.Declared) (index : List ℕ) : Type 0 where
  pub within : d.sizes ≤ length s
  pub few : d.variables ≤ cap_end
  pub held : (v : ℕ) → v < d.variables → v < length index → size_held s (get_or index v 0) ≡ get_or (domains_at s d) v 0

-- the sizes of a scope: those of entries, and those of variables whose words stand at a place
abbrev pub scope_sizes : List ℕ → List ℕ → DF.Far → DD.Declared → List ℕ
scope_sizes s entries far d =
    sizes_held s entries ++ sizes_over (domains_at s d) (values_in far.count (words_at s far.at))
