-- The first line and the domain sizes, as they are read.
use Rattle.std.specs.Prelude.{◌≡◌, List, [], ◌∷◌, ◌++◌, ℕ, ◌≤◌, length, take, drop}
use Rattle.model.specs.Encoding.{letter_h, letter_d, two_bytes, word_bytes}
use Rattle.text_words.specs.Texts.{words_of}
use Rattle.text_words.specs.Reads.{words_at}
use Rattle.text_networks.specs.Findings.{value_at, values_in}
use Rattle.text_networks.specs.Networks.{ceiling_for}
use Rattle.text_reading.specs.declared.Head as DH
use Rattle.text_reading.specs.declared.Domains as DD

pub record HeadSays (s : List ℕ) (r : DH.Head) : Type 0 where
  pub variables : r.variables ≡ value_at 1 (words_of s)
  pub functions : r.functions ≡ value_at 3 (words_of s)
  pub ceiling : r.ceiling ≡ ceiling_for (value_at 4 (words_of s))
  pub within : r.end ≤ length s
  pub rest : words_at s r.end ≡ drop 5 (words_of s)

-- the record of the first line
abbrev pub head_form : DH.Head → List ℕ
head_form h =
    (letter_h ∷ letter_d ∷ h.variables ∷ 1 ∷ two_bytes h.functions) ++ word_bytes (h.ceiling ∷ [])

abbrev pub domain_list : DD.Domains → List ℕ
domain_list d = take d.count d.sizes

pub record DomainsSay (s : List ℕ) (at n : ℕ) (r : DD.Domains) : Type 0 where
  pub count : r.count ≡ n
  pub sizes : take n r.sizes ≡ values_in n (words_at s at)
  pub within : r.end ≤ length s
  pub rest : words_at s r.end ≡ drop n (words_at s at)
