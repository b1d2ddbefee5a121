-- The records of a whole text: its head, its domain sizes, its tables.
use mathlib.Core.Path.{◌≡◌, ap, sym, ◌∙◌}
use mathlib.Core.List.{List, ◌++◌}
use Prim.Native.Nat.{ℕ, ◌+◌, ◌≤◌}
use native.Mathlib.Omega.{arith}
use lib.ListN.{length, drop, length-append}
use lib.Seq.{drop-drop}
use Rattle.model.specs.Basics.{All}
use Rattle.model.specs.Limits.{max_variables, max_tables, max_bytes, word_end}
use Rattle.model.specs.Problems.{DomainSize}
use Rattle.model.specs.Encoding.{head_bytes, domain_bytes, tables_bytes, encode}
use Rattle.model.specs.Calls.{over}
use Rattle.text_words.specs.Texts.{words_of}
use Rattle.text_words.specs.Reads.{words_at}
use Rattle.text_lines.specs.Written.{Written}
use Rattle.text_lines.proofs.Writing.{written_then}
use Rattle.text_networks.specs.Findings.{Words, fine, value_at, values_in}
use Rattle.text_networks.specs.Networks.{domains_in, functions_in, network_finding, function_tables, network_problem}
use Rattle.text_networks.proofs.FineTables.{values_count, tables_count}
use Rattle.text_networks.proofs.TextCosts.{network_fine}
use Rattle.text_reading.specs.Heads.{HeadSays, head_form, DomainsSay, domain_list}
use Rattle.text_reading.specs.Functions.{FunctionsAt}
use Rattle.text_reading.specs.declared.Head as DH
use Rattle.text_reading.specs.declared.Domains as DD

-- what is written from the start fills the buffer's front
written_over : {form out out' : List ℕ} {m : ℕ} → Written 0 form out out' m → length form ≤ length out
    → out' ≡ over form out
unfolding over
written_over {form} {out} {out'} {m} w h =
    let behind : m ≡ length form = omega (arith, w.next) in
    w.there (omega arith) ∙ ap (λ (n : ℕ). form ++ drop n out) behind

-- the first line is read; the domain sizes are read
pub record HeadRead (s : List ℕ) (h : DH.Head) : Type 0 where
  pub right : network_finding (words_of s) ≡ fine
  pub short : length (encode (network_problem (words_of s))) ≤ max_bytes
  pub says : HeadSays s h

pub record SizesRead (s : List ℕ) (h : DH.Head) (d : DD.Domains) : Type 0 where
  pub head : HeadRead s h
  pub says : DomainsSay s h.end h.variables d

pub head_read : {s : List ℕ} {h : DH.Head} → network_finding (words_of s) ≡ fine
    → length (encode (network_problem (words_of s))) ≤ max_bytes → HeadSays s h → HeadRead s h
head_read right short says = record { right = right; short = short; says = says }

pub sizes_read : {s : List ℕ} {h : DH.Head} {d : DD.Domains} → HeadRead s h → DomainsSay s h.end h.variables d
    → SizesRead s h d
sizes_read head says = record { head = head; says = says }

module _ {s : List ℕ} {h : DH.Head} (read : HeadRead s h) where
  pub head_small : (h.variables ≤ max_variables) × (h.functions ≤ max_tables)
  head_small =
      let f = network_fine (words_of s) read.right in
      (omega (arith, f.variables.1, read.says.variables), omega (arith, f.functions, read.says.functions))

  sizes_same : values_in h.variables (words_at s h.end) ≡ domains_in (words_of s)
  sizes_same = rw (read.says.variables, read.says.rest)

  pub sizes_small : All DomainSize (values_in h.variables (words_at s h.end))
  sizes_small = rw sizes_same (network_fine (words_of s) read.right).sizes

module _ {s : List ℕ} {h : DH.Head} {d : DD.Domains} (read : SizesRead s h d) where
  h_says : HeadSays s h
  h_says = read.head.says

  d_says : DomainsSay s h.end h.variables d
  d_says = read.says

  abbrev ws : Words
  ws = words_of s

  domains_same : domain_list d ≡ domains_in ws
  domains_same = rw d_says.count (d_says.sizes ∙ sizes_same read.head)

  tables_start : words_at s d.end ≡ functions_in ws
  tables_start = d_says.rest ∙ rw (h_says.variables, h_says.rest) (drop-drop (value_at 1 ws) 5 ws)

  abbrev heads : List ℕ
  heads = head_form h ++ domain_bytes (domain_list d)

  abbrev tables : List ℕ
  tables = tables_bytes (function_tables h.functions (domain_list d) (words_at s d.end))

  whole : encode (network_problem ws) ≡ heads ++ tables
  unfolding encode head_bytes network_problem
  whole =
      let n : length (domains_in ws) ≡ h.variables =
      values_count (value_at 1 ws) (drop 5 ws) ∙ sym h_says.variables in
      let r : length (function_tables (value_at 3 ws) (domains_in ws) (functions_in ws)) ≡ h.functions =
      tables_count (value_at 3 ws) (domains_in ws) (functions_in ws) ∙ sym h_says.functions in
      rw (n, r, ← h_says.functions, ← h_says.ceiling, ← domains_same, ← tables_start)

  all_short : length (head_form h) + length (domain_bytes (domain_list d)) + length tables ≤ max_bytes
  all_short =
      omega (
        arith,
        read.head.short,
        ap length whole,
        length-append heads tables,
        length-append (head_form h) (domain_bytes (domain_list d)),
      )

  module _ (m : ℕ) (behind_head : m ≡ 0 + length (head_form h)) where
    pub domains_room : (d.count ≤ max_variables) × (m + length (domain_bytes (domain_list d)) ≤ word_end)
    domains_room = (omega (arith, (head_small read.head).0, d_says.count), omega (arith, all_short))

    pub functions_at : (to : ℕ) → to ≡ m + length (domain_bytes (domain_list d))
        → FunctionsAt s d.end h.functions d to
    functions_at to behind =
        record {
          domains =
              record { few = domains_room.0; small = rw domains_same (network_fine ws read.head.right).sizes };
          within = d_says.within;
          right = rw (h_says.functions, domains_same, tables_start) (network_fine ws read.head.right).tables;
          room = omega (arith, all_short);
        }

  pub records_put : {a b c e : List ℕ} {k l m : ℕ} → Written 0 (head_form h) a b k
      → Written k (domain_bytes (domain_list d)) b c l → Written l tables c e m
      → length (encode (network_problem ws)) ≤ length a → e ≡ over (encode (network_problem ws)) a
  records_put {a} {e = e} {m = m} w x y fits =
      let all : Written 0 (encode (network_problem ws)) a e m = rw whole (written_then (written_then w x) y) in
      written_over all fits
