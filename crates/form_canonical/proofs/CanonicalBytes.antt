-- The canonical form of bytes that are not refused: as many bytes, the same before the cost records, then these.
use mathlib.Core.Path.{◌≡◌, refl, ap, sym, ◌∙◌}
use mathlib.Core.List.{List, ◌++◌, append_assoc}
use Prim.Native.Nat.{ℕ, ◌≤◌}
use native.Mathlib.Omega.{arith}
use lib.ListN.{length, take, length-append}
use lib.Seq.{take_at}
use Rattle.model.specs.Basics.{All}
use Rattle.model.specs.Problems.{Problem}
use Rattle.model.specs.Encoding.{Byte, head_bytes, domain_bytes, table_bytes, tables_bytes, encode, WellFormed}
use Rattle.model.specs.Reading.{head_variables, head_length, tables_start, verdict_of, problem_of}
use Rattle.model.proofs.HeadRecord.{length_head}
use Rattle.model.proofs.DomainRecords.{length_domain_bytes, length_domains_at}
use Rattle.model.proofs.Reading.{accepted_encoded}
use Rattle.form_canonical.specs.Order.{ordered_by}
use Rattle.form_canonical.specs.Canonical.{turned_tables, canonical, canonical_bytes}
use Rattle.form_canonical.proofs.CanonicalRules.{canonical_head, canonical_long}

-- the header and the domain records of a problem
abbrev opening : Problem → List ℕ
opening q = head_bytes q ++ domain_bytes q.domains

module _ (s : List ℕ) (bytes : All Byte s) (fine : (verdict_of s).number ≡ 0) where
  formed : WellFormed (problem_of s)
  formed = (accepted_encoded s bytes fine).0

  again : encode (problem_of s) ≡ s
  again = (accepted_encoded s bytes fine).1

  pub form_length : length (canonical_bytes s) ≡ length s
  form_length = canonical_long (problem_of s) formed.rules ∙ ap length again

  head_length_lem : length (head_bytes (problem_of s)) ≡ head_length s
  unfolding encode
  head_length_lem =
      let q = problem_of s in
      let rest = domain_bytes q.domains ++ tables_bytes q.tables in
      length_head q rest formed.rules
      ∙ ap head_length (sym (append_assoc (head_bytes q) (domain_bytes q.domains) (tables_bytes q.tables)) ∙ again)

  opening_length : length (opening (problem_of s)) ≡ tables_start s
  unfolding problem_of
  opening_length =
      omega (
        arith,
        length-append (head_bytes (problem_of s)) (domain_bytes (problem_of s).domains),
        head_length_lem,
        length_domain_bytes (problem_of s).domains,
        length_domains_at (head_variables s) s (head_length s),
      )

  pub tables_start_lem : tables_start s ≤ length s
  unfolding encode
  tables_start_lem =
      let q = problem_of s in
      omega (arith, opening_length, length-append (opening q) (tables_bytes q.tables), ap length again)

  opening_taken : opening (problem_of s) ≡ take (tables_start s) s
  unfolding encode
  opening_taken =
      let q = problem_of s in
      sym (take_at (opening q) (tables_bytes q.tables) (tables_start s) opening_length)
      ∙ ap (take (tables_start s)) again

  pub form_parts : canonical_bytes s
      ≡ take (tables_start s) s
      ++ tables_bytes (ordered_by table_bytes (turned_tables (problem_of s).domains (problem_of s).tables))
  unfolding encode canonical
  form_parts = rw (canonical_head (problem_of s), ← opening_taken) refl
