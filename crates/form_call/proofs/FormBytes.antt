-- The canonical form as it is written: what stands before the cost records, and then these.
use mathlib.Core.Path.{◌≡◌, sym, ◌∙◌, ap}
use mathlib.Core.List.{List, ◌++◌}
use Prim.Native.Nat.{ℕ, ◌+◌, ◌-◌, ◌≤◌}
use native.Mathlib.Omega.{arith}
use lib.ListN.{length, take, drop, replicate, length-append, length-replicate}
use lib.Seq.{length-take-le}
use Rattle.model.specs.Basics.{All}
use Rattle.model.specs.Limits.{max_bytes, max_tables}
use Rattle.model.specs.Problems.{Table}
use Rattle.model.specs.Encoding.{Byte, table_bytes, tables_bytes}
use Rattle.model.specs.Reading.{tables_start, problem_of}
use Rattle.model.specs.Calls.{over}
use Rattle.model.specs.declared.Header as DH
use Rattle.problem.specs.Says.{start_of}
use Rattle.form_canonical.specs.Order.{ordered_by}
use Rattle.form_canonical.specs.Canonical.{turned_tables, canonical_bytes}
use Rattle.form_canonical.specs.Places.{over_at}
use Rattle.form_canonical.proofs.Places.{over_length, over_then}
use Rattle.form_canonical.proofs.CanonicalBytes.{form_length, form_parts, tables_start_lem}
use Rattle.form_call.specs.Opened.{Turnable, form_records, Opened}

-- the two arrays as they are made; the parts are the first of one, as many as there are records
abbrev pub no_bytes : List ℕ
no_bytes = replicate max_bytes 0

abbrev pub no_parts : List ℕ
no_parts = replicate max_tables 0

pub parts_lent : (r : ℕ) → r ≤ max_tables → r ≡ length (take r no_parts)
parts_lent r few = sym (length-take-le r no_parts (omega (arith, length-replicate {A = ℕ} max_tables 0)))

module _ (s : List ℕ) (head : DH.Header) (sizes : List ℕ) (o : Opened s head sizes) (bytes : All Byte s) where
  abbrev start : ℕ
  start = start_of head

  abbrev records : List ℕ
  records = form_records head.tables sizes s start

  start_inside : start ≤ length s
  start_inside = omega (arith, o.begins, tables_start_lem s bytes o.fine)

  records_held : records
      ≡ tables_bytes (ordered_by table_bytes (turned_tables (problem_of s).domains (problem_of s).tables))
  records_held =
      ap (λ (ts : List Table). tables_bytes (ordered_by table_bytes (turned_tables sizes ts))) o.tables
      ∙ ap (λ (ds : List ℕ). tables_bytes (ordered_by table_bytes (turned_tables ds (problem_of s).tables))) o.domains

  form_whole : canonical_bytes s ≡ take start s ++ records
  form_whole =
      form_parts s bytes o.fine
      ∙ ap (λ (l : List ℕ). take (tables_start s) s ++ l) (sym records_held)
      ∙ ap (λ (n : ℕ). take n s ++ records) (sym o.begins)

  front_length : length (take start s) ≡ start
  front_length = length-take-le start s start_inside

  records_fit : start + length records ≡ length s
  records_fit =
      omega (
        arith,
        form_length s bytes o.fine,
        ap length form_whole,
        length-append (take start s) records,
        front_length,
      )

  -- what stands before the records is copied, and then these are asked for
  module _ (at : ℕ) (told : at ≡ start) where
    front_whole : take (at - 0) (drop 0 s) ≡ take start s
    front_whole = let same : at - 0 ≡ start = omega (arith, told) in ap (λ (n : ℕ). take n s) same

    module _ (form form' : List ℕ) (room : length s ≤ length form)
        (front : form' ≡ over_at 0 (take (at - 0) (drop 0 s)) form) where
      fronted : form' ≡ over_at 0 (take start s) form
      fronted = front ∙ ap (λ (l : List ℕ). over_at 0 l form) front_whole

      pub records_due : (n : ℕ) (turned : List ℕ) → head.tables ≡ n → length turned ≡ max_bytes
          → Turnable n sizes s at × (length s ≤ length turned)
          × (at + length (form_records n sizes s at) ≤ length form')
      records_due n turned many long =
          let inside : 0 + length (take start s) ≤ length form = omega (arith, front_length, start_inside) in
          let kept = ap length fronted ∙ over_length 0 (take start s) form inside in
          rw (sym many, told)
          (o.turnable, omega (arith, o.turnable.short, long), omega (arith, records_fit, kept))

      pub form_written : (n : ℕ) (form'' : List ℕ) → head.tables ≡ n
          → form'' ≡ over_at at (form_records n sizes s at) form'
          → form'' ≡ over (canonical_bytes s) form
      unfolding over
      form_written n form'' many rest =
          let none : 0 + length (canonical_bytes s) ≡ length (canonical_bytes s) = omega arith in
          rw (sym many, told) at rest
          ∙ ap (over_at start records) fronted
          ∙ over_then 0 start (take start s) records form (omega (arith, front_length)) (omega (arith, records_fit))
          ∙ ap (λ (l : List ℕ). over_at 0 l form) (sym form_whole)
          ∙ ap (λ (n : ℕ). canonical_bytes s ++ drop n form) none
