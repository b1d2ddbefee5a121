-- The cost records, one after another, in both directions: from tables to bytes and back.
use mathlib.Core.Path.{◌≡◌, refl, ap, sym, ◌∙◌}
use mathlib.Core.List.{List, [], ◌∷◌, ◌++◌}
use Prim.Native.Nat.{ℕ, zero, suc, ◌+◌}
use native.Mathlib.Omega.{arith}
use lib.Dec.{ltb}
use lib.ListN.{length, drop, length-drop, drop_of_length-le}
use lib.Seq.{drop-drop, drop_at}
use borrow.Author.Tests.{ltb-false, le-ltb}
use Rattle.model.specs.Basics.{All}
use Rattle.model.specs.Refusals.{leftover, accepted}
use Rattle.model.specs.Problems.{Table, TableRules}
use Rattle.model.specs.Encoding.{Byte, table_bytes, tables_bytes}
use Rattle.model.specs.Reading.{table_length, table_number, table_of, tables_verdict, tables_at, places_at}
use Rattle.model.proofs.Elements.{all_drop}
use Rattle.model.proofs.Verdicts.{test_accepts, record_accepts, accepts_record}
use Rattle.model.proofs.TableRecord.{table_good, length_table, table_read, table_accepted, table_written}

-- ## from tables to bytes

pub tables_read : (p : ℕ) (ds : List ℕ) (ts : List Table) (s : List ℕ) (at : ℕ) → All (TableRules p ds) ts
    → drop at s ≡ tables_bytes ts
    → (tables_verdict (length ts) p ds s at ≡ accepted) × (tables_at (length ts) ds s at ≡ ts)
unfolding tables_bytes tables_verdict tables_at
tables_read p ds [] s at k h =
    let none : length (drop at s) ≡ 0 = ap length h in
    (rw (le-ltb at (length s) (omega (arith, length-drop at s))), refl)
tables_read p ds (t ∷ ts) s at k h =
    let l = table_bytes t ++ tables_bytes ts in
    let after : drop (at + table_length ds (drop at s)) s ≡ tables_bytes ts = sym
    (drop-drop (table_length ds (drop at s)) at s)
    ∙ ap (λ x. drop (table_length ds x) x) h
    ∙ drop_at (table_bytes t) (tables_bytes ts) (table_length ds l) (length_table p ds t (tables_bytes ts) k.0) in
    let more = tables_read p ds ts s (at + table_length ds (drop at s)) k.1 after in
    let number : table_number p ds (drop at s) ≡ 0 = ap (table_number p ds) h
    ∙ table_accepted p ds t (tables_bytes ts) k.0 in
    let read : table_of ds (drop at s) ≡ t = ap (table_of ds) h ∙ table_read p ds t (tables_bytes ts) k.0 in
    (accepts_record at (table_number p ds (drop at s)) number more.0, λ i. read i ∷ more.1 i)

-- ## from bytes to tables

pub length_tables_at : (r : ℕ) (ds s : List ℕ) (at : ℕ) → length (tables_at r ds s at) ≡ r
unfolding tables_at
length_tables_at zero ds s at = refl
length_tables_at (suc r) ds s at = ap suc (length_tables_at r ds s (at + table_length ds (drop at s)))

pub length_places_at : (r : ℕ) (ds s : List ℕ) (at : ℕ) → length (places_at r ds s at) ≡ r
unfolding places_at
length_places_at zero ds s at = refl
length_places_at (suc r) ds s at = ap suc (length_places_at r ds s (at + table_length ds (drop at s)))

-- what holds of each record whose number is 0 holds of every table
module _ (p : ℕ) (ds s : List ℕ) (P : Table → Type 0)
    (each : (at : ℕ) → table_number p ds (drop at s) ≡ 0 → P (table_of ds (drop at s))) where
  pub tables_every : (r at : ℕ) → (tables_verdict r p ds s at).number ≡ 0 → All P (tables_at r ds s at)
  unfolding tables_verdict tables_at
  tables_every zero at h = tt
  tables_every (suc r) at h =
      let next = at + table_length ds (drop at s) in
      let both = record_accepts at (table_number p ds (drop at s)) (tables_verdict r p ds s next) h in
      (each at both.0, tables_every r next both.1)

pub tables_written : (r p : ℕ) (ds s : List ℕ) (at : ℕ) → All Byte s → (tables_verdict r p ds s at).number ≡ 0
    → tables_bytes (tables_at r ds s at) ≡ drop at s
unfolding tables_verdict tables_at tables_bytes
tables_written zero p ds s at b h =
    sym
    (drop_of_length-le s (ltb-false at (length s) (test_accepts (ltb at (length s)) leftover at accepted refl h).0))
tables_written (suc r) p ds s at b h =
    let l = drop at s in
    let next = at + table_length ds l in
    let both = record_accepts at (table_number p ds l) (tables_verdict r p ds s next) h in
    rw (tables_written r p ds s next b both.1, ← drop-drop (table_length ds l) at s)
    (table_written p ds l (all_drop Byte at s b) (table_good p ds l both.0))
