-- The cost records, one after the other: the verdict from the front, where each starts, and that all are whole.
use mathlib.Core.Path.{◌≡◌, refl}
use mathlib.Core.List.{List, [], ◌∷◌}
use Prim.Native.Nat.{ℕ, zero, suc, ◌+◌, ◌≤◌, ◌<◌}
use native.Mathlib.Omega.{arith}
use borrow.Author.Tests.{lt-ltb, le-ltb}
use lib.ListN.{length, drop, length-drop}
use Rattle.model.specs.Limits.{max_objectives}
use Rattle.model.specs.Refusals.{leftover, verdict, accepted}
use Rattle.model.specs.Reading.{table_scope, table_length, table_number, tables_verdict, places_at}
use Rattle.model.proofs.Verdicts.{record_accepts}
use Rattle.model.proofs.TableRecord.{table_good}
use Rattle.problem.specs.Records.{Whole, AllWhole}
use Rattle.problem.proofs.Chains.{pass_record, stop_record}
use Rattle.problem.proofs.ScopeRule.{scope_range}

-- the next record starts in the list, or at its end
pub table_next : (p : ℕ) (ds s : List ℕ) (at : ℕ) → at ≤ length s → table_number p ds (drop at s) ≡ 0
    → at + table_length ds (drop at s) ≤ length s
table_next p ds s at h e = omega (arith, (table_good p ds (drop at s) e).long, length-drop at s)

module _ (k p : ℕ) (ds s : List ℕ) (at : ℕ) where
  pub tables_go : table_number p ds (drop at s) ≡ 0
      → tables_verdict (suc k) p ds s at ≡ tables_verdict k p ds s (at + table_length ds (drop at s))
  unfolding tables_verdict
  tables_go e =
      pass_record at (table_number p ds (drop at s)) (tables_verdict k p ds s (at + table_length ds (drop at s))) e

  pub tables_stop : (table_number p ds (drop at s) ≡ 0 → ⊥)
      → tables_verdict (suc k) p ds s at ≡ verdict (table_number p ds (drop at s)) at
  unfolding tables_verdict
  tables_stop e =
      stop_record at (table_number p ds (drop at s)) (tables_verdict k p ds s (at + table_length ds (drop at s))) e

module _ (p : ℕ) (ds s : List ℕ) (at : ℕ) where
  pub tables_left : at < length s → tables_verdict 0 p ds s at ≡ verdict leftover at
  unfolding tables_verdict
  tables_left h = rw (lt-ltb _ _ h)

  pub tables_end : length s ≤ at → tables_verdict 0 p ds s at ≡ accepted
  unfolding tables_verdict
  tables_end h = rw (le-ltb _ _ h)

pub places_none : (ds s : List ℕ) (at : ℕ) → places_at 0 ds s at ≡ []
unfolding places_at
places_none ds s at = refl

pub places_go : (k : ℕ) (ds s : List ℕ) (at : ℕ)
    → places_at (suc k) ds s at ≡ at ∷ places_at k ds s (at + table_length ds (drop at s))
unfolding places_at
places_go k ds s at = refl

-- records whose verdict refuses nothing are whole
pub all_whole : (r p : ℕ) (ds s : List ℕ) (at : ℕ) → p ≤ max_objectives → at ≤ length s
    → (tables_verdict r p ds s at).number ≡ 0 → AllWhole r ds s at
unfolding tables_verdict
all_whole zero p ds s at few h e = h
all_whole (suc r) p ds s at few h e =
    let l = drop at s in
    let next = at + table_length ds l in
    let both = record_accepts at (table_number p ds l) (tables_verdict r p ds s next) e in
    let good = table_good p ds l both.0 in
    let long : next ≤ length s = table_next p ds s at h both.0 in
    let whole : Whole ds s at = record {
      owner = omega (arith, good.owner);
      few = good.arity;
      range = scope_range (length ds) (table_scope l) good.distinct;
      long = long;
    } in
    (whole, all_whole r p ds s next few long both.1)
