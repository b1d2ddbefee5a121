-- The search for a record that has both sides, one record at a time.
use mathlib.Core.Path.{◌≡◌, sym, ◌∙◌}
use mathlib.Core.Logic.{◌⊎◌}
use mathlib.Core.Bool.{Bool, true, false, ◌&&◌}
use mathlib.Core.List.{List}
use Prim.Native.Nat.{ℕ, zero, suc, ◌+◌, ◌-◌, ◌<◌}
use native.Mathlib.Omega.{arith}
use lib.ListN.{drop}
use Rattle.model.specs.Basics.{pick}
use Rattle.model.specs.Refusals.{Verdict, verdict, linked, accepted}
use Rattle.model.specs.Reading.{table_scope, table_length, table_of, tables_at, places_at}
use Rattle.model.specs.Cuts.{has_side, crosses, linked_verdict}
use Rattle.model.proofs.Bits.{and-false}
use Rattle.problem.specs.Records.{Whole, AllWhole}
use Rattle.costs.proofs.RecordSteps.{whole_next}

-- the verdict on r records from `at` on
abbrev linked_from : List ℕ → List ℕ → List ℕ → ℕ → ℕ → Verdict
linked_from ds s ss r at = linked_verdict ss (tables_at r ds s at) (places_at r ds s at)

abbrev both : List ℕ → List ℕ → ℕ → Bool
both s ss at = has_side 0 ss (table_scope (drop at s)) && has_side 1 ss (table_scope (drop at s))

linked_next : (ds s ss : List ℕ) (r at : ℕ) → 0 < r
    → linked_from ds s ss r at
    ≡ pick (both s ss at) (verdict linked at) (linked_from ds s ss (r - 1) (at + table_length ds (drop at s)))
unfolding linked_verdict crosses tables_at places_at table_of
linked_next ds s ss zero at h = absurd (omega arith)
linked_next ds s ss (suc r) at h =
    let k : suc r - 1 ≡ r = omega arith in
    rw k

-- `left` records from `here` on are left, and their verdict is that of all
pub record Linking (ds s ss : List ℕ) (r at here left : ℕ) : Type 0 where
  pub whole : AllWhole left ds s here
  pub rest : linked_from ds s ss left here ≡ linked_from ds s ss r at

module _ {ds s ss : List ℕ} {r at here left : ℕ} (u : Linking ds s ss r at here left) where
  pub linking_end : left ≡ 0 → linked_verdict ss (tables_at r ds s at) (places_at r ds s at) ≡ accepted
  unfolding linked_verdict tables_at
  linking_end e = sym u.rest ∙ rw e

  module _ (more : 0 < left) where
    pub linking_whole : Whole ds s here
    linking_whole = (whole_next left ds s here more u.whole).0

    pub linking_found : has_side 0 ss (table_scope (drop here s)) ≡ true
        → has_side 1 ss (table_scope (drop here s)) ≡ true
        → linked_verdict ss (tables_at r ds s at) (places_at r ds s at) ≡ verdict linked here
    linking_found e f = sym u.rest ∙ linked_next ds s ss left here more ∙ rw (e, f)

    pub linking_next :
        (has_side 0 ss (table_scope (drop here s)) ≡ false) ⊎ (has_side 1 ss (table_scope (drop here s)) ≡ false)
        → (width : ℕ) → width ≡ table_length ds (drop here s) → Linking ds s ss r at (here + width) (left - 1)
    linking_next e width wide =
        record {
          whole = rw wide (whole_next left ds s here more u.whole).1;
          rest = rw (linked_next ds s ss left here more, and-false _ _ e, ← wide) at u.rest;
        }
