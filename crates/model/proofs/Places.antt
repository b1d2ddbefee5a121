-- Every verdict has a number up to 11 and a place in the input or at its end; 0 and 1 have the place 0.
use mathlib.Core.Path.{◌≡◌, refl, sym, ◌∙◌}
use mathlib.Core.Bool.{Bool, true, false, ◌&&◌, ◌||◌}
use mathlib.Core.List.{List}
use Prim.Native.Nat.{ℕ, zero, suc, ◌+◌, ◌≤◌}
use native.Mathlib.Omega.{arith}
use lib.Dec.{eqb, ltb, leb}
use lib.ListN.{length, drop, length-drop}
use borrow.Author.Tests.{leb-true, leb-false, ltb-false, eqb-false, le-leb}
use Rattle.model.specs.Basics.{pick, when, first_of}
use Rattle.model.specs.Limits.{max_bytes}
use Rattle.model.specs.Refusals.{oversize, cut_short, leftover, linked}
use Rattle.model.specs.Refusals.{Verdict, verdict, accepted, refused_at, first}
use Rattle.model.specs.Reading.{start_number, head_variables, head_objectives, head_tables, head_length, head_number}
use Rattle.model.specs.Reading.{domain_number, table_number, table_length, domains_verdict, tables_verdict, domains_of}
use Rattle.model.specs.Reading.{tables_start, body_verdict, verdict_of}
use Rattle.model.specs.Demands.{has_place}
use Rattle.model.proofs.Bits.{true_false, or_left}
use Rattle.model.proofs.Verdicts.{first_has, number_of_refused}
use Rattle.model.proofs.HeadRecord.{head_good}
use Rattle.model.proofs.DomainRecords.{domain_good, domains_end}
use Rattle.model.proofs.TableRecord.{table_good}

-- ## numbers

-- a record's number: none, or 2 to 11
pub record Numbered (n : ℕ) : Type 0 where
  pub few : n ≤ leftover
  pub not_oversize : eqb n oversize ≡ false

first_below : (a : ℕ) {b : ℕ} → Numbered a → Numbered b → Numbered (first_of a b)
unfolding first_of
first_below zero h k = k
first_below (suc a) h k = h

when_below : (t : Bool) (n : ℕ) → leb n leftover ≡ true → eqb n oversize ≡ false → Numbered (when t n)
when_below true n h k = record { few = leb-true n leftover h; not_oversize = k }
when_below false n h k = record { few = omega arith; not_oversize = refl }

start_below : (a b fields : ℕ) (s : List ℕ) → Numbered (start_number a b fields s)
unfolding start_number
start_below a b fields s = search (first_below, when_below)

head_below : (s : List ℕ) → Numbered (head_number s)
unfolding head_number
head_below s = search (start_below, first_below, when_below) depth 7

domain_below : (s : List ℕ) → Numbered (domain_number s)
unfolding domain_number
domain_below s = search (start_below, first_below, when_below)

table_below : (p : ℕ) (ds s : List ℕ) → Numbered (table_number p ds s)
unfolding table_number
table_below p ds s = search (start_below, first_below, when_below) depth 8

-- ## verdicts

below : (n : ℕ) → n ≤ oversize → (n ≡ 0 → ⊥) → n ≡ oversize
below zero h k = absurd (k refl)
below (suc n) h k = omega arith

module _ (s : List ℕ) where
  -- what is claimed of every verdict on s
  abbrev Told : Verdict → Type 0
  Told v = (v.number ≤ leftover) × (v.place ≤ length s) × (v.number ≤ oversize → v.place ≡ 0)

  told_none : Told accepted
  told_none = (omega arith, omega arith, λ h. refl)

  record_told : (at n : ℕ) (v : Verdict) → at ≤ length s → Numbered n → (n ≡ 0 → Told v)
      → Told (first (refused_at at n) v)
  record_told at n v h l k =
      first_has Told (refused_at at n) v (go (eqb n 0) refl) (λ e. k (sym (number_of_refused at n) ∙ e))
    where
      -- neither 0 nor 1
      large : eqb n 0 ≡ false → n ≤ oversize → at ≡ 0
      large e m = absurd (eqb-false n oversize l.not_oversize (below n m (eqb-false n 0 e)))

      go : (t : Bool) → eqb n 0 ≡ t → Told (pick t accepted (verdict n at))
      go true e = told_none
      go false e = (l.few, h, large e)

  domains_told : (n at : ℕ) → at ≤ length s → Told (domains_verdict n s at)
  unfolding domains_verdict
  domains_told zero at h = told_none
  domains_told (suc n) at h =
      record_told at (domain_number (drop at s)) (domains_verdict n s (at + 3)) h (domain_below (drop at s))
      (λ e. domains_told n (at + 3) (omega (arith, (domain_good (drop at s) e).start.long, length-drop at s)))

  tables_told : (r p : ℕ) (ds : List ℕ) (at : ℕ) → at ≤ length s → Told (tables_verdict r p ds s at)
  unfolding tables_verdict
  tables_told zero p ds at h = go (ltb at (length s))
    where
      go : (t : Bool) → Told (pick t (verdict leftover at) accepted)
      go true = (omega arith, h, λ m. absurd (omega (arith, m)))
      go false = told_none
  tables_told (suc r) p ds at h =
      let next = at + table_length ds (drop at s) in
      record_told at (table_number p ds (drop at s)) (tables_verdict r p ds s next) h (table_below p ds (drop at s))
      (λ e. tables_told r p ds next (omega (arith, (table_good p ds (drop at s) e).long, length-drop at s)))

  body_told : head_length s ≤ length s → Told (body_verdict s)
  unfolding body_verdict
  body_told h =
      let n = head_variables s in
      let start = head_length s in
      let rest = tables_verdict (head_tables s) (head_objectives s) (domains_of s) s (tables_start s) in
      first_has Told (domains_verdict n s start) rest (domains_told n start h)
      (λ e. tables_told (head_tables s) (head_objectives s) (domains_of s) (tables_start s) (domains_end n s start h e))

  all_told : Told (verdict_of s)
  unfolding verdict_of
  all_told = go (ltb max_bytes (length s))
    where
      go : (t : Bool) → Told (pick t (verdict oversize 0) (first (refused_at 0 (head_number s)) (body_verdict s)))
      go true = (omega arith, omega arith, λ m. refl)
      go false =
          record_told 0 (head_number s) (body_verdict s) (omega arith) (head_below s)
          (λ e. body_told (head_good s e).long)

pub refused_number : (s : List ℕ) → (verdict_of s).number ≤ leftover
refused_number s = (all_told s).0

pub refused_place : (s : List ℕ) → (verdict_of s).place ≤ length s
refused_place s = (all_told s).1

-- an answer and oversize have no place
pub refused_nowhere : (s : List ℕ) → has_place (verdict_of s).number ≡ false → (verdict_of s).place ≡ 0
unfolding has_place
refused_nowhere s h = (all_told s).2 (go (leb cut_short (verdict_of s).number) refl h)
  where
    go : (t : Bool) → leb cut_short (verdict_of s).number ≡ t
        → ((t && leb (verdict_of s).number leftover) || eqb (verdict_of s).number linked) ≡ false
        → (verdict_of s).number ≤ oversize
    go true e k = absurd (true_false (or_left _ (le-leb _ _ (refused_number s))) k)
    go false e k = omega (arith, leb-false cut_short (verdict_of s).number e)

-- no place is past the limit of bytes: what is longer is refused at 0
pub place_limit : (s : List ℕ) → (verdict_of s).place ≤ max_bytes
unfolding verdict_of
place_limit s = go (ltb max_bytes (length s)) refl (refused_place s)
  where
    rest : Verdict
    rest = first (refused_at 0 (head_number s)) (body_verdict s)

    told : Verdict
    told = pick (ltb max_bytes (length s)) (verdict oversize 0) rest

    go : (t : Bool) → ltb max_bytes (length s) ≡ t → told.place ≤ length s → told.place ≤ max_bytes
    go true e l = rw e (omega arith)
    go false e l = omega (arith, l, ltb-false max_bytes (length s) e)
