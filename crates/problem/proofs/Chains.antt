-- Chains of tests and of verdicts, read from the front: what refuses nothing is passed, what refuses is the answer of
-- the whole.
use mathlib.Core.Path.{◌≡◌, refl, sym, ◌∙◌}
use mathlib.Core.Bool.{Bool, true, false, not}
use Prim.Native.Nat.{ℕ, zero, suc}
use lib.Dec.{eqb}
use borrow.Author.Tests.{eqb-false, eq-eqb, ne_eqb, not-true, not-false}
use Rattle.model.specs.Basics.{when, first_of}
use Rattle.model.specs.Refusals.{Verdict, verdict, refused_at, first}
use Rattle.model.proofs.Verdicts.{number_of_refused}

-- ## numbers

pub pass_number : {a : ℕ} (b : ℕ) → a ≡ 0 → first_of a b ≡ b
unfolding first_of
pass_number b h = rw h

pub stop_number : (a b : ℕ) → (a ≡ 0 → ⊥) → first_of a b ≡ a
unfolding first_of
stop_number zero b h = absurd (h refl)
stop_number (suc a) b h = refl

pub pass_test : {t : Bool} (n b : ℕ) → t ≡ false → first_of (when t n) b ≡ b
pass_test n b h = rw h (pass_number b refl)

-- n is a number of refusal, so its test against 0 computes
pub stop_test : {t : Bool} (n b : ℕ) → eqb n 0 ≡ false → t ≡ true → first_of (when t n) b ≡ n
stop_test n b e h = rw h (stop_number n b (eqb-false n 0 e))

pub when_on : {t : Bool} (n : ℕ) → t ≡ true → when t n ≡ n
when_on n h = rw h

-- ## verdicts

pub pass_verdict : (a b : Verdict) → a.number ≡ 0 → first a b ≡ b
pass_verdict a b h = rw (eq-eqb _ _ h)

pub stop_verdict : (a b : Verdict) → (a.number ≡ 0 → ⊥) → first a b ≡ a
stop_verdict a b h = rw (ne_eqb _ _ h)

-- the same where the first verdict is that of one record
pub pass_record : (at n : ℕ) (v : Verdict) → n ≡ 0 → first (refused_at at n) v ≡ v
pass_record at n v h = pass_verdict (refused_at at n) v (number_of_refused at n ∙ h)

pub stop_record : (at n : ℕ) (v : Verdict) → (n ≡ 0 → ⊥) → first (refused_at at n) v ≡ verdict n at
stop_record at n v h = stop_verdict (refused_at at n) v (λ e. h (sym (number_of_refused at n) ∙ e)) ∙ rw (ne_eqb n 0 h)

pub same_verdict : {v : Verdict} {n at : ℕ} → n ≡ v.number → at ≡ v.place → v ≡ verdict n at
same_verdict p q = rw (p, q)

-- ## a branch on `!r`, where r says that a field is not outside its limits

pub denied : {r : Bool} (t : Bool) → r ≡ not t → r ≡ false → t ≡ true
denied t e h = not-false t (sym e ∙ h)

pub allowed : {r : Bool} (t : Bool) → r ≡ not t → r ≡ true → t ≡ false
allowed t e h = not-true t (sym e ∙ h)
