-- Chains of tests and of verdicts: one refuses nothing exactly where no part of it does.
use mathlib.Core.Path.{◌≡◌, refl, sym, ◌∙◌}
use mathlib.Core.Bool.{Bool, true, false}
use Prim.Native.Nat.{ℕ, zero, suc}
use native.Mathlib.Omega.{arith}
use lib.Dec.{eqb}
use borrow.Author.Tests.{eqb-true, eqb-false, eq-eqb}
use Rattle.model.specs.Basics.{pick, when, first_of}
use Rattle.model.specs.Refusals.{Verdict, verdict, accepted, refused_at, first}

-- ## numbers

pub first_none : (a b : ℕ) → first_of a b ≡ 0 → (a ≡ 0) × (b ≡ 0)
unfolding first_of
first_none zero b h = (refl, h)
first_none (suc a) b h = absurd (omega arith)

pub none_first : (a : ℕ) {b : ℕ} → a ≡ 0 → b ≡ 0 → first_of a b ≡ 0
unfolding first_of
none_first zero p q = q
none_first (suc a) p q = p

-- n is a number of refusal, so its test against 0 computes
pub when_none : (t : Bool) (n : ℕ) → eqb n 0 ≡ false → when t n ≡ 0 → t ≡ false
when_none true n e h = absurd (eqb-false n 0 e h)
when_none false n e h = refl

pub none_when : {t : Bool} (n : ℕ) → t ≡ false → when t n ≡ 0
none_when n h = rw h

-- ## verdicts

pub first_accepts : (a b : Verdict) → (first a b).number ≡ 0 → (a.number ≡ 0) × (b.number ≡ 0)
first_accepts a b h = go (eqb a.number 0) refl h
  where
    go : (t : Bool) → eqb a.number 0 ≡ t → (pick t b a).number ≡ 0 → (a.number ≡ 0) × (b.number ≡ 0)
    go true e k = (eqb-true _ _ e, k)
    go false e k = absurd (eqb-false _ _ e k)

-- what two verdicts have, the second where the first does not refuse, the first of them that refuses has
pub first_has : (P : Verdict → Type 0) (a b : Verdict) → P a → (a.number ≡ 0 → P b) → P (first a b)
first_has P a b h k = go (eqb a.number 0) refl
  where
    go : (t : Bool) → eqb a.number 0 ≡ t → P (pick t b a)
    go true e = k (eqb-true _ _ e)
    go false e = h

pub first_assoc : (a b c : Verdict) → first (first a b) c ≡ first a (first b c)
first_assoc a b c = go (eqb a.number 0) refl
  where
    go : (t : Bool) → eqb a.number 0 ≡ t → first (pick t b a) c ≡ pick t (first b c) a
    go true e = refl
    go false e = rw e

pub number_of_refused : (at n : ℕ) → (refused_at at n).number ≡ n
number_of_refused at n = go (eqb n 0) refl
  where
    go : (t : Bool) → eqb n 0 ≡ t → (pick t accepted (verdict n at)).number ≡ n
    go true e = sym (eqb-true _ _ e)
    go false e = refl

pub accepts_first : (a : Verdict) {b : Verdict} → a.number ≡ 0 → b ≡ accepted → first a b ≡ accepted
accepts_first a p q = rw (eq-eqb _ _ p) q

pub accepts_both : {a b : Verdict} → a ≡ accepted → b ≡ accepted → first a b ≡ accepted
accepts_both p q = rw (p, q)

-- the same where a test comes first
pub test_accepts : (t : Bool) (n at : ℕ) (v : Verdict) → eqb n 0 ≡ false → (pick t (verdict n at) v).number ≡ 0
    → (t ≡ false) × (v.number ≡ 0)
test_accepts true n at v e h = absurd (eqb-false n 0 e h)
test_accepts false n at v e h = (refl, h)

pub picked_accepts : (t : Bool) (n : ℕ) → eqb n 0 ≡ false → (pick t accepted (verdict n 0)).number ≡ 0 → t ≡ true
picked_accepts true n e h = refl
picked_accepts false n e h = absurd (eqb-false n 0 e h)

-- the same where the first verdict is that of one record
pub record_accepts : (at n : ℕ) (v : Verdict) → (first (refused_at at n) v).number ≡ 0 → (n ≡ 0) × (v.number ≡ 0)
record_accepts at n v h =
    let both = first_accepts (refused_at at n) v h in
    (sym (number_of_refused at n) ∙ both.0, both.1)

pub accepts_record : (at n : ℕ) {v : Verdict} → n ≡ 0 → v ≡ accepted → first (refused_at at n) v ≡ accepted
accepts_record at n p q = accepts_first (refused_at at n) (number_of_refused at n ∙ p) q

-- a verdict whose number is 0 has no place
abbrev pub Placed : Verdict → Type 0
Placed v = v.number ≡ 0 → v ≡ accepted

pub first_placed : (a b : Verdict) → Placed b → Placed (first a b)
first_placed a b k h =
    let both = first_accepts a b h in
    accepts_first a both.0 (k both.1)

pub test_placed : (t : Bool) (n at : ℕ) (v : Verdict) → eqb n 0 ≡ false → Placed v → Placed (pick t (verdict n at) v)
test_placed true n at v e k h = absurd (eqb-false n 0 e h)
test_placed false n at v e k h = k h
