-- The records that pass a test, and an objective's sums over them.
use mathlib.Core.Path.{◌≡◌, refl, ap, sym, ◌∙◌}
use mathlib.Core.Bool.{Bool, true, false, ◌&&◌}
use mathlib.Core.List.{List, [], ◌∷◌}
use Prim.Native.Nat.{ℕ, suc, ◌+◌, ◌≤◌}
use lib.ListN.{length}
use native.Mathlib.Omega.{arith}
use lib.Dec.{eqb}
use borrow.Author.Tests.{eq-eqb}
use Rattle.model.specs.Basics.{when, keep_if, All}
use Rattle.model.specs.Problems.{Table}
use Rattle.model.specs.Costs.{total}
use Rattle.model.specs.Views.{kept}
use Rattle.model.proofs.Bits.{pick_both}
use Rattle.model.proofs.Totals.{total_same}

-- what passes a test has what the test says
pub all_kept : (P : Table → Type 0) (stays : Table → Bool) → ((t : Table) → stays t ≡ true → P t) → (ts : List Table)
    → All P (kept stays ts)
unfolding kept
all_kept P stays h [] = tt
all_kept P stays h (t ∷ ts) = go (stays t) refl (all_kept P stays h ts)
  where
    go : (b : Bool) → stays t ≡ b → All P (kept stays ts) → All P (keep_if b t (kept stays ts))
    go true e r = (h t e, r)
    go false e r = r

-- what holds of all records holds of those kept, and these are no more
pub kept_all : (P : Table → Type 0) (f : Table → Bool) (ts : List Table) → All P ts → All P (kept f ts)
unfolding kept
kept_all P f [] h = tt
kept_all P f (t ∷ ts) h = go (f t) (kept_all P f ts h.1)
  where
    go : (b : Bool) → All P (kept f ts) → All P (keep_if b t (kept f ts))
    go true k = (h.0, k)
    go false k = k

pub kept_few : (f : Table → Bool) (ts : List Table) → length (kept f ts) ≤ length ts
unfolding kept
kept_few f [] = omega arith
kept_few f (t ∷ ts) = go (f t) (kept_few f ts)
  where
    go : (b : Bool) → length (kept f ts) ≤ length ts → length (keep_if b t (kept f ts)) ≤ suc (length ts)
    go true k = omega (arith, k)
    go false k = omega (arith, k)

-- a record that is not kept counts 0
pub total_kept : (o : ℕ) (f : Table → ℕ) (stays : Table → Bool) (ts : List Table)
    → total o f (kept stays ts) ≡ total o (λ t. when (stays t) (f t)) ts
unfolding total kept
total_kept o f stays [] = refl
total_kept o f stays (t ∷ ts) = go (stays t) (total_kept o f stays ts)
  where
    go : (b : Bool) → total o f (kept stays ts) ≡ total o (λ s. when (stays s) (f s)) ts
        → total o f (keep_if b t (kept stays ts))
        ≡ when (eqb t.objective o) (when b (f t)) + total o (λ s. when (stays s) (f s)) ts
    go true e = ap (◌+◌ (when (eqb t.objective o) (f t))) e
    go false e =
        let none : when (eqb t.objective o) 0 ≡ 0 = pick_both (λ n. n ≡ 0) (eqb t.objective o) refl refl in
        omega arith

-- an objective's own records of a part give its sum over that part
pub total_own : (o : ℕ) (f g : Table → ℕ) (part : Table → Bool) → ((t : Table) → part t ≡ true → f t ≡ g t)
    → (ts : List Table) → total o f (kept (λ t. eqb t.objective o && part t) ts) ≡ total o g (kept part ts)
total_own o f g part h ts =
    total_kept o f (λ t. eqb t.objective o && part t) ts
    ∙ total_same o (λ t. when (eqb t.objective o && part t) (f t)) (λ t. when (part t) (g t))
    (λ t e. rw (eq-eqb t.objective o e) (go t (part t) refl)) ts
    ∙ sym (total_kept o g part ts)
  where
    go : (t : Table) (b : Bool) → part t ≡ b → when b (f t) ≡ when b (g t)
    go t true e = h t e
    go t false e = refl

-- and so for a smaller part of that part
pub total_inner : (o : ℕ) (f g : Table → ℕ) (inner part : Table → Bool) → ((t : Table) → inner t ≡ true → part t ≡ true)
    → ((t : Table) → part t ≡ true → f t ≡ g t) → (ts : List Table)
    → total o f (kept inner (kept (λ t. eqb t.objective o && part t) ts)) ≡ total o g (kept inner ts)
total_inner o f g inner part more h ts =
    total_kept o f inner (kept (λ t. eqb t.objective o && part t) ts)
    ∙ total_own o (λ t. when (inner t) (f t)) (λ t. when (inner t) (g t)) part (λ t p. ap (when (inner t)) (h t p)) ts
    ∙ total_kept o (λ t. when (inner t) (g t)) part ts
    ∙ total_same o (λ t. when (part t) (when (inner t) (g t))) (λ t. when (inner t) (g t)) (λ t e. go t (inner t) refl)
    ts
    ∙ sym (total_kept o g inner ts)
  where
    go : (t : Table) (b : Bool) → inner t ≡ b → when (part t) (when b (g t)) ≡ when b (g t)
    go t true e = rw (more t e) refl
    go t false e = pick_both (λ n. n ≡ 0) (part t) refl refl
