-- Sums over an objective's records, each by a function of the record: costs and bounds are two of them.
use mathlib.Core.Path.{◌≡◌, refl, ap, ap₂, ◌∙◌}
use mathlib.Core.Bool.{Bool, true, false}
use mathlib.Core.List.{List, [], ◌∷◌, ◌++◌}
use Prim.Native.Nat.{ℕ, zero, suc, ◌+◌, ◌-◌, ◌*◌, ◌≤◌, ◌<◌}
use native.Mathlib.Omega.{arith}
use native.Mathlib.Nat.{suc-mul, sub-zero, suc-sub-suc}
use lib.Dec.{eqb}
use lib.ListN.{length, get_or, take, replicate}
use borrow.Author.Tests.{eqb-true, ne_eqb}
use Rattle.model.specs.Basics.{when, All}
use Rattle.model.specs.Problems.{Table, Problem}
use Rattle.model.specs.Costs.{total, totals_from, totals}
use Rattle.model.proofs.Bits.{pick_both}
use Rattle.model.proofs.Elements.{all_map}
use Rattle.model.proofs.Vectors.{AtMost}

when_grows : (b : Bool) {m n : ℕ} → m ≤ n → when b m ≤ when b n
when_grows true h = h
when_grows false h = omega arith

pub total_grows : (o : ℕ) (f g : Table → ℕ) → ((t : Table) → f t ≤ g t) → (ts : List Table)
    → total o f ts ≤ total o g ts
unfolding total
total_grows o f g h [] = omega arith
total_grows o f g h (t ∷ ts) = omega (arith, when_grows (eqb t.objective o) (h t), total_grows o f g h ts)

-- only an objective's own records matter to its sum
pub total_same : (o : ℕ) (f g : Table → ℕ) → ((t : Table) → t.objective ≡ o → f t ≡ g t) → (ts : List Table)
    → total o f ts ≡ total o g ts
unfolding total
total_same o f g h [] = refl
total_same o f g h (t ∷ ts) = ap₂ ◌+◌ (go (eqb t.objective o) refl) (total_same o f g h ts)
  where
    go : (b : Bool) → eqb t.objective o ≡ b → when b (f t) ≡ when b (g t)
    go true e = h t (eqb-true t.objective o e)
    go false e = refl

when_plus : (b : Bool) (m n : ℕ) → when b (m + n) ≡ when b m + when b n
when_plus true m n = refl
when_plus false m n = refl

pub total_plus : (o : ℕ) (f g : Table → ℕ) (ts : List Table) → total o (λ t. f t + g t) ts ≡ total o f ts + total o g ts
unfolding total
total_plus o f g [] = refl
total_plus o f g (t ∷ ts) = omega (arith, when_plus (eqb t.objective o) (f t) (g t), total_plus o f g ts)

totals_from_grow : (p o : ℕ) (f g : Table → ℕ) → ((t : Table) → f t ≤ g t) → (ts : List Table)
    → AtMost (totals_from p o f ts) (totals_from p o g ts)
unfolding totals_from
totals_from_grow zero o f g h ts = tt
totals_from_grow (suc p) o f g h ts = (total_grows o f g h ts, totals_from_grow p (suc o) f g h ts)

pub totals_grow : (q : Problem) (f g : Table → ℕ) → ((t : Table) → f t ≤ g t) → AtMost (totals q f) (totals q g)
unfolding totals
totals_grow q f g h = totals_from_grow q.objectives 0 f g h q.tables

pub totals_from_length : (p o : ℕ) (f : Table → ℕ) (ts : List Table) → length (totals_from p o f ts) ≡ p
unfolding totals_from
totals_from_length zero o f ts = refl
totals_from_length (suc p) o f ts = ap suc (totals_from_length p (suc o) f ts)

-- of the sums of n objectives the first p
module _ (f : Table → ℕ) (ts : List Table) where
  pub take_totals : (p n o : ℕ) → p ≤ n → take p (totals_from n o f ts) ≡ totals_from p o f ts
  unfolding totals_from
  take_totals zero n o l = refl
  take_totals (suc p) zero o l = absurd (omega arith)
  take_totals (suc p) (suc n) o l = ap (◌∷◌ (total o f ts)) (take_totals p n (suc o) (omega arith))

pub totals_at : (f : Table → ℕ) (ts : List Table) (p o i : ℕ) → i < p
    → get_or (totals_from p o f ts) i 0 ≡ total (o + i) f ts
unfolding totals_from
totals_at f ts zero o i l = absurd (omega arith)
totals_at f ts (suc p) o zero l = let same : o ≡ o + 0 = omega arith in ap (λ (k : ℕ). total k f ts) same
totals_at f ts (suc p) o (suc i) l =
    let same : suc o + i ≡ o + suc i = omega arith in
    totals_at f ts p (suc o) i (omega arith) ∙ ap (λ (k : ℕ). total k f ts) same

pub totals_length : (q : Problem) (f : Table → ℕ) → length (totals q f) ≡ q.objectives
unfolding totals
totals_length q f = totals_from_length q.objectives 0 f q.tables

-- numbers that are each below w, so each one more is at most w
pub total_limit : (o w : ℕ) (f : Table → ℕ) (ts : List Table) → All (λ t. f t < w) ts
    → total o f ts + length ts ≤ length ts * w
unfolding total
total_limit o w f [] h = omega arith
total_limit o w f (t ∷ ts) h =
    let one : when (eqb t.objective o) (f t) < w = pick_both (λ n. n < w) (eqb t.objective o) h.0
    (omega (arith, h.0)) in
    omega (arith, suc-mul (length ts) w, total_limit o w f ts h.1)

-- an objective that no record has sums to 0, as do all past the last one that records have
total_none : (o : ℕ) (f : Table → ℕ) (ts : List Table) → All (λ t. t.objective ≡ o → ⊥) ts → total o f ts ≡ 0
unfolding total
total_none o f [] h = refl
total_none o f (t ∷ ts) h = rw (ne_eqb t.objective o h.0, total_none o f ts h.1) refl

totals_none : (n o : ℕ) (f : Table → ℕ) (ts : List Table) → All (λ t. t.objective < o) ts
    → totals_from n o f ts ≡ replicate n 0
unfolding totals_from
totals_none zero o f ts h = refl
totals_none (suc n) o f ts h =
    ap₂ ◌∷◌
    (total_none o f ts (all_map (λ t. t.objective < o) (λ t. t.objective ≡ o → ⊥) (λ t l e. omega arith) ts h))
    (totals_none n (suc o) f ts (all_map (λ t. t.objective < o) (λ t. t.objective < suc o) (λ t l. omega arith) ts h))

-- records of one objective alone: those before it sum to 0
pub totals_last : (m i o : ℕ) (f : Table → ℕ) (ts : List Table) → m + i ≡ o → All (λ t. t.objective ≡ o) ts
    → totals_from (suc m) i f ts ≡ replicate m 0 ++ (total o f ts ∷ [])
unfolding totals_from
totals_last zero i o f ts e h = let same : i ≡ o = omega arith in rw same refl
totals_last (suc m) i o f ts e h =
    ap₂ ◌∷◌
    (total_none i f ts (all_map (λ t. t.objective ≡ o) (λ t. t.objective ≡ i → ⊥) (λ t l r. omega arith) ts h))
    (totals_last m (suc i) o f ts (omega arith) h)

pub totals_padded : (p n o : ℕ) (f : Table → ℕ) (ts : List Table) → p ≤ n → All (λ t. t.objective < o + p) ts
    → totals_from n o f ts ≡ totals_from p o f ts ++ replicate (n - p) 0
unfolding totals_from
totals_padded zero n o f ts l h =
    rw sub-zero
    (totals_none n o f ts (all_map (λ t. t.objective < o + 0) (λ t. t.objective < o) (λ t k. omega arith) ts h))
totals_padded (suc p) zero o f ts l h = absurd (omega arith)
totals_padded (suc p) (suc n) o f ts l h =
    rw suc-sub-suc
    (ap (◌∷◌ (total o f ts))
    (totals_padded p n (suc o) f ts (omega arith)
    (all_map (λ t. t.objective < o + suc p) (λ t. t.objective < suc o + p) (λ t k. omega arith) ts h)))
