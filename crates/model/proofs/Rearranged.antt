-- Rearranged lists: what does not depend on the order of the elements, and rearranged cost records.
use mathlib.Core.Path.{◌≡◌, refl, ap, ap₂, ◌∙◌}
use mathlib.Core.Bool.{Bool, true, false, ◌||◌}
use mathlib.Core.List.{List, [], ◌∷◌, map}
use Prim.Native.Nat.{ℕ, zero, suc, ◌+◌}
use native.Mathlib.Omega.{arith}
use lib.Dec.{eqb}
use lib.ListN.{length, length-append}
use Rattle.model.specs.Basics.{when, keep_if, All}
use Rattle.model.specs.Problems.{Table}
use Rattle.model.specs.Encoding.{table_bytes, tables_bytes}
use Rattle.model.specs.Costs.{total, totals_from, forbidden, meets_forbidden}
use Rattle.model.specs.Cuts.{in_half, half_table, half_tables}
use Rattle.model.proofs.Bits.{or_swap}
use Rattle.model.specs.Rearrangements.{Rearranged, none, keep, swap, then}

module _ {A : Type 0} where
  pub rearranged_refl : (xs : List A) → Rearranged xs xs
  rearranged_refl [] = none
  rearranged_refl (x ∷ xs) = keep (rearranged_refl xs)

  pub rearranged_sym : {xs ys : List A} → Rearranged xs ys → Rearranged ys xs
  rearranged_sym none = none
  rearranged_sym (keep h) = keep (rearranged_sym h)
  rearranged_sym (swap h) = swap (rearranged_sym h)
  rearranged_sym (then h k) = then (rearranged_sym k) (rearranged_sym h)

  pub rearranged_length : {xs ys : List A} → Rearranged xs ys → length xs ≡ length ys
  rearranged_length none = refl
  rearranged_length (keep h) = ap suc (rearranged_length h)
  rearranged_length (swap h) = ap (λ (n : ℕ). suc (suc n)) (rearranged_length h)
  rearranged_length (then h k) = rearranged_length h ∙ rearranged_length k

  pub rearranged_all : (P : A → Type 0) {xs ys : List A} → All P xs → Rearranged xs ys → All P ys
  rearranged_all P a none = a
  rearranged_all P a (keep h) = (a.0, rearranged_all P a.1 h)
  rearranged_all P a (swap h) = (a.1.0, (a.0, rearranged_all P a.1.1 h))
  rearranged_all P a (then h k) = rearranged_all P (rearranged_all P a h) k

  pub rearranged_map : {B : Type 0} (f : A → B) {xs ys : List A} → Rearranged xs ys → Rearranged (map f xs) (map f ys)
  rearranged_map f none = none
  rearranged_map f (keep h) = keep (rearranged_map f h)
  rearranged_map f (swap h) = swap (rearranged_map f h)
  rearranged_map f (then h k) = then (rearranged_map f h) (rearranged_map f k)

  -- with one element more where its test passes; with two of them, in either order
  pub rearranged_keep : (t : Bool) (x : A) {xs ys : List A} → Rearranged xs ys
      → Rearranged (keep_if t x xs) (keep_if t x ys)
  rearranged_keep true x h = keep h
  rearranged_keep false x h = h

  pub rearranged_swap : (s t : Bool) (x y : A) {xs ys : List A} → Rearranged xs ys
      → Rearranged (keep_if s x (keep_if t y xs)) (keep_if t y (keep_if s x ys))
  rearranged_swap true true x y h = swap h
  rearranged_swap true false x y h = keep h
  rearranged_swap false true x y h = keep h
  rearranged_swap false false x y h = h

-- ## cost records: their sums, their halves, the length of their bytes

pub rearranged_total : (o : ℕ) (f : Table → ℕ) {ts us : List Table} → Rearranged ts us → total o f ts ≡ total o f us
unfolding total
rearranged_total o f none = refl
rearranged_total o f (keep {x = t} h) = ap (◌+◌ (when (eqb t.objective o) (f t))) (rearranged_total o f h)
rearranged_total o f (swap h) = omega (arith, rearranged_total o f h)
rearranged_total o f (then h k) = rearranged_total o f h ∙ rearranged_total o f k

pub rearranged_meets : (f : Table → ℕ) {ts us : List Table} → Rearranged ts us
    → meets_forbidden f ts ≡ meets_forbidden f us
unfolding meets_forbidden
rearranged_meets f none = refl
rearranged_meets f (keep {x = t} h) = ap (◌||◌ (eqb (f t) forbidden)) (rearranged_meets f h)
rearranged_meets f (swap {x = t} {y = u} {ys = us} h) =
    ap (λ (rest : Bool). eqb (f t) forbidden || (eqb (f u) forbidden || rest)) (rearranged_meets f h)
    ∙ or_swap (eqb (f t) forbidden) (eqb (f u) forbidden) (meets_forbidden f us)
rearranged_meets f (then h k) = rearranged_meets f h ∙ rearranged_meets f k

pub rearranged_totals : (p o : ℕ) (f : Table → ℕ) {ts us : List Table} → Rearranged ts us
    → totals_from p o f ts ≡ totals_from p o f us
unfolding totals_from
rearranged_totals zero o f h = refl
rearranged_totals (suc p) o f h = ap₂ ◌∷◌ (rearranged_total o f h) (rearranged_totals p (suc o) f h)

pub rearranged_halves : (k : ℕ) (ss : List ℕ) {ts us : List Table} → Rearranged ts us
    → Rearranged (half_tables k ss ts) (half_tables k ss us)
unfolding half_tables
rearranged_halves k ss none = none
rearranged_halves k ss (keep {x = t} h) =
    rearranged_keep (in_half k ss t.scope) (half_table k ss t) (rearranged_halves k ss h)
rearranged_halves k ss (swap {x = t} {y = u} h) =
    rearranged_swap (in_half k ss t.scope) (in_half k ss u.scope) (half_table k ss t) (half_table k ss u)
    (rearranged_halves k ss h)
rearranged_halves k ss (then g h) = then (rearranged_halves k ss g) (rearranged_halves k ss h)

pub tables_length : (t : Table) (ts : List Table)
    → length (tables_bytes (t ∷ ts)) ≡ length (table_bytes t) + length (tables_bytes ts)
unfolding tables_bytes
tables_length t ts = length-append (table_bytes t) (tables_bytes ts)

pub rearranged_bytes : {ts us : List Table} → Rearranged ts us → length (tables_bytes ts) ≡ length (tables_bytes us)
rearranged_bytes none = refl
rearranged_bytes (keep {x = t} {xs = ts} {ys = us} h) =
    omega (arith, tables_length t ts, tables_length t us, rearranged_bytes h)
rearranged_bytes (swap {x = t} {y = u} {xs = ts} {ys = us} h) =
    omega (
      arith,
      tables_length t (u ∷ ts),
      tables_length u ts,
      tables_length u (t ∷ us),
      tables_length t us,
      rearranged_bytes h,
    )
rearranged_bytes (then h k) = rearranged_bytes h ∙ rearranged_bytes k
