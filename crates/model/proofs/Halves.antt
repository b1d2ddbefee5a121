-- A problem that no record crosses costs what its two halves cost together, and a choice meets the forbidden entries
-- that its parts meet.
use mathlib.Core.Path.{◌≡◌, refl, ap}
use mathlib.Core.Logic.{◌⊎◌, inl, ⊎_elim}
use mathlib.Core.Bool.{Bool, true, false, ◌&&◌, ◌||◌, not}
use mathlib.Core.List.Memᴰ.{head as here}
use mathlib.Core.List.Memᴰ.{tail as there}
use mathlib.Core.List.{List, [], ◌∷◌, Memᴰ as In}
use mathlib.Core.List.Memᴰ.{cases_cons as in-cases}
use mathlib.Core.List.Memᴰ.{not-nil as in-none}
use Prim.Native.Nat.{ℕ, zero, suc, ◌+◌, ◌*◌}
use native.Mathlib.Omega.{arith}
use lib.Dec.{eqb}
use lib.ListN.{length, get_or}
use borrow.Author.Tests.{eq-eqb, ne_eqb, not-true}
use Rattle.model.specs.Problems.{Table, Problem}
use Rattle.model.specs.Vectors.{added}
use Rattle.model.specs.Costs.{entry_from, cost_of, total, totals_from, totals, forbidden, meets_forbidden, costs_of}
use Rattle.model.specs.Cuts.{all_sides, has_side, crosses, uncrossed, on_side, new_number, renumbered, in_half}
use Rattle.model.specs.Cuts.{half_table, half_tables, half}
use Rattle.model.proofs.Bits.{true_false, and_left, and_right, and_both, or_assoc, or_swap, or_left, or_right}
use Rattle.model.proofs.Sides.{side_cases, sides_tail, side_place}

-- a scope that lies on side k
abbrev pub OnSide : ℕ → List ℕ → List ℕ → Type 0
OnSide k ss vs = (v : ℕ) → In v vs → get_or ss v 0 ≡ k

-- a variable out of the list counts as side 0
side_of : (ss : List ℕ) → all_sides ss ≡ true → (v : ℕ) → (get_or ss v 0 ≡ 0) ⊎ (get_or ss v 0 ≡ 1)
side_of [] a v = inl refl
side_of (s ∷ ss) a zero = side_cases s ss a
side_of (s ∷ ss) a (suc v) = side_of ss (sides_tail s ss a) v

has_side_lem : (k : ℕ) (ss vs : List ℕ) (v : ℕ) → In v vs → get_or ss v 0 ≡ k → has_side k ss vs ≡ true
unfolding has_side
has_side_lem k ss [] v m e = absurd (in-none m)
has_side_lem k ss (w ∷ vs) v m e =
    ⊎_elim (λ (d : v ≡ w). or_left (has_side k ss vs) (eq-eqb (get_or ss w 0) k (rw d at e)))
    (λ n. or_right (eqb (get_or ss w 0) k) (has_side_lem k ss vs v n e)) (in-cases m)

-- a scope that does not cross lies in one half
pub data InOne (ss vs : List ℕ) : Type 0 where
  in_zero : in_half 0 ss vs ≡ true → in_half 1 ss vs ≡ false → OnSide 0 ss vs → InOne ss vs
  in_one : in_half 0 ss vs ≡ false → in_half 1 ss vs ≡ true → OnSide 1 ss vs → InOne ss vs

pub one_half : (ss : List ℕ) → all_sides ss ≡ true → (vs : List ℕ) → (has_side 0 ss vs && has_side 1 ss vs) ≡ false
    → InOne ss vs
unfolding in_half
one_half ss a [] h = in_zero refl refl (λ v m. absurd (in-none m))
one_half ss a (v ∷ vs) h =
    ⊎_elim
    (λ (e : get_or ss v 0 ≡ 0). in_zero (eq-eqb (get_or ss v 0) 0 e) (ne_eqb (get_or ss v 0) 1 (λ d. omega arith))
    (λ w m. ⊎_elim (λ d. d) (λ d. both v w (here refl) m e d) (side_of ss a w)))
    (λ (e : get_or ss v 0 ≡ 1). in_one (ne_eqb (get_or ss v 0) 0 (λ d. omega arith)) (eq-eqb (get_or ss v 0) 1 e)
    (λ w m. ⊎_elim (λ d. both w v m (here refl) d e) (λ d. d) (side_of ss a w)))
    (side_of ss a v)
  where
    both : {A : Type 0} (u w : ℕ) → In u (v ∷ vs) → In w (v ∷ vs) → get_or ss u 0 ≡ 0 → get_or ss w 0 ≡ 1 → A
    both u w m n e d =
        absurd (true_false (and_both (has_side_lem 0 ss (v ∷ vs) u m e) (has_side_lem 1 ss (v ∷ vs) w n d)) h)

-- the first of uncrossed records, and the others
pub uncrossed_first : (ss : List ℕ) (t : Table) (ts : List Table) → uncrossed ss (t ∷ ts) ≡ true → crosses ss t ≡ false
unfolding uncrossed
uncrossed_first ss t ts h = not-true (crosses ss t) (and_left (not (crosses ss t)) (uncrossed ss ts) h)

pub uncrossed_rest : (ss : List ℕ) (t : Table) (ts : List Table) → uncrossed ss (t ∷ ts) ≡ true → uncrossed ss ts ≡ true
unfolding uncrossed
uncrossed_rest ss t ts h = and_right (not (crosses ss t)) (uncrossed ss ts) h

-- the costs of a choice and of its two parts
module _ (ss : List ℕ) (all : all_sides ss ≡ true) (ds zs : List ℕ) (long : length ds ≡ length ss)
    (wide : length zs ≡ length ss) where
  -- a table's entry is the same in its half
  entry_half : (k : ℕ) (vs : List ℕ) → OnSide k ss vs → (i : ℕ)
      → entry_from i ds vs zs ≡ entry_from i (on_side k ss ds) (renumbered k ss vs) (on_side k ss zs)
  unfolding entry_from renumbered
  entry_half k [] o i = refl
  entry_half k (v ∷ vs) o i =
      let n = new_number k ss v in
      rw (side_place k ss ds long v (o v (here refl)), side_place k ss zs wide v (o v (here refl)))
      (entry_half k vs (λ w m. o w (there m)) (i * get_or (on_side k ss ds) n 0 + get_or (on_side k ss zs) n 0))

  pub table_half : (k : ℕ) (t : Table) → OnSide k ss t.scope
      → cost_of ds zs t ≡ cost_of (on_side k ss ds) (on_side k ss zs) (half_table k ss t)
  unfolding cost_of
  table_half k t o = ap (λ (i : ℕ). get_or t.costs i 0) (entry_half k t.scope o 0)

  -- what half k's records give
  abbrev in_part : ℕ → Table → ℕ
  in_part k = cost_of (on_side k ss ds) (on_side k ss zs)

  total_parts : (o : ℕ) (ts : List Table) → uncrossed ss ts ≡ true
      → total o (cost_of ds zs) ts
      ≡ total o (in_part 0) (half_tables 0 ss ts) + total o (in_part 1) (half_tables 1 ss ts)
  unfolding total half_tables crosses
  total_parts o [] h = refl
  total_parts o (t ∷ ts) h =
      go (one_half ss all t.scope (uncrossed_first ss t ts h)) (total_parts o ts (uncrossed_rest ss t ts h))
    where
      go : InOne ss t.scope
          → total o (cost_of ds zs) ts
          ≡ total o (in_part 0) (half_tables 0 ss ts) + total o (in_part 1) (half_tables 1 ss ts)
          → total o (cost_of ds zs) (t ∷ ts)
          ≡ total o (in_part 0) (half_tables 0 ss (t ∷ ts)) + total o (in_part 1) (half_tables 1 ss (t ∷ ts))
      go (in_zero a b s) e = rw (a, b, table_half 0 t s) (omega arith)
      go (in_one a b s) e = rw (a, b, table_half 1 t s) (omega arith)

  totals_parts : (p o : ℕ) (ts : List Table) → uncrossed ss ts ≡ true
      → totals_from p o (cost_of ds zs) ts
      ≡ added (totals_from p o (in_part 0) (half_tables 0 ss ts)) (totals_from p o (in_part 1) (half_tables 1 ss ts))
  unfolding totals_from added
  totals_parts zero o ts h = refl
  totals_parts (suc p) o ts h = let a = total_parts o ts h in let b = totals_parts p (suc o) ts h in cc

  meets_parts : (ts : List Table) → uncrossed ss ts ≡ true
      → meets_forbidden (cost_of ds zs) ts
      ≡ (meets_forbidden (in_part 0) (half_tables 0 ss ts) || meets_forbidden (in_part 1) (half_tables 1 ss ts))
  unfolding meets_forbidden half_tables crosses
  meets_parts [] h = refl
  meets_parts (t ∷ ts) h =
      go (one_half ss all t.scope (uncrossed_first ss t ts h)) (meets_parts ts (uncrossed_rest ss t ts h))
    where
      first : Bool
      first = meets_forbidden (in_part 0) (half_tables 0 ss ts)

      second : Bool
      second = meets_forbidden (in_part 1) (half_tables 1 ss ts)

      met : ℕ → Bool
      met k = eqb (in_part k (half_table k ss t)) forbidden

      go : InOne ss t.scope → meets_forbidden (cost_of ds zs) ts ≡ (first || second)
          → meets_forbidden (cost_of ds zs) (t ∷ ts)
          ≡ (meets_forbidden (in_part 0) (half_tables 0 ss (t ∷ ts))
          || meets_forbidden (in_part 1) (half_tables 1 ss (t ∷ ts)))
      go (in_zero a b s) e = rw (a, b, table_half 0 t s, e) (or_assoc (met 0) first second)
      go (in_one a b s) e = rw (a, b, table_half 1 t s, e) (or_swap (met 1) first second)

pub costs_halves : (q : Problem) (ss zs : List ℕ) → all_sides ss ≡ true → length q.domains ≡ length ss
    → length zs ≡ length ss → uncrossed ss q.tables ≡ true
    → costs_of q zs ≡ added (costs_of (half 0 q ss) (on_side 0 ss zs)) (costs_of (half 1 q ss) (on_side 1 ss zs))
unfolding costs_of totals half
costs_halves q ss zs all long wide free =
    totals_parts ss all q.domains zs long wide q.objectives 0 q.tables free

pub meets_halves : (q : Problem) (ss zs : List ℕ) → all_sides ss ≡ true → length q.domains ≡ length ss
    → length zs ≡ length ss → uncrossed ss q.tables ≡ true
    → meets_forbidden (cost_of q.domains zs) q.tables
    ≡ (meets_forbidden (cost_of (half 0 q ss).domains (on_side 0 ss zs)) (half 0 q ss).tables
    || meets_forbidden (cost_of (half 1 q ss).domains (on_side 1 ss zs)) (half 1 q ss).tables)
unfolding half
meets_halves q ss zs all long wide free = meets_parts ss all q.domains zs long wide q.tables free
