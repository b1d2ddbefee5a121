-- A problem narrowed to the variables of one side: a record over that side has the same least entries and costs there.
use mathlib.Core.Path.{◌≡◌, refl, ap, sym, ◌∙◌, fun_ext}
use mathlib.Core.Bool.{true}
use mathlib.Core.List.{List, [], ◌∷◌}
use Prim.Native.Nat.{ℕ, zero, suc, ◌+◌, ◌-◌, ◌*◌, ◌≤◌}
use native.Mathlib.Omega.{arith}
use lib.Dec.{eqb, ltb}
use lib.ListN.{length, get_or}
use borrow.Author.Tests.{ltb-true, lt-ltb, le-ltb, eqb-true, eq-eqb}
use Rattle.model.specs.Basics.{pick, All}
use Rattle.model.specs.Problems.{Table}
use Rattle.model.specs.Costs.{is_choice, cost_of}
use Rattle.model.specs.Bounds.{least_to, least_from, least_of}
use Rattle.model.specs.Cuts.{on_side, new_number, in_half}
use Rattle.model.specs.Views.{narrowed, all_on, within, spread}
use Rattle.model.proofs.Bits.{and_left, and_right, and_both, pick_both}
use Rattle.model.proofs.Elements.{all_map}
use Rattle.model.proofs.Choices.{choice_length}
use Rattle.model.proofs.Sides.{side_place, part_choice_lem}
use Rattle.model.proofs.Spread.{narrowed_length, spread_choice}
use Rattle.model.proofs.LeastEntry.{entry_same}

-- the variables of a scope within a side are on it
all_on_lem : (k : ℕ) (ss vs : List ℕ) → all_on k ss vs ≡ true → All (λ v. get_or ss v 0 ≡ k) vs
unfolding all_on
all_on_lem k ss [] h = tt
all_on_lem k ss (v ∷ vs) h = (
  eqb-true (get_or ss v 0) k (and_left (eqb (get_or ss v 0) k) _ h),
  all_on_lem k ss vs (and_right (eqb (get_or ss v 0) k) _ h),
)

pub within_all : (k : ℕ) (ss vs : List ℕ) → within k ss vs ≡ true → All (λ v. get_or ss v 0 ≡ k) vs
within_all k ss vs h = all_on_lem k ss vs (and_right (in_half k ss vs) (all_on k ss vs) h)

-- what is within a side is within a larger one
module _ (k : ℕ) (ss rs : List ℕ) (more : (v : ℕ) → get_or ss v 0 ≡ k → get_or rs v 0 ≡ k) where
  on_more : (v : ℕ) → eqb (get_or ss v 0) k ≡ true → eqb (get_or rs v 0) k ≡ true
  on_more v h = eq-eqb (get_or rs v 0) k (more v (eqb-true (get_or ss v 0) k h))

  all_more : (vs : List ℕ) → all_on k ss vs ≡ true → all_on k rs vs ≡ true
  unfolding all_on
  all_more [] h = refl
  all_more (v ∷ vs) h =
      and_both (on_more v (and_left (eqb (get_or ss v 0) k) _ h)) (all_more vs (and_right (eqb (get_or ss v 0) k) _ h))

  pub within_more : (vs : List ℕ) → within k ss vs ≡ true → within k rs vs ≡ true
  unfolding in_half
  within_more [] h = and_both (and_left (eqb k 0) _ h) (all_more [] (and_right (eqb k 0) _ h))
  within_more (v ∷ vs) h =
      and_both (on_more v (and_left (eqb (get_or ss v 0) k) _ h))
      (all_more (v ∷ vs) (and_right (eqb (get_or ss v 0) k) _ h))

-- the sizes that a side leaves: its own, and else 1
pub narrowed_at : (k : ℕ) (ss ds : List ℕ) → length ds ≡ length ss → (v : ℕ) → get_or ss v 0 ≡ k
    → get_or (narrowed k ss ds) v 0 ≡ get_or ds v 0
unfolding narrowed
narrowed_at k [] [] e v h = refl
narrowed_at k [] (d ∷ ds) e v h = absurd (omega arith)
narrowed_at k (s ∷ ss) [] e v h = refl
narrowed_at k (s ∷ ss) (d ∷ ds) e zero h = rw (eq-eqb s k h) refl
narrowed_at k (s ∷ ss) (d ∷ ds) e (suc v) h = narrowed_at k ss ds (omega arith) v h

-- a choice that is narrowed is one of the whole, and each choice of the whole has a narrowed one with the same values
-- on that side
pub narrowed_choice : (k : ℕ) (ss ds y : List ℕ) → length ds ≡ length ss → All (λ d. 1 ≤ d) ds
    → is_choice (narrowed k ss ds) y ≡ true → is_choice ds y ≡ true
unfolding narrowed is_choice
narrowed_choice k [] [] y e low c = c
narrowed_choice k [] (d ∷ ds) y e low c = absurd (omega arith)
narrowed_choice k (s ∷ ss) [] y e low c = c
narrowed_choice k (s ∷ ss) (d ∷ ds) [] e low c = c
narrowed_choice k (s ∷ ss) (d ∷ ds) (x ∷ y) e low c =
    let size = pick (eqb s k) d 1 in
    let most : size ≤ d = pick_both (λ n. n ≤ d) (eqb s k) (omega arith) low.0 in
    and_both (lt-ltb x d (omega (arith, ltb-true x size (and_left (ltb x size) _ c))))
    (narrowed_choice k ss ds y (omega arith) low.1 (and_right (ltb x size) _ c))

pub narrowed_part : (k : ℕ) (ss ds y : List ℕ) → length ds ≡ length ss → is_choice ds y ≡ true
    → (z : List ℕ) × (is_choice (narrowed k ss ds) z ≡ true)
    × ((v : ℕ) → get_or ss v 0 ≡ k → get_or z v 0 ≡ get_or y v 0)
narrowed_part k ss ds y long c =
    let part = spread_choice k ss ds (on_side k ss y) long (part_choice_lem k ss ds y c) in
    let z = spread k ss (on_side k ss y) in
    let wide : length z ≡ length ss = choice_length (narrowed k ss ds) z part.whole
    ∙ narrowed_length k ss ds long in (
      z,
      part.whole,
      λ v e. side_place k ss z wide v e
          ∙ ap (λ (xs : List ℕ). get_or xs (new_number k ss v) 0) part.part
          ∙ sym (side_place k ss y (choice_length ds y c ∙ long) v e),
    )

-- a table's least entry depends on the domain sizes of its scope, and on a prefix only where that reaches the scope
module _ (ds es pre : List ℕ) (entry : ℕ → ℕ) where
  from_same : (i : ℕ) (vs : List ℕ) → All (λ v. (length pre ≤ v) × (get_or ds v 0 ≡ get_or es v 0)) vs
      → least_from ds pre entry i vs ≡ least_from es [] entry i vs
  unfolding least_from
  from_same i [] h = refl
  from_same i (v ∷ vs) h =
      rw (le-ltb v (length pre) h.0.0, le-ltb v 0 (omega arith), h.0.1)
      (ap (least_to (get_or es v 0 - 1)) (fun_ext (λ a. from_same (i * get_or es v 0 + a) vs h.1)))

pub least_same : (ds es pre : List ℕ) (t : Table)
    → All (λ v. (length pre ≤ v) × (get_or ds v 0 ≡ get_or es v 0)) t.scope
    → least_of ds pre t ≡ least_of es [] t
unfolding least_of
least_same ds es pre t h = from_same ds es pre (λ i. get_or t.costs i 0) 0 t.scope h

cost_same : (ds es x y : List ℕ) (t : Table)
    → All (λ v. (get_or ds v 0 ≡ get_or es v 0) × (get_or x v 0 ≡ get_or y v 0)) t.scope
    → cost_of ds x t ≡ cost_of es y t
unfolding cost_of
cost_same ds es x y t h = ap (λ (i : ℕ). get_or t.costs i 0) (entry_same ds es x y 0 t.scope h)

-- a record over the side gives the same over the narrowed sizes
module _ (k : ℕ) (ss ds : List ℕ) (long : length ds ≡ length ss) (t : Table)
    (inside : within k ss t.scope ≡ true) where
  pub narrowed_least : least_of (narrowed k ss ds) [] t ≡ least_of ds [] t
  narrowed_least =
      least_same (narrowed k ss ds) ds [] t
      (all_map (λ v. get_or ss v 0 ≡ k) (λ v. (0 ≤ v) × (get_or (narrowed k ss ds) v 0 ≡ get_or ds v 0))
      (λ v e. (omega arith, narrowed_at k ss ds long v e)) t.scope (within_all k ss t.scope inside))

  pub narrowed_cost : (z y : List ℕ) → ((v : ℕ) → get_or ss v 0 ≡ k → get_or z v 0 ≡ get_or y v 0)
      → cost_of (narrowed k ss ds) z t ≡ cost_of ds y t
  narrowed_cost z y h =
      cost_same (narrowed k ss ds) ds z y t
      (all_map (λ v. get_or ss v 0 ≡ k)
      (λ v. (get_or (narrowed k ss ds) v 0 ≡ get_or ds v 0) × (get_or z v 0 ≡ get_or y v 0))
      (λ v e. (narrowed_at k ss ds long v e, h v e)) t.scope (within_all k ss t.scope inside))
