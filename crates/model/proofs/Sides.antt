-- Lists cut by a side list: the parts of a choice, the choice that two parts make, and its place in the order.
use mathlib.Core.Path.{◌≡◌, refl, ap}
use mathlib.Core.Logic.{◌⊎◌, inl, inr, ⊎_elim}
use mathlib.Core.Bool.{Bool, true, false, false≢true}
use mathlib.Core.List.{List, [], ◌∷◌}
use Prim.Native.Nat.{ℕ, zero, suc, ◌+◌, ◌<◌}
use native.Mathlib.Omega.{arith}
use lib.Dec.{eqb, ltb, leb}
use lib.ListN.{length, get_or}
use borrow.Author.Tests.{leb-true, eq-eqb}
use Rattle.model.specs.Basics.{when, keep_if}
use Rattle.model.specs.Costs.{is_choice}
use Rattle.model.specs.Cuts.{all_sides, on_side, new_number, merged}
use Rattle.model.proofs.Bits.{and_left, and_right, and_both}
use Rattle.model.proofs.Vectors.{NotLater}

-- a side is 0 or 1
pub side_cases : (s : ℕ) (ss : List ℕ) → all_sides (s ∷ ss) ≡ true → (s ≡ 0) ⊎ (s ≡ 1)
unfolding all_sides
side_cases zero ss a = inl refl
side_cases (suc zero) ss a = inr refl
side_cases (suc (suc s)) ss a =
    absurd (omega (arith, leb-true (suc (suc s)) 1 (and_left (leb (suc (suc s)) 1) (all_sides ss) a)))

pub sides_tail : (s : ℕ) (ss : List ℕ) → all_sides (s ∷ ss) ≡ true → all_sides ss ≡ true
unfolding all_sides
sides_tail s ss a = and_right (leb s 1) (all_sides ss) a

-- where an element stands in its part
pub side_place : (k : ℕ) (ss zs : List ℕ) → length zs ≡ length ss → (v : ℕ) → get_or ss v 0 ≡ k
    → get_or zs v 0 ≡ get_or (on_side k ss zs) (new_number k ss v) 0
unfolding on_side new_number
side_place k [] [] e v h = refl
side_place k [] (z ∷ zs) e v h = absurd (omega arith)
side_place k (s ∷ ss) [] e v h = absurd (omega arith)
side_place k (s ∷ ss) (z ∷ zs) e zero h = rw (eq-eqb s k h) refl
side_place k (s ∷ ss) (z ∷ zs) e (suc v) h = go (eqb s k) (side_place k ss zs (omega arith) v h)
  where
    go : (b : Bool) → get_or zs v 0 ≡ get_or (on_side k ss zs) (new_number k ss v) 0
        → get_or zs v 0 ≡ get_or (keep_if b z (on_side k ss zs)) (when b 1 + new_number k ss v) 0
    go true r = let one : 1 + new_number k ss v ≡ suc (new_number k ss v) = omega arith in rw one r
    go false r = let none : 0 + new_number k ss v ≡ new_number k ss v = omega arith in rw none r

-- the parts of a choice are choices of the parts
pub part_choice_lem : (k : ℕ) (ss ds zs : List ℕ) → is_choice ds zs ≡ true
    → is_choice (on_side k ss ds) (on_side k ss zs) ≡ true
unfolding on_side is_choice
part_choice_lem k [] ds zs h = refl
part_choice_lem k (s ∷ ss) [] [] h = refl
part_choice_lem k (s ∷ ss) [] (z ∷ zs) h = absurd (false≢true h)
part_choice_lem k (s ∷ ss) (d ∷ ds) [] h = absurd (false≢true h)
part_choice_lem k (s ∷ ss) (d ∷ ds) (z ∷ zs) h =
    go (eqb s k) (part_choice_lem k ss ds zs (and_right (ltb z d) (is_choice ds zs) h))
  where
    go : (b : Bool) → is_choice (on_side k ss ds) (on_side k ss zs) ≡ true
        → is_choice (keep_if b d (on_side k ss ds)) (keep_if b z (on_side k ss zs)) ≡ true
    go true r = and_both (and_left (ltb z d) (is_choice ds zs) h) r
    go false r = r

-- what two choices of the parts make: a choice of the whole, of which they are the parts
pub record Joined (ss ds xs ys : List ℕ) : Type 0 where
  pub whole : is_choice ds (merged ss xs ys) ≡ true
  pub zero_part : on_side 0 ss (merged ss xs ys) ≡ xs
  pub one_part : on_side 1 ss (merged ss xs ys) ≡ ys

pub joined : (ss ds xs ys : List ℕ) → all_sides ss ≡ true → length ds ≡ length ss
    → is_choice (on_side 0 ss ds) xs ≡ true
    → is_choice (on_side 1 ss ds) ys ≡ true → Joined ss ds xs ys
unfolding on_side is_choice merged
joined [] [] [] [] a e h k = record { whole = refl; zero_part = refl; one_part = refl }
joined [] [] [] (y ∷ ys) a e h k = absurd (false≢true k)
joined [] [] (x ∷ xs) ys a e h k = absurd (false≢true h)
joined [] (d ∷ ds) xs ys a e h k = absurd (omega arith)
joined (s ∷ ss) [] xs ys a e h k = absurd (omega arith)
joined (zero ∷ ss) (d ∷ ds) [] ys a e h k = absurd (false≢true h)
joined (zero ∷ ss) (d ∷ ds) (x ∷ xs) ys a e h k =
    let r = joined ss ds xs ys (sides_tail zero ss a) (omega arith)
    (and_right (ltb x d) (is_choice (on_side 0 ss ds) xs) h) k in
    record {
      whole = and_both (and_left (ltb x d) (is_choice (on_side 0 ss ds) xs) h) r.whole;
      zero_part = ap (◌∷◌ x) r.zero_part;
      one_part = r.one_part;
    }
joined (suc zero ∷ ss) (d ∷ ds) xs [] a e h k = absurd (false≢true k)
joined (suc zero ∷ ss) (d ∷ ds) xs (y ∷ ys) a e h k =
    let r = joined ss ds xs ys (sides_tail 1 ss a) (omega arith) h
    (and_right (ltb y d) (is_choice (on_side 1 ss ds) ys) k) in
    record {
      whole = and_both (and_left (ltb y d) (is_choice (on_side 1 ss ds) ys) k) r.whole;
      zero_part = r.zero_part;
      one_part = ap (◌∷◌ y) r.one_part;
    }
joined (suc (suc s) ∷ ss) (d ∷ ds) xs ys a e h k =
    absurd (⊎_elim (λ z. omega arith) (λ z. omega arith) (side_cases (suc (suc s)) ss a))

-- the order of vectors, by their heads
heads_from : (x y : ℕ) (xs ys : List ℕ) → NotLater (x ∷ xs) (y ∷ ys) → (x < y) ⊎ ((x ≡ y) × NotLater xs ys)
heads_from x y xs ys (inl e) = inr (cc, inl (cc))
heads_from x y xs ys (inr (inl h)) = inl h
heads_from x y xs ys (inr (inr h)) = inr (h.0, inr h.1)

pub heads_to : (x y : ℕ) (xs ys : List ℕ) → (x < y) ⊎ ((x ≡ y) × NotLater xs ys) → NotLater (x ∷ xs) (y ∷ ys)
heads_to x y xs ys (inl h) = inr (inl h)
heads_to x y xs ys (inr (e, inl h)) = inl (cc)
heads_to x y xs ys (inr (e, inr h)) = inr (inr (e, h))

-- not later in both parts: not later in the whole
pub parts_order : (ss zs ws : List ℕ) → all_sides ss ≡ true → length zs ≡ length ss → length ws ≡ length ss
    → NotLater (on_side 0 ss zs) (on_side 0 ss ws) → NotLater (on_side 1 ss zs) (on_side 1 ss ws) → NotLater zs ws
unfolding on_side
parts_order [] [] [] a e f h k = inl refl
parts_order [] [] (w ∷ ws) a e f h k = absurd (omega arith)
parts_order [] (z ∷ zs) ws a e f h k = absurd (omega arith)
parts_order (s ∷ ss) [] ws a e f h k = absurd (omega arith)
parts_order (s ∷ ss) (z ∷ zs) [] a e f h k = absurd (omega arith)
parts_order (zero ∷ ss) (z ∷ zs) (w ∷ ws) a e f h k =
    heads_to z w zs ws
    (⊎_elim (λ p. inl p)
    (λ p. inr (p.0, parts_order ss zs ws (sides_tail zero ss a) (omega arith) (omega arith) p.1 k))
    (heads_from z w (on_side 0 ss zs) (on_side 0 ss ws) h))
parts_order (suc zero ∷ ss) (z ∷ zs) (w ∷ ws) a e f h k =
    heads_to z w zs ws
    (⊎_elim (λ p. inl p)
    (λ p. inr (p.0, parts_order ss zs ws (sides_tail 1 ss a) (omega arith) (omega arith) h p.1))
    (heads_from z w (on_side 1 ss zs) (on_side 1 ss ws) k))
parts_order (suc (suc s) ∷ ss) (z ∷ zs) (w ∷ ws) a e f h k =
    absurd (⊎_elim (λ t. omega arith) (λ t. omega arith) (side_cases (suc (suc s)) ss a))
