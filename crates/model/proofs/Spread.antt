-- Choices of one side, and what a view makes of them: 0 for the other side's variables, and the same order.
use mathlib.Core.Path.{◌≡◌, refl, ap, ap₂, sym, subst}
use mathlib.Core.Logic.{inl, inr, ⊎_elim}
use mathlib.Core.Bool.{Bool, true, false, false≢true}
use mathlib.Core.List.Memᴰ.{head as here}
use mathlib.Core.List.Memᴰ.{tail as there}
use mathlib.Core.List.{List, [], ◌∷◌, Memᴰ as In}
use mathlib.Core.List.Memᴰ.{cases_cons as in-cases}
use mathlib.Core.List.Memᴰ.{not-nil as in-none}
use Prim.Native.Nat.{ℕ, zero, suc, ◌+◌, ◌<◌}
use native.Mathlib.Omega.{arith}
use lib.Dec.{eqb, ltb}
use lib.ListN.{length, get_or, drop}
use borrow.Author.Tests.{ltb-true, eqb-true}
use Rattle.model.specs.Basics.{pick, keep_if, All}
use Rattle.model.specs.Limits.{max_domain}
use Rattle.model.specs.Problems.{DomainSize}
use Rattle.model.specs.Vectors.{added}
use Rattle.model.specs.Costs.{is_choice}
use Rattle.model.specs.Frontiers.{Point, point}
use Rattle.model.specs.Cuts.{all_sides, on_side, merged}
use Rattle.model.specs.Views.{narrowed, spread, spread_all}
use Rattle.model.proofs.Bits.{and_left, and_right, and_both}
use Rattle.model.proofs.Vectors.{Earlier, NotLater}
use Rattle.model.proofs.Points.{Rising}
use Rattle.model.proofs.Sides.{side_cases, sides_tail, heads_to}

-- the domain sizes that a side leaves
pub narrowed_length : (k : ℕ) (ss ds : List ℕ) → length ds ≡ length ss → length (narrowed k ss ds) ≡ length ss
unfolding narrowed
narrowed_length k [] ds e = refl
narrowed_length k (s ∷ ss) [] e = absurd (omega arith)
narrowed_length k (s ∷ ss) (d ∷ ds) e = ap suc (narrowed_length k ss ds (omega arith))

pub narrowed_side : (k : ℕ) (ss ds : List ℕ) → on_side k ss (narrowed k ss ds) ≡ on_side k ss ds
unfolding narrowed on_side
narrowed_side k [] ds = refl
narrowed_side k (s ∷ ss) [] = refl
narrowed_side k (s ∷ ss) (d ∷ ds) = go (eqb s k) (narrowed_side k ss ds)
  where
    go : (b : Bool) → on_side k ss (narrowed k ss ds) ≡ on_side k ss ds
        → keep_if b (pick b d 1) (on_side k ss (narrowed k ss ds)) ≡ keep_if b d (on_side k ss ds)
    go true r = ap (◌∷◌ d) r
    go false r = r

-- a choice of one side gives a choice of the view, of which it is the part
pub record Spread (k : ℕ) (ss ds xs : List ℕ) : Type 0 where
  pub whole : is_choice (narrowed k ss ds) (spread k ss xs) ≡ true
  pub part : on_side k ss (spread k ss xs) ≡ xs

pub spread_choice : (k : ℕ) (ss ds xs : List ℕ) → length ds ≡ length ss → is_choice (on_side k ss ds) xs ≡ true
    → Spread k ss ds xs
unfolding narrowed spread on_side is_choice
spread_choice k [] ds [] e h = record { whole = refl; part = refl }
spread_choice k [] ds (x ∷ xs) e h = absurd (false≢true h)
spread_choice k (s ∷ ss) [] xs e h = absurd (omega arith)
spread_choice k (s ∷ ss) (d ∷ ds) xs e h = go (eqb s k) refl xs h (λ ys. spread_choice k ss ds ys (omega arith))
  where
    go : (b : Bool) → eqb s k ≡ b → (xs : List ℕ) → is_choice (keep_if b d (on_side k ss ds)) xs ≡ true
        → ((ys : List ℕ) → is_choice (on_side k ss ds) ys ≡ true → Spread k ss ds ys) → Spread k (s ∷ ss) (d ∷ ds) xs
    go true c [] h rest = absurd (false≢true h)
    go true c (x ∷ xs) h rest =
        let r = rest xs (and_right (ltb x d) _ h) in
        record {
          whole = rw c (and_both (and_left (ltb x d) _ h) r.whole);
          part = rw c (rw c (ap (◌∷◌ x) r.part));
        }
    go false c xs h rest = let r = rest xs h in record { whole = rw c r.whole; part = rw c (rw c r.part) }

-- a choice of the view is its part spread out
pub spread_part : (k : ℕ) (ss ds zs : List ℕ) → length ds ≡ length ss → is_choice (narrowed k ss ds) zs ≡ true
    → spread k ss (on_side k ss zs) ≡ zs
unfolding narrowed spread on_side is_choice
spread_part k [] ds [] e h = refl
spread_part k [] ds (z ∷ zs) e h = absurd (false≢true h)
spread_part k (s ∷ ss) [] zs e h = absurd (omega arith)
spread_part k (s ∷ ss) (d ∷ ds) [] e h = absurd (false≢true h)
spread_part k (s ∷ ss) (d ∷ ds) (z ∷ zs) e h =
    go (eqb s k) (and_left (ltb z (pick (eqb s k) d 1)) _ h)
    (spread_part k ss ds zs (omega arith) (and_right (ltb z (pick (eqb s k) d 1)) _ h))
  where
    go : (b : Bool) → ltb z (pick b d 1) ≡ true → spread k ss (on_side k ss zs) ≡ zs
        → pick b (get_or (keep_if b z (on_side k ss zs)) 0 0 ∷ spread k ss (drop 1 (keep_if b z (on_side k ss zs))))
        (0 ∷ spread k ss (keep_if b z (on_side k ss zs)))
        ≡ z ∷ zs
    go true l r = ap (◌∷◌ z) r
    go false l r = ap₂ ◌∷◌ (omega (arith, ltb-true z 1 l)) r

-- the order of choices stays
spread_earlier : (k : ℕ) (ss xs ys : List ℕ) → Earlier xs ys → NotLater (spread k ss xs) (spread k ss ys)
unfolding spread
spread_earlier k [] xs ys h = inl refl
spread_earlier k (s ∷ ss) [] ys h = absurd h
spread_earlier k (s ∷ ss) (x ∷ xs) [] h = absurd h
spread_earlier k (s ∷ ss) (x ∷ xs) (y ∷ ys) h =
    go (eqb s k) h (spread_earlier k ss xs ys) (spread_earlier k ss (x ∷ xs) (y ∷ ys) h)
  where
    go : (b : Bool) → Earlier (x ∷ xs) (y ∷ ys) → (Earlier xs ys → NotLater (spread k ss xs) (spread k ss ys))
        → NotLater (spread k ss (x ∷ xs)) (spread k ss (y ∷ ys))
        → NotLater (pick b (x ∷ spread k ss xs) (0 ∷ spread k ss (x ∷ xs)))
        (pick b (y ∷ spread k ss ys) (0 ∷ spread k ss (y ∷ ys)))
    go true (inl l) tails all = inr (inl l)
    go true (inr l) tails all = heads_to x y (spread k ss xs) (spread k ss ys) (inr (l.0, tails l.1))
    go false l tails all = heads_to 0 0 (spread k ss (x ∷ xs)) (spread k ss (y ∷ ys)) (inr (refl, all))

pub spread_order : (k : ℕ) (ss xs ys : List ℕ) → NotLater xs ys → NotLater (spread k ss xs) (spread k ss ys)
spread_order k ss xs ys (inl e) = inl (ap (spread k ss) e)
spread_order k ss xs ys (inr h) = spread_earlier k ss xs ys h

-- points spread out: their costs stay, so their order does
module _ (k : ℕ) (ss : List ℕ) where
  abbrev pub spread_point : Point → Point
  spread_point p = point p.costs (spread k ss p.choice)

  -- what all of them have, each point of the list has
  pub spread_each : (Q : Point → Type 0) (ps : List Point) → ((r : Point) → In r ps → Q (spread_point r)) → (p : Point)
      → In p (spread_all k ss ps) → Q p
  unfolding spread_all
  spread_each Q [] h p m = absurd (in-none m)
  spread_each Q (s ∷ ps) h p m =
      ⊎_elim (λ (e : p ≡ spread_point s). subst Q (sym e) (h s (here refl)))
      (λ n. spread_each Q ps (λ r i. h r (there i)) p n) (in-cases m)

  pub in_spread : (ps : List Point) (r : Point) → In r ps → In (spread_point r) (spread_all k ss ps)
  unfolding spread_all
  in_spread [] r m = absurd (in-none m)
  in_spread (s ∷ ps) r m = ⊎_elim (λ e. here (ap spread_point e)) (λ n. there (in_spread ps r n)) (in-cases m)

  pub spread_rising : (ps : List Point) → Rising ps → Rising (spread_all k ss ps)
  unfolding spread_all
  spread_rising [] h = tt
  spread_rising (s ∷ ps) h = (spread_each (λ p. Earlier s.costs p.costs) ps h.0, spread_rising ps h.1)

  pub spread_length : (ps : List Point) → length (spread_all k ss ps) ≡ length ps
  unfolding spread_all
  spread_length [] = refl
  spread_length (s ∷ ps) = ap suc (spread_length ps)

-- choices of the two sides: the merged choice is the sum
pub spread_merged : (ss ds xs ys : List ℕ) → all_sides ss ≡ true → length ds ≡ length ss
    → is_choice (on_side 0 ss ds) xs ≡ true → is_choice (on_side 1 ss ds) ys ≡ true
    → added (spread 0 ss xs) (spread 1 ss ys) ≡ merged ss xs ys
unfolding spread on_side is_choice merged added
spread_merged [] ds xs ys a e h k = refl
spread_merged (s ∷ ss) [] xs ys a e h k = absurd (omega arith)
spread_merged (zero ∷ ss) (d ∷ ds) [] ys a e h k = absurd (false≢true h)
spread_merged (zero ∷ ss) (d ∷ ds) (x ∷ xs) ys a e h k =
    ap₂ ◌∷◌ (omega arith) (spread_merged ss ds xs ys (sides_tail zero ss a) (omega arith) (and_right (ltb x d) _ h) k)
spread_merged (suc zero ∷ ss) (d ∷ ds) xs [] a e h k = absurd (false≢true k)
spread_merged (suc zero ∷ ss) (d ∷ ds) xs (y ∷ ys) a e h k =
    ap₂ ◌∷◌ (omega arith) (spread_merged ss ds xs ys (sides_tail 1 ss a) (omega arith) h (and_right (ltb y d) _ k))
spread_merged (suc (suc s) ∷ ss) (d ∷ ds) xs ys a e h k =
    absurd (⊎_elim (λ z. omega arith) (λ z. omega arith) (side_cases (suc (suc s)) ss a))

-- choices of the two views: each sum is a value of its domain
value_small : (d x y : ℕ) (a b : Bool) → (a ≡ true → b ≡ true → ⊥) → DomainSize d → ltb x (pick a d 1) ≡ true
    → ltb y (pick b d 1) ≡ true → x + y < max_domain
value_small d x y true true n w h k = absurd (n refl refl)
value_small d x y true false n w h k = omega (arith, w.1, ltb-true x d h, ltb-true y 1 k)
value_small d x y false true n w h k = omega (arith, w.1, ltb-true x 1 h, ltb-true y d k)
value_small d x y false false n w h k = omega (arith, ltb-true x 1 h, ltb-true y 1 k)

pub spread_small : (ss ds xs ys : List ℕ) → All DomainSize ds → is_choice (narrowed 0 ss ds) xs ≡ true
    → is_choice (narrowed 1 ss ds) ys ≡ true → All (λ v. v < max_domain) (added xs ys)
unfolding narrowed is_choice added
spread_small ss ds [] ys w h k = tt
spread_small ss ds (x ∷ xs) [] w h k = tt
spread_small [] ds (x ∷ xs) (y ∷ ys) w h k = absurd (false≢true h)
spread_small (s ∷ ss) [] (x ∷ xs) (y ∷ ys) w h k = absurd (false≢true h)
spread_small (s ∷ ss) (d ∷ ds) (x ∷ xs) (y ∷ ys) w h k =
    let m : ℕ → ℕ = λ k. pick (eqb s k) d 1 in (
      value_small d x y (eqb s 0) (eqb s 1) (λ a b. omega (arith, eqb-true s 0 a, eqb-true s 1 b)) w.0
          (and_left (ltb x (m 0)) _ h) (and_left (ltb y (m 1)) _ k),
      spread_small ss ds xs ys w.1 (and_right (ltb x (m 0)) _ h) (and_right (ltb y (m 1)) _ k),
    )
