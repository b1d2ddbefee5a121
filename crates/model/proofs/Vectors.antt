-- The laws of the comparisons: `same` is equality, `at_most` an order, `earlier` a strict total order at one length,
-- `beats` strict.
-- Each test has a type beside it (AtMost, Earlier); the laws are proved of the types.
use mathlib.Core.Path.{◌≡◌, refl, ap, sym, subst}
use mathlib.Core.Logic.{◌⊎◌, inl, inr, ⊎_elim}
use mathlib.Core.Bool.{true, false, ◌&&◌, not, false≢true}
use mathlib.Core.List.{List, [], ◌∷◌}
use Prim.Native.Nat.{ℕ, ◌+◌, ◌≤◌, ◌<◌}
use native.Mathlib.Omega.{arith}
use lib.Dec.{eqb, ltb, leb}
use lib.ListN.{length}
use borrow.Author.Tests.{ltb-true, lt-ltb, leb-true, le-leb, eqb-true, eq-eqb, not-true}
use Rattle.model.specs.Vectors.{at_most, same, beats, earlier}
use Rattle.model.proofs.Bits.{test, true_false, not_true_false, and_left, and_right, and_both, or_cases, or_left}
use Rattle.model.proofs.Bits.{or_right}
use Rattle.model.proofs.Numbers.{trichotomy}

abbrev pub AtMost : List ℕ → List ℕ → Type 0
AtMost [] ys = Unit {0}
AtMost (x ∷ xs) [] = Unit {0}
AtMost (x ∷ xs) (y ∷ ys) = (x ≤ y) × AtMost xs ys

abbrev pub Earlier : List ℕ → List ℕ → Type 0
Earlier [] ys = ⊥
Earlier (x ∷ xs) [] = ⊥
Earlier (x ∷ xs) (y ∷ ys) = (x < y) ⊎ ((x ≡ y) × Earlier xs ys)

abbrev pub Sum : List ℕ → ℕ
Sum [] = 0
Sum (x ∷ xs) = x + Sum xs

-- the tests and the types

pub same_true : (xs ys : List ℕ) → same xs ys ≡ true → xs ≡ ys
unfolding same
same_true [] [] h = refl
same_true [] (y ∷ ys) h = absurd (false≢true h)
same_true (x ∷ xs) [] h = absurd (false≢true h)
same_true (x ∷ xs) (y ∷ ys) h =
    let p = eqb-true x y (and_left (eqb x y) (same xs ys) h) in
    let q = same_true xs ys (and_right (eqb x y) (same xs ys) h) in cc

pub same_refl : (xs : List ℕ) → same xs xs ≡ true
unfolding same
same_refl [] = refl
same_refl (x ∷ xs) = and_both (eq-eqb x x refl) (same_refl xs)

pub same_eq : {xs ys : List ℕ} → xs ≡ ys → same xs ys ≡ true
same_eq {xs} e = rw (← e) (same_refl xs)

pub at_most_true : (xs ys : List ℕ) → at_most xs ys ≡ true → AtMost xs ys
unfolding at_most
at_most_true [] ys h = tt
at_most_true (x ∷ xs) [] h = tt
at_most_true (x ∷ xs) (y ∷ ys) h = (
  leb-true x y (and_left (leb x y) (at_most xs ys) h),
  at_most_true xs ys (and_right (leb x y) (at_most xs ys) h),
)

pub at_most_test : (xs ys : List ℕ) → AtMost xs ys → at_most xs ys ≡ true
unfolding at_most
at_most_test [] ys h = refl
at_most_test (x ∷ xs) [] h = refl
at_most_test (x ∷ xs) (y ∷ ys) h = and_both (le-leb x y h.0) (at_most_test xs ys h.1)

pub earlier_true : (xs ys : List ℕ) → earlier xs ys ≡ true → Earlier xs ys
unfolding earlier
earlier_true [] ys h = absurd (false≢true h)
earlier_true (x ∷ xs) [] h = absurd (false≢true h)
earlier_true (x ∷ xs) (y ∷ ys) h =
    ⊎_elim (λ p. inl (ltb-true x y p))
    (λ p. inr (
      eqb-true x y (and_left (eqb x y) (earlier xs ys) p),
      earlier_true xs ys (and_right (eqb x y) (earlier xs ys) p),
    ))
    (or_cases (ltb x y) (eqb x y && earlier xs ys) h)

pub earlier_test : (xs ys : List ℕ) → Earlier xs ys → earlier xs ys ≡ true
unfolding earlier
earlier_test [] ys h = absurd h
earlier_test (x ∷ xs) [] h = absurd h
earlier_test (x ∷ xs) (y ∷ ys) (inl p) = or_left (eqb x y && earlier xs ys) (lt-ltb x y p)
earlier_test (x ∷ xs) (y ∷ ys) (inr p) = or_right (ltb x y) (and_both (eq-eqb x y p.0) (earlier_test xs ys p.1))

pub beats_true : (xs ys : List ℕ) → beats xs ys ≡ true → AtMost xs ys × (xs ≡ ys → ⊥)
beats_true xs ys h = (
  at_most_true xs ys (and_left (at_most xs ys) (not (same xs ys)) h),
  λ e. true_false (same_eq e) (not-true (same xs ys) (and_right (at_most xs ys) (not (same xs ys)) h)),
)

pub beats_false : (xs ys : List ℕ) → beats xs ys ≡ false → AtMost xs ys → xs ≡ ys
beats_false xs ys f h =
    ⊎_elim (λ s. same_true xs ys s) (λ s. absurd (true_false (and_both (at_most_test xs ys h) (ap not s)) f))
    (test (same xs ys))

-- the laws

pub at_most_refl : (xs : List ℕ) → AtMost xs xs
at_most_refl [] = tt
at_most_refl (x ∷ xs) = (omega arith, at_most_refl xs)

pub at_most_trans : (xs ys zs : List ℕ) → length xs ≡ length ys → AtMost xs ys → AtMost ys zs → AtMost xs zs
at_most_trans [] ys zs e h k = tt
at_most_trans (x ∷ xs) [] zs e h k = absurd (omega arith)
at_most_trans (x ∷ xs) (y ∷ ys) [] e h k = tt
at_most_trans (x ∷ xs) (y ∷ ys) (z ∷ zs) e h k = (omega arith, at_most_trans xs ys zs (omega arith) h.1 k.1)

pub at_most_antisym : (xs ys : List ℕ) → length xs ≡ length ys → AtMost xs ys → AtMost ys xs → xs ≡ ys
at_most_antisym [] [] e h k = refl
at_most_antisym [] (y ∷ ys) e h k = absurd (omega arith)
at_most_antisym (x ∷ xs) [] e h k = absurd (omega arith)
at_most_antisym (x ∷ xs) (y ∷ ys) e h k =
    let p : x ≡ y = omega arith in let q = at_most_antisym xs ys (omega arith) h.1 k.1 in cc

pub earlier_irrefl : (xs : List ℕ) → Earlier xs xs → ⊥
earlier_irrefl [] h = h
earlier_irrefl (x ∷ xs) (inl p) = omega arith
earlier_irrefl (x ∷ xs) (inr p) = earlier_irrefl xs p.1

pub earlier_trans : (xs ys zs : List ℕ) → Earlier xs ys → Earlier ys zs → Earlier xs zs
earlier_trans [] ys zs h k = h
earlier_trans (x ∷ xs) [] zs h k = absurd h
earlier_trans (x ∷ xs) (y ∷ ys) [] h k = k
earlier_trans (x ∷ xs) (y ∷ ys) (z ∷ zs) (inl p) (inl q) = inl (omega arith)
earlier_trans (x ∷ xs) (y ∷ ys) (z ∷ zs) (inl p) (inr q) = inl (omega arith)
earlier_trans (x ∷ xs) (y ∷ ys) (z ∷ zs) (inr p) (inl q) = inl (omega arith)
earlier_trans (x ∷ xs) (y ∷ ys) (z ∷ zs) (inr p) (inr q) = inr (omega arith, earlier_trans xs ys zs p.1 q.1)

-- of two vectors of one length, one is earlier or they are equal
pub data Ordered (xs ys : List ℕ) : Type 0 where
  first : Earlier xs ys → Ordered xs ys
  equal : xs ≡ ys → Ordered xs ys
  second : Earlier ys xs → Ordered xs ys

grown : (x y : ℕ) (xs ys : List ℕ) → x ≡ y → Ordered xs ys → Ordered (x ∷ xs) (y ∷ ys)
grown x y xs ys e (first h) = first (inr (e, h))
grown x y xs ys e (equal h) = equal (cc)
grown x y xs ys e (second h) = second (inr (sym e, h))

heads : (x y : ℕ) (xs ys : List ℕ) → (x < y) ⊎ ((x ≡ y) ⊎ (y < x)) → Ordered xs ys → Ordered (x ∷ xs) (y ∷ ys)
heads x y xs ys (inl p) o = first (inl p)
heads x y xs ys (inr (inl p)) o = grown x y xs ys p o
heads x y xs ys (inr (inr p)) o = second (inl p)

pub ordered : (xs ys : List ℕ) → length xs ≡ length ys → Ordered xs ys
ordered [] [] e = equal refl
ordered [] (y ∷ ys) e = absurd (omega arith)
ordered (x ∷ xs) [] e = absurd (omega arith)
ordered (x ∷ xs) (y ∷ ys) e = heads x y xs ys (trichotomy x y) (ordered xs ys (omega arith))

pub at_most_earlier : (xs ys : List ℕ) → length xs ≡ length ys → AtMost xs ys → (xs ≡ ys → ⊥) → Earlier xs ys
at_most_earlier [] [] e h n = absurd (n refl)
at_most_earlier [] (y ∷ ys) e h n = absurd (omega arith)
at_most_earlier (x ∷ xs) [] e h n = absurd (omega arith)
at_most_earlier (x ∷ xs) (y ∷ ys) e h n =
    ⊎_elim (λ p. inl p)
    (λ p. ⊎_elim (λ (q : x ≡ y). inr (q, at_most_earlier xs ys (omega arith) h.1 (λ r. n (cc))))
    (λ q. absurd (omega arith)) p)
    (trichotomy x y)

pub at_most_sum : (xs ys : List ℕ) → length xs ≡ length ys → AtMost xs ys → Sum xs ≤ Sum ys
at_most_sum [] ys e h = omega arith
at_most_sum (x ∷ xs) [] e h = absurd (omega arith)
at_most_sum (x ∷ xs) (y ∷ ys) e h = omega (arith, at_most_sum xs ys (omega arith) h.1)

pub less_sum : (xs ys : List ℕ) → length xs ≡ length ys → AtMost xs ys → (xs ≡ ys → ⊥) → Sum xs < Sum ys
less_sum [] [] e h n = absurd (n refl)
less_sum [] (y ∷ ys) e h n = absurd (omega arith)
less_sum (x ∷ xs) [] e h n = absurd (omega arith)
less_sum (x ∷ xs) (y ∷ ys) e h n =
    ⊎_elim (λ p. omega (arith, at_most_sum xs ys (omega arith) h.1))
    (λ p. ⊎_elim (λ (q : x ≡ y). omega (arith, less_sum xs ys (omega arith) h.1 (λ r. n (cc))))
    (λ q. absurd (omega arith)) p)
    (trichotomy x y)

-- not later: equal or earlier
abbrev pub NotLater : List ℕ → List ℕ → Type 0
NotLater xs ys = (xs ≡ ys) ⊎ Earlier xs ys

pub at_most_not_later : (xs ys : List ℕ) → length xs ≡ length ys → AtMost xs ys → NotLater xs ys
at_most_not_later xs ys e h =
    ⊎_elim (λ s. inl (same_true xs ys s)) (λ s. inr (at_most_earlier xs ys e h (λ d. true_false (same_eq d) s)))
    (test (same xs ys))

pub not_later_trans : (xs ys zs : List ℕ) → NotLater xs ys → NotLater ys zs → NotLater xs zs
not_later_trans xs ys zs (inl p) (inl q) = inl (cc)
not_later_trans xs ys zs (inl p) (inr q) = inr (rw p q)
not_later_trans xs ys zs (inr p) (inl q) = inr (rw q at p)
not_later_trans xs ys zs (inr p) (inr q) = inr (earlier_trans xs ys zs p q)

pub not_later_antisym : (xs ys : List ℕ) → NotLater xs ys → NotLater ys xs → xs ≡ ys
not_later_antisym xs ys (inl p) k = p
not_later_antisym xs ys (inr p) (inl q) = sym q
not_later_antisym xs ys (inr p) (inr q) = absurd (earlier_irrefl xs (earlier_trans xs ys xs p q))

pub not_earlier : (xs ys : List ℕ) → length xs ≡ length ys → earlier xs ys ≡ false → NotLater ys xs
not_earlier xs ys e h = go (ordered xs ys e)
  where
    go : Ordered xs ys → NotLater ys xs
    go (first k) = absurd (true_false (earlier_test xs ys k) h)
    go (equal k) = inl (sym k)
    go (second k) = inr k

pub later_false : (xs ys : List ℕ) → NotLater xs ys → earlier ys xs ≡ false
later_false xs ys h = not_true_false (earlier ys xs) (λ t. go h (earlier_true ys xs t))
  where
    go : NotLater xs ys → Earlier ys xs → ⊥
    go (inl e) k = earlier_irrefl xs (subst (λ (v : List ℕ). Earlier v xs) (sym e) k)
    go (inr l) k = earlier_irrefl xs (earlier_trans xs ys xs l k)
