-- Boolean tests: what a conjunction, a disjunction, a `pick` and a `keep_if` say.
use mathlib.Core.Path.{◌≡◌, refl, sym}
use mathlib.Core.Logic.{◌⊎◌, inl, inr, ⊎_elim}
use mathlib.Core.Bool.{Bool, true, false, ◌&&◌, ◌||◌, false≢true}
use mathlib.Core.List.Memᴰ.{head as here}
use mathlib.Core.List.Memᴰ.{tail as there}
use mathlib.Core.List.{List, ◌++◌, Memᴰ as In}
use mathlib.Core.List.Memᴰ.{cases_cons as in-cases}
use Prim.Native.Nat.{◌+◌, ◌≤◌}
use native.Mathlib.Omega.{arith}
use lib.ListN.{length}
use Rattle.model.specs.Basics.{pick, when, keep_if, All}

pub test : (b : Bool) → (b ≡ true) ⊎ (b ≡ false)
test true = inl refl
test false = inr refl

pub true_false : {b : Bool} → b ≡ true → b ≡ false → ⊥
true_false t f = false≢true (rw (← f) t)

pub not_true_false : (b : Bool) → (b ≡ true → ⊥) → b ≡ false
not_true_false true h = absurd (h refl)
not_true_false false h = refl

pub and_left : (a b : Bool) → (a && b) ≡ true → a ≡ true
and_left true b h = refl
and_left false b h = h

pub and_right : (a b : Bool) → (a && b) ≡ true → b ≡ true
and_right true b h = h
and_right false true h = refl
and_right false false h = h

pub and_both : {a b : Bool} → a ≡ true → b ≡ true → (a && b) ≡ true
and_both p q = rw (p, q)

pub and-false : (a b : Bool) → (a ≡ false) ⊎ (b ≡ false) → (a && b) ≡ false
and-false true b (inl e) = absurd (false≢true (sym e))
and-false true b (inr e) = e
and-false false b e = refl

pub and_assoc : (a b c : Bool) → (a && (b && c)) ≡ ((a && b) && c)
and_assoc true b c = refl
and_assoc false b c = refl

pub and_again : (a b : Bool) → (a && (a && b)) ≡ (a && b)
and_again true b = refl
and_again false b = refl

pub or_assoc : (a b c : Bool) → (a || (b || c)) ≡ ((a || b) || c)
or_assoc true b c = refl
or_assoc false b c = refl

pub or_swap : (a b c : Bool) → (a || (b || c)) ≡ (b || (a || c))
or_swap true true c = refl
or_swap true false c = refl
or_swap false b c = refl

pub or-false : (a b : Bool) → (a || b) ≡ false → (a ≡ false) × (b ≡ false)
or-false true b h = absurd (false≢true (sym h))
or-false false b h = (refl, h)

pub or_cases : (a b : Bool) → (a || b) ≡ true → (a ≡ true) ⊎ (b ≡ true)
or_cases true b h = inl refl
or_cases false b h = inr h

pub or_left : {a : Bool} (b : Bool) → a ≡ true → (a || b) ≡ true
or_left b p = rw p

pub or_right : (a : Bool) {b : Bool} → b ≡ true → (a || b) ≡ true
or_right true p = refl
or_right false p = p

-- what both alternatives have, the picked one has
pub pick_both : {A : Type 0} (P : A → Type 0) (t : Bool) {a b : A} → P a → P b → P (pick t a b)
pick_both P true p q = p
pick_both P false p q = q

-- what stands in a list from which some elements are left out
module _ {A : Type 0} where
  pub kept_cases : (t : Bool) {a x : A} {xs : List A} → In a (keep_if t x xs) → ((a ≡ x) × (t ≡ true)) ⊎ In a xs
  kept_cases true m = ⊎_elim (λ e. inl (e, refl)) (λ n. inr n) (in-cases m)
  kept_cases false m = inr m

  pub kept_here : {t : Bool} (x : A) (xs : List A) → t ≡ true → In x (keep_if t x xs)
  kept_here x xs h = rw h (here refl)

  pub kept_there : (t : Bool) (x : A) {a : A} {xs : List A} → In a xs → In a (keep_if t x xs)
  kept_there true x m = there m
  kept_there false x m = m

  -- of such a list: two in a row, what all have, and how long it is
  pub keep_append : (t : Bool) (x : A) (xs ys : List A) → keep_if t x (xs ++ ys) ≡ keep_if t x xs ++ ys
  keep_append true x xs ys = refl
  keep_append false x xs ys = refl

  pub keep_all : (P : A → Type 0) (t : Bool) (x : A) (xs : List A) → P x → All P xs → All P (keep_if t x xs)
  keep_all P true x xs p h = (p, h)
  keep_all P false x xs p h = h

  pub keep_length : (t : Bool) (x : A) (xs : List A) → length (keep_if t x xs) ≡ when t 1 + length xs
  keep_length true x xs = omega arith
  keep_length false x xs = omega arith

  pub keep_few : (t : Bool) (x : A) (xs : List A) → length (keep_if t x xs) ≤ 1 + length xs
  keep_few true x xs = omega arith
  keep_few false x xs = omega arith
