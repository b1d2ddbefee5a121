-- Lists and tests in general: what a picked value has; one element more in front; a list of one number.
use mathlib.Core.Path.{◌≡◌, refl, ap, sym}
use mathlib.Core.Bool.{Bool, true, false}
use mathlib.Core.List.{List, [], ◌∷◌, ◌++◌, map}
use Prim.Native.Nat.{ℕ, suc}
use native.Mathlib.Omega.{arith}
use lib.ListN.{length, get_or, drop}
use lib.Seq.{drop-nil}
use Rattle.model.specs.Basics.{pick}

-- by the test that picks
pub pick_each : {A : Type 0} (P : A → Type 0) (t : Bool) {a b : A} → (t ≡ true → P a) → (t ≡ false → P b)
    → P (pick t a b)
pick_each P true p q = p refl
pick_each P false p q = q refl

module _ {A : Type 0} where
  pub drop_one : (n : ℕ) (l : List A) → drop (suc n) l ≡ drop n (drop 1 l)
  drop_one n [] = sym (drop-nil n)
  drop_one n (x ∷ l) = refl

  pub get_d_one : (d : A) (n : ℕ) (l : List A) → get_or l (suc n) d ≡ get_or (drop 1 l) n d
  get_d_one d n [] = refl
  get_d_one d n (x ∷ l) = refl

  pub map-append : {B : Type 0} (f : A → B) (xs ys : List A) → map f (xs ++ ys) ≡ map f xs ++ map f ys
  map-append f [] ys = refl
  map-append {B} f (x ∷ xs) ys = ap {B = List B} (λ r. f x ∷ r) (map-append f xs ys)

-- a list of one number
pub one_only : (xs : List ℕ) → length xs ≡ 1 → get_or xs 0 0 ∷ [] ≡ xs
one_only [] h = absurd (omega arith)
one_only (x ∷ []) h = refl
one_only (x ∷ y ∷ xs) h = absurd (omega arith)
