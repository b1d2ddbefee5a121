-- A property of every element: at one place, from each that stands in the list, from another property, of two lists in
-- a row, of a front and of what is left behind it, with an element set. Where members stand.
use mathlib.Core.Path.{◌≡◌, refl, sym, subst}
use mathlib.Core.Logic.{⊎_elim}
use mathlib.Core.List.Memᴰ.{head as here}
use mathlib.Core.List.Memᴰ.{tail as there}
use mathlib.Core.List.{List, [], ◌∷◌, ◌++◌, Memᴰ as In}
use mathlib.Core.List.Memᴰ.{cases_cons as in-cases}
use mathlib.Core.List.Memᴰ.{not-nil as in-none}
use Prim.Native.Nat.{ℕ, zero, suc, ◌≤◌, ◌<◌}
use native.Mathlib.Omega.{arith}
use lib.ListN.{length, get_or, take, drop, set}
use lib.Seq.{length-take-le, get_or-take}
use Rattle.model.specs.Basics.{All}

module _ {A : Type 0} (P : A → Type 0) where
  pub all_below : (xs : List A) → All P xs → (i : ℕ) (d : A) → i < length xs → P (get_or xs i d)
  all_below [] h i d l = absurd (omega arith)
  all_below (x ∷ xs) h zero d l = h.0
  all_below (x ∷ xs) h (suc i) d l = all_below xs h.1 i d (omega arith)

  -- at any place, where what is read past the end has it too
  pub all_at : (xs : List A) → All P xs → (i : ℕ) (d : A) → P d → P (get_or xs i d)
  all_at [] h i d o = o
  all_at (x ∷ xs) h zero d o = h.0
  all_at (x ∷ xs) h (suc i) d o = all_at xs h.1 i d o

  -- of every place of a list, also of what is read past its end
  pub all_each : (d : A) (xs : List A) → ((i : ℕ) → P (get_or xs i d)) → All P xs
  all_each d [] h = tt
  all_each d (x ∷ xs) h = (h 0, all_each d xs (λ i. h (suc i)))

  pub all_in : (xs : List A) → ((x : A) → In x xs → P x) → All P xs
  all_in [] h = tt
  all_in (x ∷ xs) h = (h x (here refl), all_in xs (λ y m. h y (there m)))

  pub all_has : (xs : List A) → All P xs → (x : A) → In x xs → P x
  all_has [] h x m = absurd (in-none m)
  all_has (y ∷ xs) h x m =
      ⊎_elim (λ (e : x ≡ y). subst P (sym e) h.0) (λ n. all_has xs h.1 x n) (in-cases m)

  pub all_map : (Q : A → Type 0) → ((x : A) → P x → Q x) → (xs : List A) → All P xs → All Q xs
  all_map Q f [] h = tt
  all_map Q f (x ∷ xs) h = (f x h.0, all_map Q f xs h.1)

  pub all_append : (xs ys : List A) → All P xs → All P ys → All P (xs ++ ys)
  all_append [] ys h k = k
  all_append (x ∷ xs) ys h k = (h.0, all_append xs ys h.1 k)

  pub all_drop : (n : ℕ) (xs : List A) → All P xs → All P (drop n xs)
  all_drop zero xs h = h
  all_drop (suc n) [] h = h
  all_drop (suc n) (x ∷ xs) h = all_drop n xs h.1

  pub all_take : (n : ℕ) (xs : List A) → All P xs → All P (take n xs)
  all_take zero xs h = tt
  all_take (suc n) [] h = tt
  all_take (suc n) (x ∷ xs) h = (h.0, all_take n xs h.1)

  pub all_set : (xs : List A) (i : ℕ) (x : A) → All P xs → P x → All P (set xs i x)
  all_set [] i x h p = h
  all_set (y ∷ xs) zero x h p = (p, h.1)
  all_set (y ∷ xs) (suc i) x h p = (h.0, all_set xs i x h.1 p)

  -- of a front, at a place; and of another list's front, place by place
  pub front_each : (d : A) (p : ℕ) (xs : List A) → p ≤ length xs → All P (take p xs) → (i : ℕ) → i < p
      → P (get_or xs i d)
  front_each d p xs long h i l =
      rw (get_or-take p xs i d l) at (all_below (take p xs) h i d (omega (arith, length-take-le p xs long)))

  pub front_map : (Q : A → Type 0) (d : A) (p : ℕ) (xs ys : List A) → length xs ≡ length ys
      → ((j : ℕ) → j < length xs → P (get_or xs j d) → Q (get_or ys j d)) → All P (take p xs) → All Q (take p ys)
  front_map Q d zero xs ys e f h = tt
  front_map Q d (suc p) [] [] e f h = tt
  front_map Q d (suc p) [] (y ∷ ys) e f h = absurd (omega arith)
  front_map Q d (suc p) (x ∷ xs) [] e f h = tt
  front_map Q d (suc p) (x ∷ xs) (y ∷ ys) e f h = (
    f 0 (omega arith) h.0,
    front_map Q d p xs ys (omega arith) (λ j l. f (suc j) (omega arith)) h.1,
  )

-- what stands at a place is a member, and a member stands at a place
module _ {A : Type 0} where
  pub at_in : (xs : List A) (i : ℕ) (d : A) → i < length xs → In (get_or xs i d) xs
  at_in [] i d l = absurd (omega arith)
  at_in (x ∷ xs) zero d l = here refl
  at_in (x ∷ xs) (suc i) d l = there (at_in xs i d (omega arith))

  pub in_at : {a : A} (xs : List A) (d : A) → In a xs → (i : ℕ) × (i < length xs) × (a ≡ get_or xs i d)
  in_at {a = a} [] d m = absurd (in-none m)
  in_at {a = a} (x ∷ xs) d m =
      ⊎_elim (λ e. (0, omega arith, e)) (λ n. let (i, l, e) = in_at {a = a} xs d n in (suc i, omega arith, e))
      (in-cases m)
