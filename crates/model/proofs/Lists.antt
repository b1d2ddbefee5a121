-- Lists by their fronts, by parts and by what is left behind a place, one element at a time; and with an element set.
use mathlib.Core.Path.{◌≡◌, refl, sym, ap, ap₂, ◌∙◌}
use mathlib.Core.Logic.{◌⊎◌, ⊎_elim}
use mathlib.Core.Bool.{true, false}
use mathlib.Core.List.{List, [], ◌∷◌, ◌++◌}
use Prim.Native.Nat.{ℕ, zero, suc, ◌+◌, ◌-◌, ◌≤◌, ◌<◌}
use native.Mathlib.Omega.{arith}
use native.Mathlib.Nat.{add-zero, zero-add, suc-add}
use native.Mathlib.Numerals.{add-one}
use lib.Dec.{ltb}
use lib.ListN.{length, get_or, take, drop, set, length-drop, drop_of_length-le, get_or-eq_default}
use lib.Seq.{length-take-le, take-nil, take-take, take-add, take_at, drop-cons, drop-drop, drop-append-add, get_or-take}
use lib.Seq.{take_all, get_or-drop, get_or-set_same, get_or-set_other, set_out}
use borrow.Author.Tests.{ltb-true, ltb-false}
use Rattle.model.proofs.Bits.{test}
use Rattle.model.proofs.Numbers.{equal_or}

module _ {A : Type 0} where
  -- ## fronts and parts

  -- a part is what is left of a front
  -- all that stands from a place on, as it is lent
  pub take_rest : (l : List A) (at : ℕ) → take (length l - at) (drop at l) ≡ drop at l
  take_rest l at = take_all (length l - at) (drop at l) (omega (arith, length-drop at l))

  pub take_drop : (k a : ℕ) (l : List A) → take k (drop a l) ≡ drop a (take (a + k) l)
  take_drop k zero l = rw zero-add
  take_drop k (suc a) [] = rw suc-add (take-nil k)
  take_drop k (suc a) (x ∷ l) = rw suc-add (take_drop k a l)

  -- equal fronts have equal parts
  pub part_same : (m k a : ℕ) (x y : List A) → a + k ≤ m → take m x ≡ take m y → take k (drop a x) ≡ take k (drop a y)
  part_same m k a x y h e =
      take_drop k a x
      ∙ ap (drop a) (sym (take-take (a + k) m x h) ∙ ap (take (a + k)) e ∙ take-take (a + k) m y h)
      ∙ sym (take_drop k a y)

  -- what stands from a to c behind `at`, cut at b
  pub part_split : (l : List A) (at a b c : ℕ) → a ≤ b → b ≤ c
      → take (c - a) (drop (at + a) l) ≡ take (b - a) (drop (at + a) l) ++ take (c - b) (drop (at + b) l)
  part_split l at a b c g h =
      let both : c - a ≡ b - a + (c - b) = omega arith in
      let seam : at + a + (b - a) ≡ at + b = omega arith in
      rw (both, take-add (b - a) (c - b) (drop (at + a) l), drop-drop (b - a) (at + a) l, seam)

  -- ## one element at a time

  module _ (d : A) where
    pub get_d_first : (at : ℕ) (l : List A) → get_or (drop at l) 0 d ≡ get_or l at d
    get_d_first at l = rw (get_or-drop, add-zero)

    -- the next k elements, and those from i to `to`
    pub take_cons : (k at : ℕ) (l : List A) → 0 < k → at < length l
        → take k (drop at l) ≡ get_or l at d ∷ take (k - 1) (drop (at + 1) l)
    take_cons zero at l p h = absurd (omega arith)
    take_cons (suc k) at l p h =
        let m : suc k - 1 ≡ k = omega arith in
        rw (m, add-one) (ap (take (suc k)) (drop-cons l at d h))

    pub part_next : (l : List A) (i to : ℕ) → i < to → to ≤ length l
        → take (to - i) (drop i l) ≡ get_or l i d ∷ take (to - (i + 1)) (drop (i + 1) l)
    part_next l i to h long =
        let k : to - i - 1 ≡ to - (i + 1) = omega arith in
        rw (← k) (take_cons (to - i) i l (omega arith) (omega arith))

    -- what is left of the first p elements from i on
    pub front_cons : (p : ℕ) (l : List A) → p ≤ length l → (i : ℕ) → i < p
        → drop i (take p l) ≡ get_or l i d ∷ drop (i + 1) (take p l)
    front_cons p l long i h =
        rw add-one
        (drop-cons (take p l) i d (omega (arith, length-take-le p l long))
        ∙ ap (λ (x : A). x ∷ drop (suc i) (take p l)) (get_or-take p l i d h))

    -- four elements from a place on
    pub four_read : (l : List A) (at : ℕ) → at + 4 ≤ length l
        → get_or l at d ∷ get_or l (at + 1) d ∷ get_or l (at + 2) d ∷ get_or l (at + 3) d ∷ [] ≡ take 4 (drop at l)
    four_read l at h =
        let one : at + 1 ≡ suc at = omega arith in
        let two : at + 2 ≡ suc (suc at) = omega arith in
        let three : at + 3 ≡ suc (suc (suc at)) = omega arith in
        rw (
          one,
          two,
          three,
          drop-cons l at d (omega arith),
          drop-cons l (suc at) d (omega arith),
          drop-cons l (suc (suc at)) d (omega arith),
          drop-cons l (suc (suc (suc at))) d (omega arith),
        )

  pub front_end : (p : ℕ) (l : List A) → p ≤ length l → (i : ℕ) → p ≤ i → drop i (take p l) ≡ []
  front_end p l long i h = drop_of_length-le (take p l) {i = i} (omega (arith, length-take-le p l long))

  -- ## lists that are the same from a place on

  pub drop_later : (a b : ℕ) (x y : List A) → a ≤ b → drop a x ≡ drop a y → drop b x ≡ drop b y
  drop_later a b x y h e =
      let at : a + (b - a) ≡ b = omega arith in
      rw (← at) (sym (drop-drop (b - a) a x) ∙ ap (drop (b - a)) e ∙ drop-drop (b - a) a y)

  pub get_d_later : (d : A) (a b : ℕ) (x y : List A) → a ≤ b → drop a x ≡ drop a y → get_or x b d ≡ get_or y b d
  get_d_later d a b x y h e =
      sym (get_d_first d b x) ∙ ap (λ (l : List A). get_or l 0 d) (drop_later a b x y h e) ∙ get_d_first d b y

  -- ys written behind xs, where xs ends at a
  pub written_behind : (xs ys old : List A) (a b : ℕ) → length xs ≡ a
      → take a (xs ++ drop a old) ++ ys ++ drop (a + b) (xs ++ drop a old) ≡ xs ++ ys ++ drop (a + b) old
  written_behind xs ys old a b e =
      ap₂ (λ (f r : List A). f ++ ys ++ r) (take_at xs (drop a old) a e)
      ((rw e at (drop-append-add xs (drop a old) b)) ∙ drop-drop b a old)

  -- ## an element set

  -- the front of a list with one element changed
  pub take_set : (n : ℕ) (l : List A) (u : ℕ) (a : A) → take n (set l u a) ≡ set (take n l) u a
  take_set zero l u a = refl
  take_set (suc n) [] u a = refl
  take_set (suc n) (x ∷ l) zero a = refl
  take_set (suc n) (x ∷ l) (suc u) a = ap (◌∷◌ x) (take_set n l u a)

  -- with y's element at p, x is as y there, and wherever it was
  pub set_toward : (d : A) (x y : List A) → length x ≡ length y → (p w : ℕ) → (w ≡ p) ⊎ (get_or x w d ≡ get_or y w d)
      → get_or (set x p (get_or y p d)) w d ≡ get_or y w d
  set_toward d x y long p w h =
      ⊎_elim
      (λ (e : w ≡ p). rw e same)
      (λ (n : w ≡ p → ⊥). get_or-set_other x p w (get_or y p d) d n
      ∙ ⊎_elim (λ (e : w ≡ p). absurd (n e)) (λ (e : get_or x w d ≡ get_or y w d). e) h)
      (equal_or w p)
    where
      same : get_or (set x p (get_or y p d)) p d ≡ get_or y p d
      same =
          ⊎_elim
          (λ (t : ltb p (length x) ≡ true). get_or-set_same x p (get_or y p d) d (ltb-true p (length x) t))
          (λ (t : ltb p (length x) ≡ false).
          let out : length x ≤ p = ltb-false p (length x) t in
          let out' : length y ≤ p = omega arith in
          rw (set_out x p (get_or y p d) out) (get_or-eq_default x d out ∙ sym (get_or-eq_default y d out')))
          (test (ltb p (length x)))
