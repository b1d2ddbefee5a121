-- The forms that were stored last, as they stand in the slots: those before the slot that is written next, and those
-- from it on. The empty list stands for a slot that holds no form.
use mathlib.Core.Path.{◌≡◌, refl, sym, ap, ap₂, ◌∙◌}
use mathlib.Core.Bool.{Bool, false, ◌||◌, or_assoc, or_comm, or-false}
use mathlib.Core.List.{List, [], ◌∷◌, ◌++◌, reverse, reverse_aux, append_assoc, reverse-cons, reverse_aux-eq}
use mathlib.Core.List.{reverse_aux-append}
use Prim.Native.Nat.{ℕ, zero, suc, ◌+◌, ◌<◌}
use native.Mathlib.Omega.{arith}
use native.Mathlib.Nat.{add-zero, zero-add}
use lib.ListN.{length, take, replicate, length-append, length-reverse, length-reverse_aux}
use lib.Seq.{take_at}
use Rattle.model.specs.Vectors.{same}
use Rattle.cache_answers.specs.Runs.{is_among}

-- ## a form among some

abbrev pub is_one_of : List ℕ → List (List ℕ) → Bool
is_one_of form fs = is_among form (length fs) fs

module _ (form : List ℕ) where
  either : (xs ys : List (List ℕ)) → is_one_of form (xs ++ ys) ≡ (is_one_of form xs || is_one_of form ys)
  unfolding is_among
  either [] ys = refl
  either (x ∷ xs) ys =
      ap (◌||◌ (same x form)) (either xs ys) ∙ sym (or_assoc (same x form) (is_one_of form xs) (is_one_of form ys))

  reversed : (xs : List (List ℕ)) → is_one_of form (reverse xs) ≡ is_one_of form xs
  unfolding is_among
  reversed [] = refl
  reversed (x ∷ xs) =
      ap (is_one_of form) (reverse-cons x xs)
      ∙ either (reverse xs) (x ∷ [])
      ∙ ap₂ ◌||◌ (reversed xs) (or-false (same x form))
      ∙ or_comm (is_one_of form xs) (same x form)

  pub round : (xs ys : List (List ℕ)) → is_one_of form (reverse_aux xs (reverse ys)) ≡ is_one_of form (xs ++ ys)
  round xs ys =
      ap (is_one_of form) (reverse_aux-eq xs (reverse ys))
      ∙ either (reverse xs) (reverse ys)
      ∙ ap₂ ◌||◌ (reversed xs) (reversed ys)
      ∙ sym (either xs ys)

-- ## the last m

-- the first m of some forms, and none where there are no more
unfoldable pub newest : ℕ → List (List ℕ) → List (List ℕ)
newest zero fs = []
newest (suc m) [] = [] ∷ newest m []
newest (suc m) (f ∷ fs) = f ∷ newest m fs

pub newest_length : (m : ℕ) (fs : List (List ℕ)) → length (newest m fs) ≡ m
unfolding newest
newest_length zero fs = refl
newest_length (suc m) [] = ap suc (newest_length m [])
newest_length (suc m) (f ∷ fs) = ap suc (newest_length m fs)

newest_front : (m : ℕ) (fs : List (List ℕ)) → take m (newest (suc m) fs) ≡ newest m fs
unfolding newest
newest_front zero fs = refl
newest_front (suc m) [] = ap (◌∷◌ []) (newest_front m [])
newest_front (suc m) (f ∷ fs) = ap (◌∷◌ f) (newest_front m fs)

not_empty : (form : List ℕ) → 0 < length form → same [] form ≡ false
unfolding same
not_empty [] h = absurd (omega arith)
not_empty (b ∷ bs) h = refl

pub newest_among : (form : List ℕ) → 0 < length form → (m : ℕ) (fs : List (List ℕ))
    → is_one_of form (newest m fs) ≡ is_among form m fs
unfolding newest is_among
newest_among form h zero fs = refl
newest_among form h (suc m) [] = ap₂ ◌||◌ (not_empty form h) (newest_among form h m [] ∙ none m)
  where
    none : (m : ℕ) → is_among form m [] ≡ false
    none zero = refl
    none (suc m) = refl
newest_among form h (suc m) (f ∷ fs) = ap (◌||◌ (same f form)) (newest_among form h m fs)

-- ## round the slots

-- the slots before the next one, and from it on, have the last m forms, the newest nearest before the next one
abbrev pub Ring : ℕ → List (List ℕ) → List (List ℕ) → List (List ℕ) → Type 0
Ring m forms before after = newest m forms ≡ reverse_aux before (reverse after)

pub ring_length : (m : ℕ) (forms before after : List (List ℕ)) → Ring m forms before after
    → length before + length after ≡ m
ring_length m forms before after r =
    omega (
      arith,
      newest_length m forms,
      ap length r,
      length-reverse_aux before (reverse after),
      length-reverse after,
    )

-- the next slot gets a form
pub ring_next : (m : ℕ) (forms before : List (List ℕ)) (old : List ℕ) (after : List (List ℕ)) (form : List ℕ)
    → Ring m forms before (old ∷ after) → Ring m (form ∷ forms) (before ++ (form ∷ [])) after
unfolding newest
ring_next zero forms before old after form r = absurd (omega (arith, ring_length zero forms before (old ∷ after) r))
ring_next (suc m) forms before old after form r =
    let kept = reverse_aux before (reverse after) in
    let all : newest (suc m) forms ≡ kept ++ (old ∷ []) = r
    ∙ ap (reverse_aux before) (reverse-cons old after)
    ∙ reverse_aux-eq before (reverse after ++ (old ∷ []))
    ∙ sym (append_assoc (reverse before) (reverse after) (old ∷ []))
    ∙ ap (λ (l : List (List ℕ)). l ++ (old ∷ [])) (sym (reverse_aux-eq before (reverse after))) in
    let long : length kept ≡ m =
    omega (arith, length-append kept (old ∷ []), ap length all, newest_length (suc m) forms) in
    ap (◌∷◌ form) (sym (newest_front m forms) ∙ ap (take m) all ∙ take_at kept (old ∷ []) m long)
    ∙ sym (reverse_aux-append before (form ∷ []) (reverse after))

-- behind the last slot comes the first
pub ring_turns : (m : ℕ) (forms before : List (List ℕ)) → Ring m forms before [] → Ring m forms [] before
ring_turns m forms before r = r

-- at first no slot holds a form
newest_none : (m : ℕ) → newest m [] ≡ replicate m []
unfolding newest
newest_none zero = refl
newest_none (suc m) = ap (◌∷◌ []) (newest_none m)

same_reversed : {A : Type 0} (x : A) (m k : ℕ) → reverse_aux (replicate m x) (replicate k x) ≡ replicate (m + k) x
same_reversed x zero k = rw zero-add refl
same_reversed x (suc m) k =
    let e : m + suc k ≡ suc m + k = omega arith in
    same_reversed x m (suc k) ∙ ap (λ (n : ℕ). replicate n x) e

pub ring_empty : (m : ℕ) → Ring m [] [] (replicate m [])
ring_empty m =
    newest_none m ∙ sym (same_reversed [] m 0 ∙ ap (λ (n : ℕ). replicate n []) (add-zero m))
