-- Where a choice stands in the list of all choices: its values are the digits of its place, the last one fastest.
use mathlib.Core.Path.{◌≡◌, refl, ap, ◌∙◌}
use mathlib.Core.Bool.{true, false≢true}
use mathlib.Core.List.{List, [], ◌∷◌, map}
use Prim.Native.Nat.{ℕ, zero, suc, ◌+◌, ◌*◌, ◌≤◌, ◌<◌}
use native.Mathlib.Omega.{arith}
use native.Mathlib.Nat.{suc-mul, mul-le-mul_right}
use lib.Dec.{ltb}
use lib.ListN.{length, get_or, length-append, get_or-append}
use lib.Seq.{get_or-append-add}
use borrow.Author.Tests.{ltb-true}
use Rattle.model.specs.Costs.{is_choice}
use Rattle.model.specs.Frontiers.{with_first, firsts_from, choices}
use Rattle.model.proofs.Bits.{and_left, and_right}

abbrev pub product : List ℕ → ℕ
product [] = 1
product (d ∷ ds) = d * product ds

-- the place of a choice of the sizes
abbrev pub place_of : List ℕ → List ℕ → ℕ
place_of [] xs = 0
place_of (d ∷ ds) [] = 0
place_of (d ∷ ds) (x ∷ xs) = x * product ds + place_of ds xs

-- ## how many

first_length : (x : ℕ) (cs : List (List ℕ)) → length (with_first x cs) ≡ length cs
unfolding with_first
first_length x [] = refl
first_length x (c ∷ cs) = ap suc (first_length x cs)

firsts_length : (n x : ℕ) (cs : List (List ℕ)) → length (firsts_from n x cs) ≡ n * length cs
unfolding firsts_from
firsts_length zero x cs = omega arith
firsts_length (suc n) x cs =
    omega (
      arith,
      length-append (with_first x cs) (firsts_from n (suc x) cs),
      first_length x cs,
      firsts_length n (suc x) cs,
      suc-mul n (length cs),
    )

pub choices_length : (ds : List ℕ) → length (choices ds) ≡ product ds
unfolding choices
choices_length [] = refl
choices_length (d ∷ ds) = firsts_length d 0 (choices ds) ∙ ap (λ (n : ℕ). d * n) (choices_length ds)

pub place_below : (ds xs : List ℕ) → is_choice ds xs ≡ true → place_of ds xs < product ds
unfolding is_choice
place_below [] xs h = omega arith
place_below (d ∷ ds) [] h = absurd (false≢true h)
place_below (d ∷ ds) (x ∷ xs) h =
    let p = product ds in
    let small : suc x * p ≤ d * p = mul-le-mul_right p (ltb-true x d (and_left (ltb x d) _ h)) in
    omega (arith, small, suc-mul x p, place_below ds xs (and_right (ltb x d) _ h))

-- ## what stands there

first_at : (x : ℕ) (cs : List (List ℕ)) (i : ℕ) → i < length cs → get_or (with_first x cs) i [] ≡ x ∷ get_or cs i []
unfolding with_first
first_at x [] i l = absurd (omega arith)
first_at x (c ∷ cs) zero l = refl
first_at x (c ∷ cs) (suc i) l = first_at x cs i (omega arith)

firsts_at : (n x j : ℕ) (cs : List (List ℕ)) (i : ℕ) → j < n → i < length cs
    → get_or (firsts_from n x cs) (j * length cs + i) [] ≡ (x + j) ∷ get_or cs i []
unfolding firsts_from
firsts_at zero x j cs i h l = absurd (omega arith)
firsts_at (suc n) x zero cs i h l =
    let at : zero * length cs + i ≡ i = omega arith in
    let digit : x + zero ≡ x = omega arith in
    rw (at, digit)
    (get_or-append (with_first x cs) (firsts_from n (suc x) cs) [] i (omega (arith, first_length x cs))
    ∙ first_at x cs i l)
firsts_at (suc n) x (suc j) cs i h l =
    let at : suc j * length cs + i ≡ length (with_first x cs) + (j * length cs + i) =
    omega (arith, suc-mul j (length cs), first_length x cs) in
    let digit : x + suc j ≡ suc x + j = omega arith in
    rw (at, digit)
    (get_or-append-add (with_first x cs) (firsts_from n (suc x) cs) (j * length cs + i) []
    ∙ firsts_at n (suc x) j cs i (omega arith) l)

pub choice_at : (ds xs : List ℕ) → is_choice ds xs ≡ true → get_or (choices ds) (place_of ds xs) [] ≡ xs
unfolding is_choice choices
choice_at [] [] h = refl
choice_at [] (x ∷ xs) h = absurd (false≢true h)
choice_at (d ∷ ds) [] h = absurd (false≢true h)
choice_at (d ∷ ds) (x ∷ xs) h =
    let rest : is_choice ds xs ≡ true = and_right (ltb x d) _ h in
    let below : place_of ds xs < length (choices ds) = omega (arith, choices_length ds, place_below ds xs rest) in
    let digit : 0 + x ≡ x = omega arith in
    rw (← choices_length ds)
    (firsts_at d 0 x (choices ds) (place_of ds xs) (ltb-true x d (and_left (ltb x d) _ h)) below
    ∙ rw digit (ap (◌∷◌ x) (choice_at ds xs rest)))

-- in a table with an entry for each choice
map_at : {A : Type 0} (f : A → ℕ) (xs : List A) (i : ℕ) (d : A) → i < length xs
    → get_or (map f xs) i 0 ≡ f (get_or xs i d)
map_at f [] i d l = absurd (omega arith)
map_at f (x ∷ xs) zero d l = refl
map_at f (x ∷ xs) (suc i) d l = map_at f xs i d (omega arith)

pub entry_at : (f : List ℕ → ℕ) (ds xs : List ℕ) → is_choice ds xs ≡ true
    → get_or (map f (choices ds)) (place_of ds xs) 0 ≡ f xs
entry_at f ds xs h =
    map_at f (choices ds) (place_of ds xs) [] (omega (arith, choices_length ds, place_below ds xs h))
    ∙ ap f (choice_at ds xs h)
