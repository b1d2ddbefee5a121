-- The entries of a table by their values: entry i has values below the sizes, and stands at the index i.
use mathlib.Core.Path.{◌≡◌, refl, ap, sym, ◌∙◌}
use mathlib.Core.List.{List, [], ◌∷◌, ◌++◌, append-nil}
use Prim.Native.Nat.{ℕ, suc, ◌+◌, ◌*◌, ◌/◌, ◌%◌, ◌≤◌, ◌<◌}
use native.Mathlib.Omega.{arith}
use native.Mathlib.Nat.{div-one, div-add-mod', div-div-eq-div-mul, mod-lt, mod-eq_of_lt, add-mul-mod_self_right}
use native.Mathlib.Nat.{mul_comm, mul_assoc, add-mul, mul-pos, mul-le-mul_right, mod-one, suc-mul, le_trans}
use native.Mathlib.Nat.{mul-add-div_right, div-eq_of_lt}
use lib.ListN.{length, get_or}
use Rattle.model.specs.Basics.{All}
use Rattle.model.specs.Problems.{DomainSize, InRange, size_of}
use Rattle.model.proofs.Numbers.{digit_room}
use Rattle.model.proofs.Elements.{all_below, all_map}
use Rattle.text_networks.specs.Networks.{sizes_over, index_from}
use Rattle.text_networks.specs.NetworkTexts.{values_from, reversed, entry_values}

abbrev pub product : List ℕ → ℕ
product [] = 1
product (d ∷ ds) = d * product ds

abbrev pub Positive : List ℕ → Type 0
Positive ds = All (λ d. 1 ≤ d) ds

-- a value below each size
abbrev pub Values : List ℕ → List ℕ → Type 0
Values [] xs = xs ≡ []
Values (d ∷ ds) [] = ⊥
Values (d ∷ ds) (x ∷ xs) = (x < d) × Values ds xs

-- the values of entry i, the first variable first
entry_digits : List ℕ → ℕ → List ℕ
entry_digits [] i = []
entry_digits (d ∷ ds) i = i / product ds % d ∷ entry_digits ds i

from_last : (ds es : List ℕ) (i : ℕ) (behind : List ℕ)
    → values_from (reversed ds es) i behind ≡ values_from es (i / product ds) (entry_digits ds i ++ behind)
unfolding values_from reversed entry_digits
from_last [] es i behind = rw div-one
from_last (d ∷ ds) es i behind =
    from_last ds (d ∷ es) i behind
    ∙ ap (λ (j : ℕ). values_from es j (entry_digits (d ∷ ds) i ++ behind))
    (div-div-eq-div-mul i (product ds) d ∙ ap (λ (p : ℕ). i / p) (mul_comm (product ds) d))

entry_digits_lem : (ds : List ℕ) (i : ℕ) → entry_values ds i ≡ entry_digits ds i
unfolding values_from
entry_digits_lem ds i = from_last ds [] i [] ∙ append-nil (entry_digits ds i)

product_positive : (ds : List ℕ) → Positive ds → 1 ≤ product ds
product_positive [] h = omega arith
product_positive (d ∷ ds) h = mul-pos h.0 (product_positive ds h.1)

digit_split : (i d p : ℕ) → 1 ≤ d → 1 ≤ p → i % (d * p) ≡ i / p % d * p + i % p
digit_split i d p hd hp =
    let q = i / p in
    let x = q % d * p + i % p in
    let whole : i ≡ x + q / d * (d * p) =
    omega (
      arith,
      div-add-mod' i p,
      ap (λ (z : ℕ). z * p) (div-add-mod' q d),
      add-mul (q / d * d) (q % d) p,
      mul_assoc (q / d) d p,
    ) in
    let small : x < d * p = omega (arith, mul-le-mul_right p (mod-lt q hd), suc-mul (q % d) p, mod-lt i hp) in
    ap (λ (z : ℕ). z % (d * p)) whole ∙ add-mul-mod_self_right x (q / d) (d * p) ∙ mod-eq_of_lt small

index_digits : (j : ℕ) (ds : List ℕ) (i : ℕ) → Positive ds
    → index_from j ds (entry_digits ds i) ≡ j * product ds + i % product ds
unfolding index_from entry_digits
index_digits j [] i h = omega (arith, mod-one i)
index_digits j (d ∷ ds) i h =
    let p = product ds in
    let x = i / p % d in
    index_digits (j * d + x) ds i h.1
    ∙ omega (arith, digit_split i d p h.0 (product_positive ds h.1), add-mul (j * d) x p, mul_assoc j d p)

pub entry_index : (ds : List ℕ) (i : ℕ) → Positive ds → i < product ds → index_from 0 ds (entry_values ds i) ≡ i
entry_index ds i h l =
    rw entry_digits_lem (index_digits 0 ds i h ∙ omega (arith, mod-eq_of_lt l))

digits_values : (ds : List ℕ) (i : ℕ) → Positive ds → Values ds (entry_digits ds i)
unfolding entry_digits
digits_values [] i h = refl
digits_values (d ∷ ds) i h = (mod-lt (i / product ds) h.0, digits_values ds i h.1)

pub entry_values_lem : (ds : List ℕ) (i : ℕ) → Positive ds → Values ds (entry_values ds i)
entry_values_lem ds i h = rw entry_digits_lem (digits_values ds i h)

digits_length : (ds : List ℕ) (i : ℕ) → length (entry_digits ds i) ≡ length ds
unfolding entry_digits
digits_length [] i = refl
digits_length (d ∷ ds) i = ap suc (digits_length ds i)

pub entry_length : (ds : List ℕ) (i : ℕ) → length (entry_values ds i) ≡ length ds
entry_length ds i = rw entry_digits_lem (digits_length ds i)

-- ## any values

pub values_length : (ds xs : List ℕ) → Values ds xs → length xs ≡ length ds
values_length [] xs h = ap length h
values_length (d ∷ ds) [] h = absurd h
values_length (d ∷ ds) (x ∷ xs) h = ap suc (values_length ds xs h.1)

index_room : (i : ℕ) (ds xs : List ℕ) → Values ds xs → index_from i ds xs + 1 ≤ (i + 1) * product ds
unfolding index_from
index_room i [] xs h = omega arith
index_room i (d ∷ ds) [] h = absurd h
index_room i (d ∷ ds) (x ∷ xs) h =
    le_trans (index_room (i * d + x) ds xs h.1) (digit_room i d x (product ds) h.0)

-- they stand in the table
pub index_below : (ds xs : List ℕ) → Values ds xs → index_from 0 ds xs < product ds
index_below ds xs h = omega (arith, index_room 0 ds xs h)

digit_same : (d i j x y : ℕ) → x < d → y < d → i * d + x ≡ j * d + y → (i ≡ j) × (x ≡ y)
digit_same d i j x y h k e =
    let positive : 0 < d = omega arith in
    let front : (n z : ℕ) → z < d → (n * d + z) / d ≡ n =
    λ n z l. mul-add-div_right positive n z ∙ omega (arith, div-eq_of_lt l) in
    let same : i ≡ j = sym (front i x h) ∙ ap (λ (n : ℕ). n / d) e ∙ front j y k in
    (same, omega (arith, ap (λ (n : ℕ). n * d) same))

-- and other values stand elsewhere
index_same : (i j : ℕ) (ds xs ys : List ℕ) → Values ds xs → Values ds ys → index_from i ds xs ≡ index_from j ds ys
    → (i ≡ j) × (xs ≡ ys)
unfolding index_from
index_same i j [] xs ys h k e = (e, h ∙ sym k)
index_same i j (d ∷ ds) [] ys h k e = absurd h
index_same i j (d ∷ ds) (x ∷ xs) [] h k e = absurd k
index_same i j (d ∷ ds) (x ∷ xs) (y ∷ ys) h k e =
    let (front, rest) = index_same (i * d + x) (j * d + y) ds xs ys h.1 k.1 e in
    let (before, first) = digit_same d i j x y h.0 k.0 front in
    (before, λ n. first n ∷ rest n)

pub index_unique : (ds xs ys : List ℕ) → Values ds xs → Values ds ys → index_from 0 ds xs ≡ index_from 0 ds ys → xs ≡ ys
index_unique ds xs ys h k e = (index_same 0 0 ds xs ys h k e).1

-- ## the sizes of a scope's variables

pub sizes_over_lem : (ds vs : List ℕ) → All DomainSize ds → InRange (length ds) vs → All DomainSize (sizes_over ds vs)
sizes_over_lem ds [] h r = tt
sizes_over_lem ds (v ∷ vs) h r = (all_below DomainSize ds h v 0 r.0, sizes_over_lem ds vs h r.1)

pub sizes_positive : (ds : List ℕ) → All DomainSize ds → Positive ds
sizes_positive ds h = all_map DomainSize (λ d. 1 ≤ d) (λ d s. s.0) ds h

pub size_product : (ds vs : List ℕ) → size_of ds vs ≡ product (sizes_over ds vs)
unfolding size_of
size_product ds [] = refl
size_product ds (v ∷ vs) = ap (λ (n : ℕ). get_or ds v 0 * n) (size_product ds vs)
