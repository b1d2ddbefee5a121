-- A scope that is read variable after variable: its variables, their domain sizes, and the size of its table.
use mathlib.Core.Path.{◌≡◌, refl, ap, ap₂, sym, ◌∙◌}
use mathlib.Core.List.{List, [], ◌∷◌, ◌++◌}
use Prim.Native.Nat.{ℕ, ◌+◌, ◌*◌, ◌≤◌, ◌<◌}
use native.Mathlib.Numerals.{add-one}
use native.Mathlib.Omega.{arith}
use native.Mathlib.Nat.{mul_assoc, mul-one}
use lib.ListN.{length, get_or, take, set, length-set, length-map}
use lib.Seq.{take-suc-set, get_or-take}
use Rattle.model.specs.Basics.{All}
use Rattle.model.specs.Problems.{DomainSize, InRange, size_of}
use Rattle.text_words.specs.Reads.{words_at, cap_end, NumberSays}
use Rattle.text_words.specs.declared.Number as DN
use Rattle.text_networks.specs.Findings.{value_at, values_in}
use Rattle.text_networks.specs.Networks.{sizes_over}
use Rattle.text_networks.proofs.Lists.{map-append}
use Rattle.text_networks.proofs.Entries.{product, sizes_over_lem, size_product}
use Rattle.text_tuples.proofs.Reading.{product_few}
use Rattle.text_reading.proofs.Numbers.{values_more, value_stored, Passed, none_passed, one_passed, passed_value}

size_more : (ds vs : List ℕ) (v : ℕ) → size_of ds (vs ++ (v ∷ [])) ≡ size_of ds vs * get_or ds v 0
unfolding size_of
size_more ds [] v = omega (arith, mul-one (get_or ds v 0))
size_more ds (u ∷ vs) v =
    ap (λ (n : ℕ). get_or ds u 0 * n) (size_more ds vs v)
    ∙ sym (mul_assoc (get_or ds u 0) (size_of ds vs) (get_or ds v 0))

-- ## the domain sizes of an array's front

front_sizes : (n : ℕ) (ds vs : List ℕ) → InRange n vs → sizes_over ds vs ≡ sizes_over (take n ds) vs
front_sizes n ds [] r = refl
front_sizes n ds (v ∷ vs) r = ap₂ ◌∷◌ (sym (get_or-take n ds v 0 r.0)) (front_sizes n ds vs r.1)

front_size : (n : ℕ) (ds vs : List ℕ) → InRange n vs → size_of ds vs ≡ size_of (take n ds) vs
front_size n ds vs r =
    size_product ds vs ∙ ap product (front_sizes n ds vs r) ∙ sym (size_product (take n ds) vs)

pub table_few : (ds vs : List ℕ) → All DomainSize ds → InRange (length ds) vs → length vs ≤ 3 → size_of ds vs ≤ 512
table_few ds vs small r few =
    let sizes = product_few (sizes_over ds vs) (sizes_over_lem ds vs small r)
    (omega (arith, length-map vs (λ v. get_or ds v 0))) in
    omega (arith, sizes, size_product ds vs)

-- ## i variables are read

pub record Scoping (s : List ℕ) (at : ℕ) (ds vs zs : List ℕ) (size end i : ℕ) : Type 0 where
  pub passed : Passed s at i end
  pub variables : take i vs ≡ values_in i (words_at s at)
  pub sizes : take i zs ≡ sizes_over ds (values_in i (words_at s at))
  pub entries : size ≡ size_of ds (values_in i (words_at s at))
  pub three : (length vs ≡ 3) × (length zs ≡ 3)

pub scoping_start : (s : List ℕ) (at : ℕ) (ds vs zs : List ℕ) → at ≤ length s → length vs ≡ 3 → length zs ≡ 3
    → Scoping s at ds vs zs 1 at 0
unfolding values_in size_of
scoping_start s at ds vs zs h v z =
    record { passed = none_passed s at h; variables = refl; sizes = refl; entries = refl; three = (v, z) }

module _ {s : List ℕ} {at : ℕ} {ds vs zs : List ℕ} {size end i : ℕ} (w : Scoping s at ds vs zs size end i) (l : i < 3)
    (r : DN.Number) (says : NumberSays s end r) (small : value_at i (words_at s at) < cap_end) where
  pub variable_read : r.value ≡ value_at i (words_at s at)
  variable_read = passed_value w.passed r says small

  pub scoping_more :
      let v = r.value in
      let d = get_or ds v 0 in
      Scoping s at ds (set vs i v) (set zs i d) (size * d) r.end (i + 1)
  scoping_more =
      let ws = words_at s at in
      let v = r.value in
      let d = get_or ds v 0 in
      let us = values_in i ws in
      let more : values_in (i + 1) ws ≡ us ++ (v ∷ []) =
      values_more i ws ∙ ap (λ (x : ℕ). us ++ (x ∷ [])) (sym variable_read) in
      record {
        passed = one_passed w.passed r says;
        variables = value_stored vs ws i v w.variables (omega (arith, w.three.0)) variable_read;
        sizes =
            ap (λ (n : ℕ). take n (set zs i d)) (add-one i)
            ∙ take-suc-set zs i d (omega (arith, w.three.1))
            ∙ ap (λ (l : List ℕ). l ++ (d ∷ [])) w.sizes
            ∙ sym (map-append (λ u. get_or ds u 0) us (v ∷ []))
            ∙ ap (sizes_over ds) (sym more);
        entries =
            ap (λ (n : ℕ). n * d) w.entries ∙ sym (size_more ds us v) ∙ ap (size_of ds) (sym more);
        three = (length-set vs i v ∙ w.three.0, length-set zs i d ∙ w.three.1);
      }

-- all are read, over the first n sizes of an array
module _ {s : List ℕ} {at : ℕ} {ds vs zs : List ℕ} {size end i : ℕ} (w : Scoping s at ds vs zs size end i)
    (n : ℕ) (range : InRange n (values_in i (words_at s at))) where
  pub scope_sizes_lem : take i zs ≡ sizes_over (take n ds) (values_in i (words_at s at))
  scope_sizes_lem = w.sizes ∙ front_sizes n ds (values_in i (words_at s at)) range

  pub scope_entries : size ≡ size_of (take n ds) (values_in i (words_at s at))
  scope_entries = w.entries ∙ front_size n ds (values_in i (words_at s at)) range
