-- The place of an entry is a sum: for each variable its value times its stride.
use mathlib.Core.Path.{◌≡◌, refl, ap, ◌∙◌}
use mathlib.Core.Bool.{Bool, true, false}
use mathlib.Core.List.{List, [], ◌∷◌, ◌++◌}
use Prim.Native.Nat.{ℕ, zero, suc, ◌+◌, ◌-◌, ◌*◌, ◌≤◌, ◌<◌}
use native.Mathlib.Omega.{arith}
use native.Mathlib.Numerals.{add-one}
use lib.Dec.{eqb}
use lib.ListN.{length, get_or, take, drop, drop_of_length-le, get_or-eq_default}
use lib.Seq.{get_or-append_seam, drop-cons}
use borrow.Author.Tests.{eqb-true, eqb-false, eq-eqb, ne_eqb}
use Rattle.model.specs.Basics.{All, pick}
use Rattle.model.specs.Problems.{size_of, has_variable, scope_rule}
use Rattle.model.specs.Costs.{entry_from}
use Rattle.model.proofs.Numbers.{digit_room}
use Rattle.model.proofs.Bits.{or-false}
use Rattle.model.proofs.Lists.{take_rest}
use Rattle.form_turning.specs.Strides.{stride_of}
use Rattle.form_turning.proofs.OrderedScopes.{scope_parts}

-- an index further on
entry_more : (ds xs vs : List ℕ) (i j : ℕ) → entry_from (i + j) ds vs xs ≡ entry_from i ds vs xs + j * size_of ds vs
unfolding entry_from size_of
entry_more ds xs [] i j = omega arith
entry_more ds xs (v ∷ vs) i j =
    let d = get_or ds v 0 in
    let x = get_or xs v 0 in
    let place : (i + j) * d + x ≡ (i * d + x) + j * d = omega arith in
    let rest : j * d * size_of ds vs ≡ j * (d * size_of ds vs) = omega arith in
    ap (λ (n : ℕ). entry_from n ds vs xs) place ∙ entry_more ds xs vs (i * d + x) (j * d)
    ∙ ap (λ (n : ℕ). entry_from (i * d + x) ds vs xs + n) rest

-- a variable that the scope does not have
pub stride_none : (ds vs : List ℕ) (v : ℕ) → has_variable v vs ≡ false → stride_of ds vs v ≡ 0
unfolding stride_of has_variable
stride_none ds [] v h = refl
stride_none ds (w ∷ ws) v h =
    let (other, rest) = or-false (eqb w v) (has_variable v ws) h in
    rw other (stride_none ds ws v rest)

-- one value more
get_d_other : (pre : List ℕ) (x w : ℕ) → (w ≡ length pre → ⊥) → get_or (pre ++ (x ∷ [])) w 0 ≡ get_or pre w 0
get_d_other [] x zero h = absurd (h refl)
get_d_other [] x (suc w) h = refl
get_d_other (p ∷ pre) x zero h = refl
get_d_other (p ∷ pre) x (suc w) h = get_d_other pre x w (λ e. h (ap suc e))

module _ (ds pre : List ℕ) (x : ℕ) where
  abbrev v : ℕ
  v = length pre

  abbrev longer : List ℕ
  longer = pre ++ (x ∷ [])

  pub entry_linear : (n : ℕ) (vs : List ℕ) (i : ℕ) → scope_rule n vs ≡ true
      → entry_from i ds vs longer ≡ entry_from i ds vs pre + x * stride_of ds vs v
  unfolding entry_from stride_of
  entry_linear n [] i h = omega arith
  entry_linear n (w ∷ ws) i h =
      let (there, fresh, others) = scope_parts n w ws h in
      go (eqb w v) refl fresh (entry_linear n ws (i * get_or ds w 0 + get_or longer w 0) others)
    where
      go : (b : Bool) → eqb w v ≡ b → has_variable w ws ≡ false
          → entry_from (i * get_or ds w 0 + get_or longer w 0) ds ws longer
          ≡ entry_from (i * get_or ds w 0 + get_or longer w 0) ds ws pre + x * stride_of ds ws v
          → entry_from (i * get_or ds w 0 + get_or longer w 0) ds ws longer
          ≡ entry_from (i * get_or ds w 0 + get_or pre w 0) ds ws pre + x * pick b (size_of ds ws) (stride_of ds ws v)
      go true t fresh others =
          let e : w ≡ v = eqb-true w v t in
          let here : get_or longer w 0 ≡ x = rw e (get_or-append_seam pre x [] 0) in
          let none : get_or pre w 0 ≡ 0 = get_or-eq_default pre 0 (omega arith) in
          let far : stride_of ds ws v ≡ 0 = stride_none ds ws v (rw e at fresh) in
          let i' : ℕ = i * get_or ds w 0 + get_or pre w 0 in
          let place : i * get_or ds w 0 + get_or longer w 0 ≡ i' + x = omega (arith, here, none) in
          let moved = entry_more ds pre ws i' x in
          let same = ap (λ (k : ℕ). entry_from k ds ws pre) place in
          omega (arith, others, moved, same, ap (λ (k : ℕ). x * k) far)
      go false t fresh others =
          let e = get_d_other pre x w (eqb-false w v t) in
          rw e (rw e at others)

-- values of the domains give an entry of the table
pub entry_below : (ds xs vs : List ℕ) (i : ℕ) → All (λ v. get_or xs v 0 < get_or ds v 0) vs
    → entry_from i ds vs xs < (i + 1) * size_of ds vs
unfolding entry_from size_of
entry_below ds xs [] i h = omega arith
entry_below ds xs (v ∷ vs) i h =
    omega (
      arith,
      entry_below ds xs vs (i * get_or ds v 0 + get_or xs v 0) h.1,
      digit_room i (get_or ds v 0) (get_or xs v 0) (size_of ds vs) h.0,
    )

-- ## the scope from number k on

module _ (ds scope : List ℕ) (v k : ℕ) where
  pub stride_end : length scope ≤ k → stride_of ds (drop k scope) v ≡ 0
  unfolding stride_of
  stride_end h = rw (drop_of_length-le scope {i = k} h)

  module _ (more : k < length scope) where
    pub stride_here : get_or scope k 0 ≡ v
        → stride_of ds (drop k scope) v ≡ size_of ds (take (length scope - (k + 1)) (drop (k + 1) scope))
    unfolding stride_of
    stride_here e =
        let behind = drop (k + 1) scope in
        let all : take (length scope - (k + 1)) behind ≡ behind =
        take_rest scope (k + 1) in
        rw (all, add-one, drop-cons scope k 0 more, eq-eqb (get_or scope k 0) v e)

    pub stride_after : (get_or scope k 0 ≡ v → ⊥) → stride_of ds (drop k scope) v ≡ stride_of ds (drop (k + 1) scope) v
    unfolding stride_of
    stride_after e = rw (add-one, drop-cons scope k 0 more, ne_eqb (get_or scope k 0) v e)
