-- Bytes written at a place of a buffer: the buffer's length, what stands before them, at their place and behind them,
-- and bytes written behind others.
use mathlib.Core.Path.{◌≡◌, refl, sym, ap, ◌∙◌}
use mathlib.Core.Logic.{◌⊎◌, inl, inr}
use mathlib.Core.List.{List, [], ◌++◌, append_assoc}
use Prim.Native.Nat.{ℕ, ◌+◌, ◌≤◌}
use native.Mathlib.Nat.{add-zero}
use native.Mathlib.Omega.{arith}
use lib.ListN.{length, take, drop, length-append, length-drop, take-append-drop}
use lib.Seq.{length-take-le, take-append_seam, take_at, drop_at, drop-drop}
use Rattle.model.proofs.Lists.{part_same, drop_later}
use Rattle.form_canonical.specs.Places.{over_at}

-- the n bytes from `from` on are none of the m bytes from `at` on
abbrev pub Apart : ℕ → ℕ → ℕ → ℕ → Type 0
Apart n from m at = (from + n ≤ at) ⊎ (at + m ≤ from)

module _ (at : ℕ) (bytes out : List ℕ) where
  pub over_length : at + length bytes ≤ length out → length (over_at at bytes out) ≡ length out
  over_length h =
      let rest = drop (at + length bytes) out in
      omega (
        arith,
        length-append (take at out) (bytes ++ rest),
        length-append bytes rest,
        length-take-le at out (omega arith),
        length-drop (at + length bytes) out,
      )

  -- at their place the bytes themselves
  pub over_at_lem : at ≤ length out → take (length bytes) (drop at (over_at at bytes out)) ≡ bytes
  over_at_lem h =
      let rest = drop (at + length bytes) out in
      ap (take (length bytes)) (drop_at (take at out) (bytes ++ rest) at (length-take-le at out h))
      ∙ take-append_seam bytes rest

  pub over_before : (n from : ℕ) → from + n ≤ at → at ≤ length out
      → take n (drop from (over_at at bytes out)) ≡ take n (drop from out)
  over_before n from h inside =
      part_same at n from (over_at at bytes out) out h
      (take_at (take at out) (bytes ++ drop (at + length bytes) out) at (length-take-le at out inside))

  pub over_behind : (from : ℕ) → at + length bytes ≤ from → at ≤ length out
      → drop from (over_at at bytes out) ≡ drop from out
  over_behind from h inside =
      let end = at + length bytes in
      let long : length (take at out ++ bytes) ≡ end =
      omega (arith, length-append (take at out) bytes, length-take-le at out inside) in
      drop_later end from (over_at at bytes out) out h
      (ap (drop end) (sym (append_assoc (take at out) bytes (drop end out)))
      ∙ drop_at (take at out ++ bytes) (drop end out) end long)

  -- elsewhere what stood there
  pub over_apart : (n from : ℕ) → Apart n from (length bytes) at → at ≤ length out
      → take n (drop from (over_at at bytes out)) ≡ take n (drop from out)
  over_apart n from (inl h) inside = over_before n from h inside
  over_apart n from (inr h) inside = ap (take n) (over_behind from h inside)

pub over_none : (at : ℕ) (out : List ℕ) → over_at at [] out ≡ out
over_none at out = rw (add-zero at) (take-append-drop at out)

-- a part of a buffer that was lent and now has these bytes
pub over_part : (at n : ℕ) (bytes part out : List ℕ) → part ≡ bytes → length bytes ≡ n
    → take at out ++ (part ++ drop n (drop at out)) ≡ over_at at bytes out
over_part at n bytes part out e long = rw (e, ← long, drop-drop (length bytes) at out) refl

-- one string behind another
pub over_then : (at m : ℕ) (xs ys out : List ℕ) → m ≡ at + length xs → m + length ys ≤ length out
    → over_at m ys (over_at at xs out) ≡ over_at at (xs ++ ys) out
over_then at m xs ys out e h =
    let rest = drop (at + length xs) out in
    let first = over_at at xs out in
    let whole : first ≡ (take at out ++ xs) ++ rest = sym (append_assoc (take at out) xs rest) in
    let wide : length (take at out ++ xs) ≡ m =
    omega (arith, length-append (take at out) xs, length-take-le at out (omega arith)) in
    let front : take m first ≡ take at out ++ xs = ap (take m) whole ∙ take_at (take at out ++ xs) rest m wide in
    let back : drop m first ≡ rest = ap (drop m) whole ∙ drop_at (take at out ++ xs) rest m wide in
    let far : at + length xs + length ys ≡ at + length (xs ++ ys) = omega (arith, length-append xs ys) in
    let behind : drop (m + length ys) first ≡ drop (at + length (xs ++ ys)) out =
    sym (drop-drop (length ys) m first) ∙ ap (drop (length ys)) back ∙ drop-drop (length ys) (at + length xs) out
    ∙ ap (λ (n : ℕ). drop n out) far in
    (λ i. front i ++ (ys ++ behind i))
    ∙ append_assoc (take at out) xs (ys ++ drop (at + length (xs ++ ys)) out)
    ∙ ap (λ (l : List ℕ). take at out ++ l) (sym (append_assoc xs ys (drop (at + length (xs ++ ys)) out)))
