-- The areas of the problems: what the test of them says, and a buffer with one of them written.
use mathlib.Core.Path.{◌≡◌, sym, ap, ap₂, ◌∙◌}
use mathlib.Core.Bool.{true, ◌&&◌}
use mathlib.Core.List.{List, ◌++◌, append_assoc}
use Prim.Native.Nat.{ℕ, ◌+◌, ◌*◌, ◌≤◌}
use native.Mathlib.Omega.{arith}
use native.Mathlib.Nat.{mul-suc}
use native.Mathlib.Numerals.{add-one}
use lib.Dec.{leb}
use lib.ListN.{length, take, drop, length-append}
use lib.Seq.{length-take-le, take_at, drop_at, drop-drop}
use borrow.Author.Tests.{leb-true}
use Rattle.model.proofs.Bits.{and_left, and_right}
use Rattle.batch_frames.specs.Outcomes.{cost_area, choice_area, result_area, areas_ok}
use Rattle.batch_frames.specs.Says.{in_area}

pub areas_there : (k costs choices results : ℕ) → areas_ok k costs choices results ≡ true
    → (cost_area * k ≤ costs) × (choice_area * k ≤ choices) × (result_area * k ≤ results)
unfolding areas_ok
areas_there k costs choices results h =
    let c = leb (cost_area * k) costs in
    let x = leb (choice_area * k) choices in
    let r = leb (result_area * k) results in
    let later = and_right c (x && r) h in
    (leb-true _ _ (and_left c (x && r) h), leb-true _ _ (and_left x r later), leb-true _ _ (and_right x r later))

-- xs in the area of problem k, where each problem has n elements
module _ (n k : ℕ) (xs buffer : List ℕ) (long : length xs ≡ n) (there : n * k + n ≤ length buffer) where
  -- the areas up to this one, and what stands behind it
  abbrev front : List ℕ
  front = take (n * k) buffer ++ xs

  abbrev behind : List ℕ
  behind = drop (n * k + n) buffer

  front_long : length front ≡ n * k + n
  front_long =
      omega (arith, length-append (take (n * k) buffer) xs, length-take-le (n * k) buffer (omega (arith, there)), long)

  parted : in_area n k xs buffer ≡ front ++ behind
  unfolding in_area
  parted = sym (append_assoc (take (n * k) buffer) xs behind)

  next : n * (k + 1) ≡ n * k + n
  next = ap (◌*◌ n) (add-one k) ∙ mul-suc n k

  pub area_front : take (n * (k + 1)) (in_area n k xs buffer) ≡ take (n * k) buffer ++ xs
  area_front = ap₂ take next parted ∙ take_at front behind (n * k + n) front_long

  pub area_behind : drop (n * (k + 1)) (in_area n k xs buffer) ≡ drop n (drop (n * k) buffer)
  area_behind =
      ap₂ drop next parted ∙ drop_at front behind (n * k + n) front_long ∙ sym (drop-drop n (n * k) buffer)
