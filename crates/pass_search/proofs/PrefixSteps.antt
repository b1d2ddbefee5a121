-- A prefix gets one more value; a prefix that has one for every variable is a choice.
use mathlib.Core.Path.{◌≡◌, refl}
use mathlib.Core.Bool.{true}
use mathlib.Core.List.{List, [], ◌∷◌, ◌++◌}
use Prim.Native.Nat.{ℕ, ◌≤◌, ◌<◌}
use native.Mathlib.Omega.{arith}
use lib.Dec.{ltb}
use lib.ListN.{length, get_or}
use borrow.Author.Tests.{lt-ltb}
use Rattle.model.specs.Costs.{is_choice}
use Rattle.model.specs.Bounds.{prefix_ok}
use Rattle.model.proofs.Bits.{and_left, and_right, and_both}

pub prefix_more : (ds pre : List ℕ) (v : ℕ) → prefix_ok ds pre ≡ true → v < get_or ds (length pre) 0
    → prefix_ok ds (pre ++ (v ∷ [])) ≡ true
unfolding prefix_ok
prefix_more [] [] v h l = absurd (omega arith)
prefix_more (d ∷ ds) [] v h l = and_both (lt-ltb v d l) refl
prefix_more [] (x ∷ pre) v h l = h
prefix_more (d ∷ ds) (x ∷ pre) v h l =
    and_both (and_left (ltb x d) _ h) (prefix_more ds pre v (and_right (ltb x d) _ h) l)

pub prefix_whole : (ds pre : List ℕ) → prefix_ok ds pre ≡ true → length ds ≤ length pre → is_choice ds pre ≡ true
unfolding prefix_ok is_choice
prefix_whole [] [] h l = refl
prefix_whole (d ∷ ds) [] h l = absurd (omega arith)
prefix_whole [] (x ∷ pre) h l = h
prefix_whole (d ∷ ds) (x ∷ pre) h l =
    and_both (and_left (ltb x d) _ h) (prefix_whole ds pre (and_right (ltb x d) _ h) (omega arith))
