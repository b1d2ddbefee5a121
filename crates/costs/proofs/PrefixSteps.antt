-- The test of a prefix, one value at a time.
use mathlib.Core.Path.{◌≡◌, refl}
use mathlib.Core.Logic.{inr}
use mathlib.Core.Bool.{false, ◌&&◌}
use mathlib.Core.List.{List, [], ◌∷◌}
use Prim.Native.Nat.{ℕ, ◌+◌, ◌<◌}
use native.Mathlib.Omega.{arith}
use native.Mathlib.Numerals.{add-one}
use lib.Dec.{ltb}
use lib.ListN.{length, get_or, drop}
use lib.Seq.{drop-cons}
use Rattle.model.specs.Bounds.{prefix_ok}
use Rattle.model.proofs.Bits.{and-false}

pub prefix_long : (ds pre : List ℕ) → length ds < length pre → prefix_ok ds pre ≡ false
unfolding prefix_ok
prefix_long ds [] h = absurd (omega arith)
prefix_long [] (x ∷ pre) h = refl
prefix_long (d ∷ ds) (x ∷ pre) h = and-false (ltb x d) (prefix_ok ds pre) (inr (prefix_long ds pre (omega arith)))

pub prefix_next : (ds pre : List ℕ) (i : ℕ) → i < length ds → i < length pre
    → prefix_ok (drop i ds) (drop i pre)
    ≡ (ltb (get_or pre i 0) (get_or ds i 0) && prefix_ok (drop (i + 1) ds) (drop (i + 1) pre))
unfolding prefix_ok
prefix_next ds pre i h l = rw (drop-cons ds i 0 h, drop-cons pre i 0 l, add-one)
