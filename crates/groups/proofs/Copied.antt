-- The first n elements of a list, written over a buffer from a place on, one after another.
use mathlib.Core.Path.{◌≡◌}
use mathlib.Core.List.{List}
use Prim.Native.Nat.{ℕ, ◌+◌, ◌≤◌, ◌<◌}
use native.Mathlib.Omega.{arith}
use native.Mathlib.Numerals.{add-one}
use lib.ListN.{length, get_or, set}
use lib.Seq.{paste, paste-zero, paste-suc, length-paste}

-- i of them are written
pub record Copied (old : List ℕ) (at : ℕ) (xs : List ℕ) (n : ℕ) (new : List ℕ) (i : ℕ) : Type 0 where
  pub fewer : i ≤ n
  pub room : at + n ≤ length old
  pub long : n ≤ length xs
  pub holds : new ≡ paste old at xs i

pub copied_start : (old : List ℕ) (at : ℕ) (xs : List ℕ) (n : ℕ) → at + n ≤ length old → n ≤ length xs
    → Copied old at xs n old 0
copied_start old at xs n r l = record { fewer = omega arith; room = r; long = l; holds = paste-zero old at xs }

module _ {old : List ℕ} {at : ℕ} {xs : List ℕ} {n : ℕ} {new : List ℕ} {i : ℕ} (u : Copied old at xs n new i) where
  pub copied_length : length new ≡ length old
  copied_length = rw u.holds (length-paste old at xs i (omega arith) (omega arith))

  pub copied_end : n ≤ i → new ≡ paste old at xs n
  copied_end h =
      let last : i ≡ n = omega arith in
      rw last at u.holds

  pub copied_next : i < n → (x : ℕ) → x ≡ get_or xs i 0 → Copied old at xs n (set new (at + i) x) (i + 1)
  copied_next h x e =
      record {
        fewer = omega arith;
        room = u.room;
        long = u.long;
        holds = rw (e, u.holds, add-one) (paste-suc old at xs i 0 (omega arith) (omega arith));
      }
