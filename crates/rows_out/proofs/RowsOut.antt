-- A part of each row, b numbers long, written one after another over the start of a buffer.
use mathlib.Core.Path.{◌≡◌, refl, sym, ap, ◌∙◌}
use mathlib.Core.List.{List, [], ◌++◌, append_assoc, append-nil}
use Prim.Native.Nat.{ℕ, zero, suc, ◌+◌, ◌*◌, ◌≤◌}
use native.Mathlib.Omega.{arith}
use native.Mathlib.Nat.{suc-mul, zero-mul, zero-add, add-zero}
use native.Mathlib.Numerals.{add-one}
use lib.ListN.{length, take, drop, length-append, length-drop}
use Rattle.model.specs.Calls.{over}
use Rattle.model.proofs.Lists.{written_behind}

-- the parts of k rows, from row i on
unfoldable pub joined : (ℕ → List ℕ) → ℕ → ℕ → List ℕ
joined part i zero = []
joined part i (suc k) = part i ++ joined part (i + 1) k

joined_next : (part : ℕ → List ℕ) (i k : ℕ) → joined part i (suc k) ≡ joined part i k ++ part (i + k)
unfolding joined
joined_next part i zero = rw (add-zero, append-nil)
joined_next part i (suc k) =
    let e : i + 1 + k ≡ i + suc k = omega arith in
    ap (◌++◌ (part i)) (joined_next part (i + 1) k) ∙ rw (append_assoc, e)

-- `row` of them are written
pub record Out (part : ℕ → List ℕ) (b : ℕ) (old new : List ℕ) (row : ℕ) : Type 0 where
  pub room : row * b ≤ length old
  pub long : length (joined part 0 row) ≡ row * b
  pub holds : new ≡ over (joined part 0 row) old

pub out_start : (part : ℕ → List ℕ) (b : ℕ) (old : List ℕ) → Out part b old old 0
unfolding joined over
out_start part b old = record { room = rw zero-mul (omega arith); long = sym (zero-mul b); holds = refl }

module _ {part : ℕ → List ℕ} {b : ℕ} {old new : List ℕ} {row : ℕ} (u : Out part b old new row) where
  abbrev done : List ℕ
  done = joined part 0 row

  pub out_length : length new ≡ length old
  unfolding over
  out_length = rw u.holds (omega (arith, length-append done (drop (length done) old), length-drop (length done) old))

  pub out_next : row * b + b ≤ length old → length (part row) ≡ b → (next : List ℕ)
      → next ≡ take (row * b) new ++ part row ++ drop (row * b + b) new → Out part b old next (row + 1)
  unfolding over
  out_next r l next e =
      let grown : joined part 0 (row + 1) ≡ done ++ part row = rw (add-one, joined_next, zero-add) in
      let more : (row + 1) * b ≡ row * b + b = rw (add-one, suc-mul) in
      let all : length (done ++ part row) ≡ row * b + b = omega (arith, length-append done (part row), u.long) in
      record {
        room = rw more r;
        long = rw (grown, more) all;
        holds = rw grown (e ∙ rw (all, u.holds, u.long) (written_behind done (part row) old (row * b) b u.long));
      }
