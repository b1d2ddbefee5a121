-- A record's start, the mark due and the single fields, and fields with a limit: what number 0 says of them.
use mathlib.Core.Path.{◌≡◌, refl}
use mathlib.Core.Logic.{⊎_elim}
use mathlib.Core.Bool.{true, false, ◌&&◌, not}
use mathlib.Core.List.{List, [], ◌∷◌}
use Prim.Native.Nat.{ℕ, ◌+◌, ◌≤◌}
use native.Mathlib.Omega.{arith}
use native.Mathlib.Nat.{pos_of_ne-zero}
use lib.Dec.{eqb, ltb, leb}
use lib.ListN.{length, get_or, drop}
use borrow.Author.Tests.{ltb-false, lt-ltb, le-ltb, leb-true, leb-false, eqb-true, eqb-false, eq-eqb, ne_eqb, not-false}
use Rattle.model.specs.Refusals.{cut_short, stray_mark}
use Rattle.model.specs.Reading.{start_number, outside}
use Rattle.model.proofs.Bits.{test, and_left, and_right, and_both, or-false}
use Rattle.model.proofs.Verdicts.{first_none, none_first, when_none, none_when}

-- the list begins with the letters a and b, and has the single fields
pub record Marked (a b fields : ℕ) (s : List ℕ) : Type 0 where
  pub letter : get_or s 0 0 ≡ a
  pub next : get_or s 1 0 ≡ b
  pub long : 2 + fields ≤ length s

pub start_marked : (a b fields : ℕ) (s : List ℕ) → start_number a b fields s ≡ 0 → Marked a b fields s
unfolding start_number
start_marked a b fields s h =
    let h₁ = first_none _ _ (first_none _ _ h).1 in
    let first = eqb (get_or s 0 0) a in
    let second = eqb (get_or s 1 0) b in
    let mark : (first && second) ≡ true = not-false _ (when_none _ stray_mark refl h₁.0) in
    record {
      letter = eqb-true _ _ (and_left first second mark);
      next = eqb-true _ _ (and_right first second mark);
      long = ltb-false _ _ (when_none _ cut_short refl h₁.1);
    }

pub marked_start : (a b fields : ℕ) (s : List ℕ) → Marked a b fields s → start_number a b fields s ≡ 0
unfolding start_number
marked_start a b fields s m =
    let mark : not (eqb (get_or s 0 0) a && eqb (get_or s 1 0) b) ≡ false =
    rw (and_both (eq-eqb _ _ m.letter) (eq-eqb _ _ m.next)) in
    none_first _ (none_when cut_short (le-ltb (length s) 2 (omega (arith, m.long))))
    (none_first _ (none_when stray_mark mark) (none_when cut_short (le-ltb _ _ m.long)))

-- the bytes of a record begin with its mark
pub marked_list : (a b fields : ℕ) (s : List ℕ) → Marked a b fields s → s ≡ a ∷ b ∷ drop 2 s
marked_list a b fields [] m = absurd (omega (arith, m.long))
marked_list a b fields (x ∷ []) m = absurd (omega (arith, m.long))
marked_list a b fields (x ∷ y ∷ s) m = λ i. m.letter i ∷ m.next i ∷ s

-- a number that is not outside 1 to its limit
pub not_outside : (limit x : ℕ) → outside limit x ≡ false → (1 ≤ x) × (x ≤ limit)
not_outside limit x h =
    let both = or-false (eqb x 0) (ltb limit x) h in
    (pos_of_ne-zero (eqb-false x 0 both.0), ltb-false limit x both.1)

pub inside : (limit x : ℕ) → (1 ≤ x) × (x ≤ limit) → outside limit x ≡ false
inside limit x h = rw (ne_eqb x 0 (λ e. omega arith), le-ltb limit x h.1)

-- the same as tests
pub outside_zero : (limit : ℕ) {x : ℕ} → x ≡ 0 → false ≡ not (outside limit x)
outside_zero limit e = rw (eq-eqb _ _ e)

pub outside_other : (limit x : ℕ) → (x ≡ 0 → ⊥) → leb x limit ≡ not (outside limit x)
outside_other limit x n =
    rw (ne_eqb x 0 n)
    (⊎_elim (λ t. rw (le-ltb limit x (leb-true x limit t)) t) (λ t. rw (lt-ltb limit x (leb-false x limit t)) t)
    (test (leb x limit)))
