-- A slot and a form compared part after part.
use mathlib.Core.Path.{◌≡◌, sym, ◌∙◌}
use mathlib.Core.Bool.{Bool, true, false}
use mathlib.Core.List.{List}
use Prim.Native.Nat.{ℕ, ◌-◌, ◌≤◌}
use native.Mathlib.Omega.{arith}
use lib.ListN.{length, take, drop}
use lib.Seq.{take_all}
use Rattle.model.specs.Vectors.{same}
use Rattle.model.proofs.Bits.{true_false, not_true_false}
use Rattle.model.proofs.Lists.{part_same}
use Rattle.model.proofs.Vectors.{same_true, same_eq}
use Rattle.form_order.proofs.SameBytes.{run_alike}

-- a part from i to `end` that differs tells them apart
pub part_differs : (slot form : List ℕ) (i end : ℕ) → i ≤ end → end ≤ length form
    → same (take (end - i) (drop i slot)) (take (end - i) (drop i form)) ≡ false
    → same (take (length form) slot) form ≡ false
part_differs slot form i end l h s =
    not_true_false (same (take (length form) slot) form)
    (λ t. true_false
    (same_eq (part_same (length form) (end - i) i slot form (omega arith)
    (same_true (take (length form) slot) form t ∙ sym (take_all (length form) form (omega arith))))) s)

-- where the bytes passed are the same, those from i on decide
pub rest_decides : (slot form : List ℕ) (i : ℕ) (r : Bool) → i ≤ length form → take i slot ≡ take i form
    → r ≡ same (take (length form - i) (drop i slot)) (take (length form - i) (drop i form))
    → r ≡ same (take (length form) slot) form
rest_decides slot form i true l e h =
    sym (same_eq (run_alike slot form i (length form) l e (sym h) ∙ take_all (length form) form (omega arith)))
rest_decides slot form i false l e h = sym (part_differs slot form i (length form) l (omega arith) (sym h))
