-- The numbers of a zone's part, as the code makes them: a front of them, and that they are words.
use mathlib.Core.Path.{◌≡◌, sym, ap, ◌∙◌}
use mathlib.Core.List.{List}
use Prim.Native.Nat.{ℕ, ◌-◌, ◌<◌}
use native.Mathlib.Omega.{arith}
use lib.ListN.{get_or, take, set}
use lib.Seq.{get_or-take, take-set-lt}
use Rattle.model.specs.Basics.{All}
use Rattle.model.specs.Problems.{Word}
use Rattle.model.specs.Archive.{below}
use Rattle.model.proofs.Elements.{all_at, all_set}

pub part_front : (p : ℕ) (t z : List ℕ) (j : ℕ) → j < p → take p (below t z j) ≡ below (take p t) (take p z) j
part_front p t z j l =
    take-set-lt p t j (get_or z j 0 - 1) l ∙ ap (λ (c : ℕ). set (take p t) j (c - 1)) (sym (get_or-take p z j 0 l))

pub part_words : (t z : List ℕ) (j : ℕ) → All Word t → All Word z → All Word (below t z j)
part_words t z j h k = all_set Word t j (get_or z j 0 - 1) h (omega (arith, all_at Word z k j 0 (omega arith)))
