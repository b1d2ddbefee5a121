-- The merge as functions: the sums of two lists' points, and passes in list order over them.
-- Nobody has to believe it: proofs/Merging.antt shows that it gives the cut call's list.
use Rattle.std.specs.Prelude.{Bool, ◌&&◌, ◌||◌, List, [], ◌∷◌, ◌++◌, ℕ}
use Rattle.model.specs.Basics.{pick, keep_if}
use Rattle.model.specs.Vectors.{same, earlier, added}
use Rattle.model.specs.Frontiers.{Point, point}
use Rattle.model.specs.Core.{under}
use Rattle.model.specs.Search.{Held, nothing, just, matched}

-- costs and choices added: in a view's choice the other side's variables have 0
abbrev pub sum_of : Point → Point → Point
sum_of a b = point (added a.costs b.costs) (added a.choice b.choice)

-- the sums under the ceilings
unfoldable pub sums_with : List ℕ → Point → List Point → List Point
sums_with ceilings a [] = []
sums_with ceilings a (b ∷ bs) =
    keep_if (under (added a.costs b.costs) ceilings) (sum_of a b) (sums_with ceilings a bs)

unfoldable pub all_sums : List ℕ → List Point → List Point → List Point
all_sums ceilings [] bs = []
all_sums ceilings (a ∷ xs) bs = sums_with ceilings a bs ++ all_sums ceilings xs bs

-- list order: costs first, then choice
abbrev pub ahead : Point → Point → Bool
ahead x w = earlier x.costs w.costs || (same x.costs w.costs && earlier x.choice w.choice)

unfoldable pub nearer : Point → Held → Held
nearer x nothing = just x
nearer x (just w) = pick (ahead x w) (just x) (just w)

-- one pass: the least of some points that the list ps does not match
unfoldable pub least_left : List Point → List Point → Held → Held
least_left ps [] h = h
least_left ps (x ∷ xs) h = least_left ps xs (pick (matched x.costs ps) h (nearer x h))
