-- The cut: sides, halves, and the list that is made from the halves' frontier lists.
-- The reference, section 10, says it in words.
use Rattle.std.specs.Prelude.{Bool, true, false, ◌&&◌, ◌||◌, not, List, [], ◌∷◌, ◌++◌, ℕ, zero, suc, ◌+◌, eqb, leb}
use Rattle.std.specs.Prelude.{length, get_or, drop}
use Rattle.model.specs.Basics.{pick, when, keep_if}
use Rattle.model.specs.Refusals.{linked, Verdict, verdict, accepted}
use Rattle.model.specs.Problems.{Table, Problem}
use Rattle.model.specs.Vectors.{at_most, added}
use Rattle.model.specs.Frontiers.{Point, point, best, frontier}

-- a side list gives each variable 0 or 1
unfoldable pub all_sides : List ℕ → Bool
all_sides [] = true
all_sides (s ∷ ss) = leb s 1 && all_sides ss

unfoldable pub sides_ok : Problem → List ℕ → Bool
sides_ok q ss = eqb (length ss) (length q.domains) && all_sides ss

-- a scope that has a variable of side k; one that has both sides
unfoldable pub has_side : ℕ → List ℕ → List ℕ → Bool
has_side k ss [] = false
has_side k ss (v ∷ vs) = eqb (get_or ss v 0) k || has_side k ss vs

unfoldable pub crosses : List ℕ → Table → Bool
crosses ss t = has_side 0 ss t.scope && has_side 1 ss t.scope

-- number 14 at the place of the first record that crosses; the records and their places
unfoldable pub linked_verdict : List ℕ → List Table → List ℕ → Verdict
linked_verdict ss [] ps = accepted
linked_verdict ss (t ∷ ts) ps = pick (crosses ss t) (verdict linked (get_or ps 0 0)) (linked_verdict ss ts (drop 1 ps))

-- no record crosses
unfoldable pub uncrossed : List ℕ → List Table → Bool
uncrossed ss [] = true
uncrossed ss (t ∷ ts) = not (crosses ss t) && uncrossed ss ts

-- the elements of a list that stand at variables of side k
unfoldable pub on_side : ℕ → List ℕ → List ℕ → List ℕ
on_side k [] xs = []
on_side k (s ∷ ss) [] = []
on_side k (s ∷ ss) (x ∷ xs) = keep_if (eqb s k) x (on_side k ss xs)

-- a variable's number in its half: the variables of side k before it
unfoldable pub new_number : ℕ → List ℕ → ℕ → ℕ
new_number k [] v = 0
new_number k (s ∷ ss) zero = 0
new_number k (s ∷ ss) (suc v) = when (eqb s k) 1 + new_number k ss v

unfoldable pub renumbered : ℕ → List ℕ → List ℕ → List ℕ
renumbered k ss [] = []
renumbered k ss (v ∷ vs) = new_number k ss v ∷ renumbered k ss vs

-- the records of half k: those whose scope lies there; half 0 has all of arity 0
unfoldable pub in_half : ℕ → List ℕ → List ℕ → Bool
in_half k ss [] = eqb k 0
in_half k ss (v ∷ vs) = eqb (get_or ss v 0) k

abbrev pub half_table : ℕ → List ℕ → Table → Table
half_table k ss t = record { objective = t.objective; scope = renumbered k ss t.scope; costs = t.costs }

unfoldable pub half_tables : ℕ → List ℕ → List Table → List Table
half_tables k ss [] = []
half_tables k ss (t ∷ ts) = keep_if (in_half k ss t.scope) (half_table k ss t) (half_tables k ss ts)

-- half k: its variables in order, its records, all ceilings
unfoldable pub half : ℕ → Problem → List ℕ → Problem
half k q ss =
    record {
      objectives = q.objectives;
      ceilings = q.ceilings;
      domains = on_side k ss q.domains;
      tables = half_tables k ss q.tables;
    }

-- "merged choice" (reference, section 10): each variable has the value of its half's choice
unfoldable pub merged : List ℕ → List ℕ → List ℕ → List ℕ
merged [] xs ys = []
merged (zero ∷ ss) [] ys = []
merged (zero ∷ ss) (x ∷ xs) ys = x ∷ merged ss xs ys
merged (suc s ∷ ss) xs [] = []
merged (suc s ∷ ss) xs (y ∷ ys) = y ∷ merged ss xs ys

-- the sums of one vector of each half's list that pass a test, with the merged choices
abbrev pub pair_of : List ℕ → Point → Point → Point
pair_of ss a b = point (added a.costs b.costs) (merged ss a.choice b.choice)

unfoldable pub pairs_with : (List ℕ → Bool) → List ℕ → Point → List Point → List Point
pairs_with test ss a [] = []
pairs_with test ss a (b ∷ bs) =
    keep_if (test (added a.costs b.costs)) (pair_of ss a b) (pairs_with test ss a bs)

unfoldable pub all_pairs : (List ℕ → Bool) → List ℕ → List Point → List Point → List Point
all_pairs test ss [] bs = []
all_pairs test ss (a ∷ xs) bs = pairs_with test ss a bs ++ all_pairs test ss xs bs

-- the cut call's list: the best of all pairs that keep the ceilings
unfoldable pub cut_list : Problem → List ℕ → List Point
cut_list q ss =
    best (all_pairs (λ c. at_most c q.ceilings) ss (frontier (half 0 q ss)) (frontier (half 1 q ss)))

abbrev pub half_size : ℕ → Problem → List ℕ → ℕ
half_size k q ss = length (frontier (half k q ss))

-- the sides exchanged; a byte that is no side stays
unfoldable pub other_side : ℕ → ℕ
other_side zero = 1
other_side (suc zero) = 0
other_side (suc (suc s)) = suc (suc s)

unfoldable pub exchanged : List ℕ → List ℕ
exchanged [] = []
exchanged (s ∷ ss) = other_side s ∷ exchanged ss
