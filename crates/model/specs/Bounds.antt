-- The bound of a prefix: for each objective the sum of its records' least entries that agree with the prefix.
use Rattle.std.specs.Prelude.{Bool, true, false, ◌&&◌, List, [], ◌∷◌, ℕ, zero, suc, ◌+◌, ◌-◌, ◌*◌, min, eqb, ltb}
use Rattle.std.specs.Prelude.{length, get_or}
use Rattle.model.specs.Basics.{pick}
use Rattle.model.specs.Problems.{Table, Problem}
use Rattle.model.specs.Costs.{totals}

-- a prefix: values of their domains for variables 0, 1 and so on, at most for all
unfoldable pub prefix_ok : List ℕ → List ℕ → Bool
prefix_ok ds [] = true
prefix_ok [] (x ∷ xs) = false
prefix_ok (d ∷ ds) (x ∷ xs) = ltb x d && prefix_ok ds xs

-- a choice that goes on from a prefix: its completion
unfoldable pub agrees : List ℕ → List ℕ → Bool
agrees [] xs = true
agrees (p ∷ ps) [] = false
agrees (p ∷ ps) (x ∷ xs) = eqb p x && agrees ps xs

-- the least of f 0 to f n
unfoldable pub least_to : ℕ → (ℕ → ℕ) → ℕ
least_to zero f = f 0
least_to (suc n) f = min (least_to n f) (f (suc n))

-- the least entry over the values of a scope that agree with the prefix, after the index i of the variables before:
-- the prefix's value where it has one, else the least over the domain
unfoldable pub least_from : List ℕ → List ℕ → (ℕ → ℕ) → ℕ → List ℕ → ℕ
least_from ds pre entry i [] = entry i
least_from ds pre entry i (v ∷ vs) =
    pick (ltb v (length pre))
    (least_from ds pre entry (i * get_or ds v 0 + get_or pre v 0) vs)
    (least_to (get_or ds v 0 - 1) (λ a. least_from ds pre entry (i * get_or ds v 0 + a) vs))

unfoldable pub least_of : List ℕ → List ℕ → Table → ℕ
least_of ds pre t = least_from ds pre (λ i. get_or t.costs i 0) 0 t.scope

-- the bound of a prefix, for each objective
unfoldable pub bound_of : Problem → List ℕ → List ℕ
bound_of q pre = totals q (least_of q.domains pre)
