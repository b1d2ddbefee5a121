-- The cost of a complete choice: the table entry that each record gives, which may forbid it, and the sum over an
-- objective's records.
use Rattle.std.specs.Prelude.{Bool, true, false, ◌&&◌, ◌||◌, List, [], ◌∷◌, ℕ, zero, suc, ◌+◌, ◌*◌, eqb, ltb, get_or}
use Rattle.model.specs.Basics.{when}
use Rattle.model.specs.Problems.{Table, Problem}

-- a complete choice: a value of its domain for each variable
unfoldable pub is_choice : List ℕ → List ℕ → Bool
is_choice [] [] = true
is_choice [] (x ∷ xs) = false
is_choice (d ∷ ds) [] = false
is_choice (d ∷ ds) (x ∷ xs) = ltb x d && is_choice ds xs

-- where a table has the entry for a choice, after the index i of the variables before:
-- the variable that the scope names last runs fastest
unfoldable pub entry_from : ℕ → List ℕ → List ℕ → List ℕ → ℕ
entry_from i ds [] xs = i
entry_from i ds (v ∷ vs) xs = entry_from (i * get_or ds v 0 + get_or xs v 0) ds vs xs

unfoldable pub cost_of : List ℕ → List ℕ → Table → ℕ
cost_of ds xs t = get_or t.costs (entry_from 0 ds t.scope xs) 0

-- the sum of what objective o's records give, each by f
unfoldable pub total : ℕ → (Table → ℕ) → List Table → ℕ
total o f [] = 0
total o f (t ∷ ts) = when (eqb t.objective o) (f t) + total o f ts

-- one such sum for each of p objectives, from o on
unfoldable pub totals_from : ℕ → ℕ → (Table → ℕ) → List Table → List ℕ
totals_from zero o f ts = []
totals_from (suc p) o f ts = total o f ts ∷ totals_from p (suc o) f ts

unfoldable pub totals : Problem → (Table → ℕ) → List ℕ
totals q f = totals_from q.objectives 0 f q.tables

-- the entry that forbids its combination, under every ceiling; whether some record gives it, each by f
abbrev pub forbidden : ℕ
forbidden = 4294967295

unfoldable pub meets_forbidden : (Table → ℕ) → List Table → Bool
meets_forbidden f [] = false
meets_forbidden f (t ∷ ts) = eqb (f t) forbidden || meets_forbidden f ts

-- the cost vector of a choice
unfoldable pub costs_of : Problem → List ℕ → List ℕ
costs_of q xs = totals q (cost_of q.domains xs)
