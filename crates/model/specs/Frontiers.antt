-- The frontier list, with its earliest choices, of the choices that pass a test; a problem's own test is that they are
-- consistent; and what makes a list the frontier list.
use Rattle.std.specs.Prelude.{◌≡◌, Bool, true, false, ◌&&◌, ◌||◌, not, ℕ, zero, suc}
use mathlib.Core.List.{List, [], ◌∷◌, ◌++◌, Memᴰ as In}
use Rattle.model.specs.Basics.{pick, keep_if}
use Rattle.model.specs.Problems.{Problem}
use Rattle.model.specs.Vectors.{at_most, same, beats, earlier}
use Rattle.model.specs.Costs.{is_choice, cost_of, meets_forbidden, costs_of}

-- "consistent" (reference, section 2): no forbidden entry is met, and each cost is at most its ceiling
unfoldable pub consistent : Problem → List ℕ → Bool
consistent q xs =
    not (meets_forbidden (cost_of q.domains xs) q.tables) && at_most (costs_of q xs) q.ceilings

-- a point: a cost vector and a choice that reaches it
pub record Point : Type 0 where
  pub costs : List ℕ
  pub choice : List ℕ

abbrev pub point : List ℕ → List ℕ → Point
point c x = record { costs = c; choice = x }

-- the points of a list that none in `all` beats
unfoldable pub some_beats : List ℕ → List Point → Bool
some_beats c [] = false
some_beats c (p ∷ ps) = beats p.costs c || some_beats c ps

unfoldable pub unbeaten : List Point → List Point → List Point
unbeaten all [] = []
unbeaten all (p ∷ ps) = keep_if (not (some_beats p.costs all)) p (unbeaten all ps)

-- in rising order of costs; of equal costs once, with the earlier choice
unfoldable pub put : Point → List Point → List Point
put x [] = x ∷ []
put x (p ∷ ps) =
    pick (same x.costs p.costs)
    (pick (earlier x.choice p.choice) x p ∷ ps)
    (pick (earlier x.costs p.costs) (x ∷ p ∷ ps) (p ∷ put x ps))

unfoldable pub sorted : List Point → List Point
sorted [] = []
sorted (p ∷ ps) = put p (sorted ps)

-- the best of some points
unfoldable pub best : List Point → List Point
best ps = sorted (unbeaten ps ps)

-- all choices, and the points of those that pass a test
unfoldable pub with_first : ℕ → List (List ℕ) → List (List ℕ)
with_first x [] = []
with_first x (c ∷ cs) = (x ∷ c) ∷ with_first x cs

unfoldable pub firsts_from : ℕ → ℕ → List (List ℕ) → List (List ℕ)
firsts_from zero x cs = []
firsts_from (suc n) x cs = with_first x cs ++ firsts_from n (suc x) cs

unfoldable pub choices : List ℕ → List (List ℕ)
choices [] = [] ∷ []
choices (d ∷ ds) = firsts_from d 0 (choices ds)

unfoldable pub points_by : (List ℕ → Bool) → Problem → List (List ℕ) → List Point
points_by test q [] = []
points_by test q (x ∷ xs) = keep_if (test x) (point (costs_of q x) x) (points_by test q xs)

-- the best of them
unfoldable pub frontier_by : (List ℕ → Bool) → Problem → List Point
frontier_by test q = best (points_by test q (choices q.domains))

-- the frontier list: the best of the consistent choices
abbrev pub points_from : Problem → List (List ℕ) → List Point
points_from q xs = points_by (consistent q) q xs

abbrev pub frontier : Problem → List Point
frontier q = frontier_by (consistent q) q

-- What makes a list the frontier list.
-- a choice that passes the test, with its costs; a consistent one
pub record ReachedBy (test : List ℕ → Bool) (q : Problem) (p : Point) : Type 0 where
  pub complete : is_choice q.domains p.choice ≡ true
  pub allowed : test p.choice ≡ true
  pub exact : p.costs ≡ costs_of q p.choice

abbrev pub Reached : Problem → Point → Type 0
Reached q p = ReachedBy (consistent q) q p

unfoldable pub rising : List Point → Bool
rising [] = true
rising (p ∷ []) = true
rising (p ∷ r ∷ ps) = earlier p.costs r.costs && rising (r ∷ ps)

pub record IsFrontier (q : Problem) (ps : List Point) : Type 0 where
  pub reached : (p : Point) → In p ps → Reached q p
  pub none_beats : (p r : Point) → In p ps → Reached q r → beats r.costs p.costs ≡ false
  pub all_matched : (r : Point) → Reached q r → (p : Point) × In p ps × (at_most p.costs r.costs ≡ true)
  pub in_order : rising ps ≡ true
  pub earliest : (p r : Point) → In p ps → Reached q r → r.costs ≡ p.costs → earlier r.choice p.choice ≡ false
