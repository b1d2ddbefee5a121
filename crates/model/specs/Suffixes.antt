-- The problem of the last variables in one objective (in the field a Russian doll),
-- and what its least cost adds to a bound.
-- Nobody has to believe it: proofs/Suffixes.antt shows that the sharper bound is still below every completion's cost.
use Rattle.std.specs.Prelude.{Bool, ◌&&◌, List, [], ◌∷◌, ◌++◌, ℕ, suc, ◌+◌, ◌-◌, ◌≤◌, ◌≡◌, true, eqb, length, get_or}
use Rattle.std.specs.Prelude.{replicate}
use Rattle.model.specs.Problems.{Table, Problem}
use Rattle.model.specs.Vectors.{added}
use Rattle.model.specs.Costs.{is_choice, cost_of, total}
use Rattle.model.specs.Bounds.{least_of, bound_of}
use Rattle.model.specs.Search.{Held, nothing, just}
use Rattle.model.specs.Views.{narrowed, within, kept}

-- the variables from k on as side 1
abbrev pub suffix_sides : ℕ → ℕ → List ℕ
suffix_sides n k = replicate k 0 ++ replicate (n - k) 1

-- the records over the variables from k on
abbrev pub in_suffix : ℕ → ℕ → Table → Bool
in_suffix n k t = within 1 (suffix_sides n k) t.scope

-- the problem of objective o and the variables from k on; the objectives before o cost nothing
unfoldable pub suffix_of : Problem → ℕ → ℕ → Problem
suffix_of q o k =
    let n = length q.domains in
    record {
      objectives = suc o;
      ceilings = replicate o 1 ++ (get_or q.ceilings o 0 ∷ []);
      domains = narrowed 1 (suffix_sides n k) q.domains;
      tables = kept (λ t. eqb t.objective o && in_suffix n k t) q.tables;
    }

-- its least cost, or the ceiling where no choice is under it
unfoldable pub least_cost : ℕ → ℕ → Held → ℕ
least_cost o c nothing = c
least_cost o c (just x) = get_or x.costs o 0

-- what that is more than the sum of its records' least entries
unfoldable pub gain_of : Problem → ℕ → ℕ → Held → ℕ
gain_of q o k h =
    least_cost o (get_or q.ceilings o 0) h - total o (least_of (suffix_of q o k).domains []) (suffix_of q o k).tables

-- the bound of a prefix, with the gains of the variables after it
abbrev pub sharper : Problem → (ℕ → List ℕ) → List ℕ → List ℕ
sharper q gains pre = added (bound_of q pre) (gains (length pre))

-- a gain that no choice undercuts
abbrev pub Gain : Problem → ℕ → ℕ → ℕ → Type 0
Gain q o k g =
    (y : List ℕ) → is_choice q.domains y ≡ true
    → total o (least_of q.domains []) (kept (in_suffix (length q.domains) k) q.tables) + g
    ≤ total o (cost_of q.domains y) (kept (in_suffix (length q.domains) k) q.tables)

pub record Gains (q : Problem) (gains : ℕ → List ℕ) : Type 0 where
  pub width : (k : ℕ) → k ≤ length q.domains → length (gains k) ≡ q.objectives
  pub sound : (o k : ℕ) → suc o ≤ q.objectives → k ≤ length q.domains → Gain q o k (get_or (gains k) o 0)
