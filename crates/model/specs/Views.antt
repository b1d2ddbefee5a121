-- A part of a problem, seen without writing it out: the variables of one side keep their domains and the others have
-- the one value 0; the records over that side stay as they are. Nobody has to believe it: proofs/Views.antt shows that
-- its list is that of the half.
use Rattle.std.specs.Prelude.{Bool, true, ◌&&◌, List, [], ◌∷◌, ℕ, eqb, get_or, drop}
use Rattle.model.specs.Basics.{pick, keep_if}
use Rattle.model.specs.Problems.{Table, Problem}
use Rattle.model.specs.Frontiers.{Point, point}
use Rattle.model.specs.Cuts.{in_half}

-- the domain sizes that side k leaves
unfoldable pub narrowed : ℕ → List ℕ → List ℕ → List ℕ
narrowed k [] ds = []
narrowed k (s ∷ ss) [] = []
narrowed k (s ∷ ss) (d ∷ ds) = pick (eqb s k) d 1 ∷ narrowed k ss ds

-- a scope that lies on side k; one without variables lies on side 0
unfoldable pub all_on : ℕ → List ℕ → List ℕ → Bool
all_on k ss [] = true
all_on k ss (v ∷ vs) = eqb (get_or ss v 0) k && all_on k ss vs

abbrev pub within : ℕ → List ℕ → List ℕ → Bool
within k ss vs = in_half k ss vs && all_on k ss vs

-- the records that pass a test
unfoldable pub kept : (Table → Bool) → List Table → List Table
kept f [] = []
kept f (t ∷ ts) = keep_if (f t) t (kept f ts)

unfoldable pub view : ℕ → Problem → List ℕ → Problem
view k q ss =
    record {
      objectives = q.objectives;
      ceilings = q.ceilings;
      domains = narrowed k ss q.domains;
      tables = kept (λ t. within k ss t.scope) q.tables;
    }

-- a half's choice as one of the view: 0 for the other side's variables
unfoldable pub spread : ℕ → List ℕ → List ℕ → List ℕ
spread k [] xs = []
spread k (s ∷ ss) xs = pick (eqb s k) (get_or xs 0 0 ∷ spread k ss (drop 1 xs)) (0 ∷ spread k ss xs)

unfoldable pub spread_all : ℕ → List ℕ → List Point → List Point
spread_all k ss [] = []
spread_all k ss (p ∷ ps) = point p.costs (spread k ss p.choice) ∷ spread_all k ss ps
