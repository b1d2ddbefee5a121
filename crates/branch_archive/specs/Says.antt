-- What taking a point in ensures: the archive covers it, and all that it covered before.
use Rattle.std.specs.Prelude.{◌≡◌, ◌⊎◌, true, ℕ, ◌+◌, ◌≤◌, take}
use mathlib.Core.List.{List, Memᴰ as In}
use Rattle.model.specs.Problems.{Problem}
use Rattle.model.specs.Frontiers.{Point, point}
use Rattle.model.specs.Core.{CoreReached}
use Rattle.model.specs.Archive.{weighted, Covered, Archived, Distinct, Follows}
use Rattle.rows.specs.Rows.{list_in, Framed}
use Rattle.branch_archive.specs.declared.Taken as DT

-- an archive and its limit, before the point y is met and after
abbrev pub Meets : List ℕ → List Point → ℕ → Point → List Point → ℕ → Type 0
Meets ws archive limit y archive' limit' =
    (q : Problem)
    → Archived q ws archive limit
    → CoreReached q y
    → weighted ws y.costs ≤ limit
    → Archived q ws archive' limit' × Follows ws archive limit archive' limit' × Covered ws archive' limit' y

-- the choice x with the costs v is met; the limit falls only where the archive is full
pub record Takes (p n room : ℕ) (ws v x : List ℕ) (points limit : ℕ) (work : List ℕ) (t : DT.Taken) (work' : List ℕ)
    : Type 0 where
  pub few : t.points ≤ room + 1
  pub frame : Framed work work'
  pub distinct : Distinct (list_in p n work' 0 t.points)
  pub meets : Meets ws (list_in p n work 0 points) limit (point (take p v) (take n x))
      (list_in p n work' 0 t.points) t.limit
  pub falls : (t.limit ≡ limit) ⊎ (t.points ≡ room + 1)
  pub stored : t.added ≡ true → In (point (take p v) (take n x)) (list_in p n work' 0 t.points)
