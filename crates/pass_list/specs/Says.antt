-- What finding a list ensures: it is in work memory, or it is longer than the room.
use Rattle.std.specs.Prelude.{◌≡◌, Bool, false, not, List, ℕ, ltb, length, Option, is_some, unwrap_or}
use Rattle.model.specs.Basics.{when}
use Rattle.model.specs.Problems.{Problem}
use Rattle.model.specs.Frontiers.{Point, frontier}
use Rattle.model.specs.Core.{core_frontier}
use Rattle.rows.specs.Rows.{list_in}

-- what was found: the count of a list's points, or none where the list is longer than the room
abbrev pub is_full : Option ℕ → Bool
is_full f = not (is_some f)

abbrev pub count_of : Option ℕ → ℕ
count_of f = unwrap_or f 0

-- the list fs is in work memory, or it is longer than the room
pub record FoundSays (p n : ℕ) (fs : List Point) (room : ℕ) (work work' : List ℕ) (f : Option ℕ) : Type 0 where
  pub full : is_full f ≡ ltb room (length fs)
  pub count : count_of f ≡ when (not (is_full f)) (length fs)
  pub list : is_full f ≡ false → list_in p n work' 0 (count_of f) ≡ fs
  pub long : length work' ≡ length work

-- of the list of a problem of the core
abbrev pub CoreFound : Problem → ℕ → List ℕ → List ℕ → Option ℕ → Type 0
CoreFound q room work work' f = FoundSays q.objectives (length q.domains) (core_frontier q) room work work' f

-- of a problem's frontier list, which callers pass to from the core's
abbrev pub FoundFor : Problem → ℕ → List ℕ → List ℕ → Option ℕ → Type 0
FoundFor q room work work' f = FoundSays q.objectives (length q.domains) (frontier q) room work work' f
