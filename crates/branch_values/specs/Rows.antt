-- The bounds of a partial choice with each value of its next variable, from rows of what that value's bucket holds: the
-- bound so far, and what the bucket holds beyond what it sent.
use Rattle.std.specs.Prelude.{List, ℕ, ◌+◌, ◌-◌, ◌*◌, ◌≤◌, ◌<◌, get_or}
use Rattle.branch_directions.specs.Directions.{width_of}
use Rattle.branch_directions.specs.declared.Directions as DD
use Rattle.layout.specs.Places.{message_end}
use Rattle.branch_buckets.specs.Bounds.{span_at}
use Rattle.branch_buckets.specs.Content.{Filled, Summed}

-- the first number that does not fit 64 bits
abbrev pub wide_end : ℕ
wide_end = 18446744073709551616

-- in w directions no more was sent than the bucket holds with value a, and nothing wraps
abbrev pub Holding : ℕ → List ℕ → List ℕ → List ℕ → ℕ → Type 0
Holding w acc away rows a =
    (j : ℕ) → j < w
    → (get_or away j 0 ≤ get_or rows (8 * a + j) 0) × (get_or acc j 0 + get_or rows (8 * a + j) 0 < wide_end)

-- the bound with value a, in direction j
abbrev pub next_bound : List ℕ → List ℕ → List ℕ → ℕ → ℕ → ℕ
next_bound acc away rows a j = get_or acc j 0 + (get_or rows (8 * a + j) 0 - get_or away j 0)

-- the bucket of position k, for each value of its variable v, and what it sends
abbrev pub Bucket :
    (d : DD.Directions) (ds s plan : List ℕ) (k v : ℕ) (x rows : List ℕ) → Type 0
Bucket d ds s plan k v x rows = Filled d ds s plan (span_at plan k) v x rows

abbrev pub Away : DD.Directions → List ℕ → ℕ → List ℕ → List ℕ → Type 0
Away d plan k x away = Summed (width_of d) plan (message_end plan (k + 1)) (message_end plan k) x away
