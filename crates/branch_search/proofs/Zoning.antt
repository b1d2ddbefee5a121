-- The zones in memory: the first one, and splitting them at archived points.
use Rattle.std.proofs.Common.{◌≡◌, ℕ, ◌+◌, ◌<◌, ◌≤◌, List, ◌++◌, length, take, drop, sym, ◌∙◌, subst, inl, inr, ⊎_elim}
use Rattle.std.proofs.Common.{arith, length-append, length-drop, length-take-le, get_or-take}
use mathlib.Core.List.{Memᴰ as In}
use Rattle.model.specs.Basics.{All}
use Rattle.model.specs.Limits.{max_objectives, max_points}
use Rattle.model.specs.Problems.{Word}
use Rattle.model.specs.Frontiers.{Point}
use Rattle.model.specs.Archive.{Zoned}
use Rattle.model.proofs.Vectors.{at_most_true}
use Rattle.model.proofs.Zones.{zones_start, zones_none, zones_split, under_none}
use Rattle.layout.specs.Layout.{zones_end, list_end}
use Rattle.rows.specs.Rows.{costs_in, point_in, list_in, EachCost}
use Rattle.rows.proofs.RowNumbers.{costs_long}
use Rattle.rows.proofs.RowPlaces.{row_listed}
use Rattle.branch_archive.proofs.RowReads.{front_costs}
use Rattle.branch_directions.specs.Directions.{Sensible}
use Rattle.branch_directions.specs.declared.Directions as DD
use Rattle.branch_zones.specs.Zones.{corners_in, Measured, SplitAt, FirstZone}
use Rattle.branch_zones.proofs.ZoneRows.{corners_wide}
use Rattle.branch_pruning.specs.Tests.{zones_of}
use Rattle.branch_search.specs.Passes.{ZonesWritten, ZonesHold}
use Rattle.branch_search.proofs.Memory.{zones_costs, zones_rows, lent_front, lent_behind}

-- zones split at an archived point, as the function splits them
pub zoned_split : (p : ℕ) (ceilings ws : List ℕ) (archive : List Point) (limit : ℕ) (zones zones' : List (List ℕ))
    → ((t : List ℕ) → In t zones → length t ≡ p) → (z : Point) → In z archive → length z.costs ≡ p
    → SplitAt p z.costs zones zones' → Zoned p ceilings ws archive limit zones
    → Zoned p ceilings ws archive limit zones'
zoned_split p ceilings ws archive limit zones zones' wide z m long parts old =
    zones_split p ceilings ws archive limit zones wide z m long old zones'
    (λ t i. ⊎_elim (λ (t', n, k). inl (t', n, at_most_true t t' k))
    (λ each. inr (λ j l o. let (t', n, k) = each j l o in (t', n, at_most_true _ t' k))) (parts t i))

-- memory whose zones came back as z, with m of them
module _ (d : DD.Directions) (work z : List ℕ) (m : ℕ) (e : length z ≡ length (zones_of work))
    (memory : list_end ≤ length work) (measured : Measured d z m) where
  pub lent_long : length z ≡ zones_end
  lent_long = e ∙ length-take-le zones_end work (omega arith)

  pub lent_same : length (z ++ drop zones_end work) ≡ length work
  lent_same = omega (arith, length-append z (drop zones_end work), length-drop zones_end work, lent_long)

  pub lent_measured : Measured d (zones_of (z ++ drop zones_end work)) m
  lent_measured = rw (lent_front z (drop zones_end work) lent_long) measured

  pub lent_written : ZonesWritten d work (z ++ drop zones_end work) m
  lent_written = record {
    long = lent_same;
    behind = lent_behind z (drop zones_end work) lent_long;
    measured = lent_measured;
  }

-- the zones of all that is under the ceilings
first_zoned : (p : ℕ) (ceilings z : List ℕ) (m : ℕ) → p ≤ length ceilings → FirstZone p ceilings z m
    → (ws : List ℕ) (archive : List Point) (limit : ℕ) → Zoned p (take p ceilings) ws archive limit (corners_in p z 0 m)
unfolding corners_in
first_zoned p ceilings z m long (inl (one, is)) ws archive limit =
    rw (one, is) (zones_start p (take p ceilings) ws archive limit)
first_zoned p ceilings z m long (inr (none, (i, l, zero))) ws archive limit =
    let e : length (take p ceilings) ≡ p = length-take-le p ceilings long in
    rw none
    (zones_none p (take p ceilings) ws archive limit
    (λ v w. under_none v (take p ceilings) i (w ∙ sym e) (omega arith) (get_or-take p ceilings i 0 l ∙ zero)))

pub first_hold : (d : DD.Directions) (c : ℕ) (ceilings rows work z : List ℕ) (m : ℕ) → length z ≡ length (zones_of work)
    → list_end ≤ length work → d.objectives ≤ length ceilings → Measured d z m → FirstZone d.objectives ceilings z m
    → ZonesHold d c ceilings rows (z ++ drop zones_end work) m
first_hold d c ceilings rows work z m e memory long measured first n limit ws =
    rw (lent_front z (drop zones_end work) (lent_long d work z m e memory measured))
    (first_zoned d.objectives ceilings z m long first ws (list_in d.objectives n rows 0 c) limit)

-- the same points in memory of which only zones were written
pub hold_rows : (d : DD.Directions) (c : ℕ) (ceilings work work' work'' : List ℕ) (m t : ℕ)
    → ZonesWritten d work work' m
    → ZonesHold d c ceilings work' work'' t → ZonesHold d c ceilings work work'' t
hold_rows d c ceilings work work' work'' m t w h n limit ws =
    rw (zones_rows work work' w.long w.behind d.objectives n 0 c) at (h n limit ws)

pub written_trans : {d : DD.Directions} {one two three : List ℕ} {m t : ℕ} → ZonesWritten d one two m
    → ZonesWritten d two three t → ZonesWritten d one three t
written_trans f g = record { long = g.long ∙ f.long; behind = g.behind ∙ f.behind; measured = g.measured }

-- the costs of an archived point, read where zones were written
pub split_costs : (d : DD.Directions) (rows work row : List ℕ) (i m : ℕ) → Sensible d → ZonesWritten d rows work m
    → row ≡ costs_in max_objectives work i → take d.objectives row ≡ costs_in d.objectives rows i
split_costs d rows work row i m sensible w read =
    front_costs d.objectives work row i sensible.few read
    ∙ zones_costs rows work w.long w.behind d.objectives i

pub split_words : (d : DD.Directions) (c : ℕ) (rows work row : List ℕ) (i m : ℕ) → Sensible d
    → ZonesWritten d rows work m → row ≡ costs_in max_objectives work i → EachCost Word d.objectives rows c → i < c
    → All Word (take d.objectives row)
split_words d c rows work row i m sensible w read words l =
    subst (All Word) (sym (split_costs d rows work row i m sensible w read)) (words i l)

-- one more archived point: row i of the points of `rows`
module _ (d : DD.Directions) (c : ℕ) (rows work z row : List ℕ) (i m t : ℕ) (sensible : Sensible d)
    (memory : list_end ≤ length rows) (few : c ≤ max_points + 1) (inside : i < c) (w : ZonesWritten d rows work m)
    (read : row ≡ costs_in max_objectives work i) (measured : Measured d z t) (e : length z ≡ length (zones_of work))
    (parts : SplitAt d.objectives (take d.objectives row) (corners_in d.objectives (zones_of work) 0 m)
    (corners_in d.objectives z 0 t)) where
  enough : list_end ≤ length work
  enough = omega (arith, w.long)

  pub split_written : ZonesWritten d rows (z ++ drop zones_end work) t
  split_written = written_trans w (lent_written d work z t e enough measured)

  pub split_hold : (ceilings : List ℕ) → ZonesHold d c ceilings rows work m
      → ZonesHold d c ceilings rows (z ++ drop zones_end work) t
  split_hold ceilings h n limit ws =
      let p = d.objectives in
      rw (lent_front z (drop zones_end work) (lent_long d work z t e enough measured))
      (zoned_split p (take p ceilings) ws (list_in p n rows 0 c) limit (corners_in p (zones_of work) 0 m)
      (corners_in p z 0 t) (corners_wide sensible w.measured) (point_in p n rows i) (row_listed p n rows c i inside)
      (costs_long rows i p) (rw (split_costs d rows work row i m sensible w read) at parts) (h n limit ws))
