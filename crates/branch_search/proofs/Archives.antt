-- The archive between passes and between searches: no point at all is one, it stays where its rows and the problem's
-- records stay, and with the weights and the limit of any search it is an archive of that search.
use Rattle.std.proofs.Common.{◌≡◌, ℕ, ◌+◌, ◌-◌, ◌*◌, ◌<◌, ◌≤◌, List, length, take, drop, sym, ap, ◌∙◌, subst, arith}
use Rattle.std.proofs.Common.{take-take}
use mathlib.Core.List.Memᴰ.{not-nil as in-none}
use Rattle.model.specs.Limits.{max_objectives, max_variables, max_points}
use Rattle.model.specs.Problems.{Problem}
use Rattle.model.specs.Frontiers.{Point}
use Rattle.model.specs.Archive.{weighted, Archived, Distinct}
use Rattle.layout.specs.Layout.{list_at, row_width, list_end}
use Rattle.rows.specs.Rows.{costs_in, list_in}
use Rattle.rows.proofs.RowPlaces.{listed_row}
use Rattle.rows.proofs.RowsKept.{copied_rows}
use Rattle.groups.specs.Sources.{source_in, source_problem}
use Rattle.groups.specs.declared.Task as DT
use Rattle.branch_search.specs.States.{rows_in, points_in, Between}

-- nothing is archived
pub empty_between : (q : Problem) (room : ℕ) (work : List ℕ) → Between q room work 0
unfolding list_in
empty_between q room work =
    record {
      few = omega arith;
      reached = λ a m. absurd (in-none m);
      apart = λ a b m n t. absurd (in-none m);
      distinct = tt;
    }

-- what a search has is an archive without its limit
pub archived_between :
    {q : Problem} {ws work : List ℕ} {room points limit : ℕ} → points ≤ room + 1 →
    Archived q ws (points_in q work points) limit → Distinct (points_in q work points) → Between q room work points
archived_between few h distinct =
    record { few = few; reached = h.reached; apart = h.apart; distinct = distinct }

-- and with any weights one again, under a limit that no sum is above
pub between_archived :
    {q : Problem} {work : List ℕ} {room points : ℕ} → Between q room work points → (ws : List ℕ) (limit : ℕ) →
    ((i : ℕ) → i < points → weighted ws (costs_in q.objectives work i) ≤ limit) →
    Archived q ws (points_in q work points) limit
between_archived {q} {work} {room} {points} b ws limit sums =
    record {
      reached = b.reached;
      apart = b.apart;
      within = λ a m.
          let (i, l, is) = listed_row q.objectives (length q.domains) work points a m in
          let costs : a.costs ≡ costs_in q.objectives work i = ap (λ (t : Point). t.costs) is in
          rw costs (sums i l);
    }

-- memory with the same rows
pub between_moved :
    {q : Problem} {work work' : List ℕ} {room points : ℕ} → q.objectives ≤ max_objectives →
    length q.domains ≤ max_variables → room ≤ max_points → rows_in work' ≡ rows_in work → Between q room work points →
    Between q room work' points
between_moved {q} {work} {work'} {room} {points} few small enough rows b =
    let inside : row_width * points ≤ list_end - list_at = omega (arith, b.few) in
    let front : (u : List ℕ) → take (row_width * points) (rows_in u) ≡ take (row_width * points) (drop list_at u) =
    λ u. take-take (row_width * points) (list_end - list_at) (drop list_at u) inside in
    let numbers : take (row_width * points) (drop list_at work') ≡ take (row_width * points) (drop list_at work) =
    sym (front work') ∙ ap (λ (u : List ℕ). take (row_width * points) u) rows ∙ front work in
    let same : points_in q work' points ≡ points_in q work points =
    copied_rows q.objectives (length q.domains) few small work' work 0 0 points numbers in
    record {
      few = b.few;
      reached = rw same b.reached;
      apart = rw same b.apart;
      distinct = rw same b.distinct;
    }

-- memory with the same records: the problem is the same
module _ (task : DT.Task) (ds s work work' : List ℕ)
    (source : source_in work' task.records ≡ source_in work task.records) where
  same_task : source_problem task ds s work' ≡ source_problem task ds s work
  same_task = rw source

  pub between_source :
      (rows : List ℕ) (points : ℕ) → Between (source_problem task ds s work) task.room rows points →
      Between (source_problem task ds s work') task.room rows points
  between_source rows points b = subst (λ (q : Problem). Between q task.room rows points) (sym same_task) b

  -- the zones and the plan may be others
  pub between_framed :
      (points : ℕ) → task.objectives ≤ max_objectives → length ds ≤ max_variables → task.room ≤ max_points →
      rows_in work' ≡ rows_in work → Between (source_problem task ds s work) task.room work points →
      Between (source_problem task ds s work') task.room work' points
  between_framed points few small enough rows b =
      between_source work' points (between_moved few small enough rows b)
