-- From the list in work memory the answer of the call for point records.
use mathlib.Core.Path.{◌≡◌, refl, sym, ap, ◌∙◌}
use mathlib.Core.Bool.{false}
use mathlib.Core.List.{List, [], ◌∷◌, ◌++◌}
use Prim.Native.Nat.{ℕ, zero, suc, min}
use lib.ListN.{length, drop, replicate}
use Rattle.model.specs.Limits.{max_points}
use Rattle.model.specs.Frontiers.{Point}
use Rattle.model.specs.Refusals.{Verdict, accepted}
use Rattle.model.specs.Reasons.{number_of}
use Rattle.model.specs.declared.Refusal.{Refusal}
use Rattle.model.proofs.Reasons.{number_refuses}
use Rattle.model.specs.Calls.{over, point_records, answers, work_after, solve_verdict, list_outcome}
use Rattle.std.specs.Prelude.{Ok, Err}
use Rattle.model.specs.declared.Point as DP
use Rattle.rows.specs.Rows.{list_in}
use Rattle.rows.proofs.RowParts.{rows_length}
use Rattle.rows_out.specs.Records.{record_of, records_of}
use Rattle.answers.specs.declared.Listed as DI
use Rattle.answers.specs.Says.{list_verdict, ListedSays}
use Rattle.frontier.specs.Says.{as_point, as_points, ListExports}

-- records as points: how many, one list over another, and those of points
points_count : (rs : List DP.Point) → length (as_points rs) ≡ length rs
unfolding as_points
points_count [] = refl
points_count (r ∷ rs) = ap suc (points_count rs)

points_append : (rs qs : List DP.Point) → as_points (rs ++ qs) ≡ as_points rs ++ as_points qs
unfolding as_points
points_append [] qs = refl
points_append (r ∷ rs) qs = ap (◌∷◌ (as_point r)) (points_append rs qs)

points_drop : (k : ℕ) (rs : List DP.Point) → as_points (drop k rs) ≡ drop k (as_points rs)
unfolding as_points
points_drop zero rs = refl
points_drop (suc k) [] = refl
points_drop (suc k) (r ∷ rs) = points_drop k rs

points_over : (rs old : List DP.Point) → as_points (over rs old) ≡ over (as_points rs) (as_points old)
unfolding over
points_over rs old = points_append rs (drop (length rs) old) ∙ rw (points_drop (length rs) old, points_count rs)

points_of : (ps : List Point) → as_points (records_of ps) ≡ point_records ps
unfolding as_points records_of point_records
points_of [] = refl
points_of (p ∷ ps) = ap (◌∷◌ (as_point (record_of p))) (points_of ps)

-- a refusal leaves the records as they were
pub list_refused : (s w w1 : List ℕ) (old : List DP.Point) (r : Refusal) → ListedSays s (length old) w w1 (Err r)
    → ListExports s (list_outcome s (as_points old) w) old w1 (number_of r.reason) r.place 0
unfolding list_outcome
list_refused s w w1 old r says =
    let v = list_verdict s (length old) w in
    let same : solve_verdict s w (min (length (as_points old)) max_points) ≡ v = rw (points_count old) in
    let refuses : answers v ≡ false = rw (← says.verdict) (number_refuses r.reason) in
    record {
      bytes = says.bytes;
      number = rw same (ap (λ (x : Verdict). x.number) says.verdict);
      place = rw same (ap (λ (x : Verdict). x.place) says.verdict);
      count = rw (same, refuses) refl;
      points = rw (same, refuses) refl;
      work = rw same (rw refuses at says.left);
    }

-- the records are written from the list in work memory, and work memory is cleared
pub list_end_lem : (s w w1 w2 : List ℕ) (old new : List DP.Point) (l : DI.Listed)
    → ListedSays s (length old) w w1 (Ok l)
    → new ≡ over (records_of (list_in l.objectives l.variables w1 0 l.count)) old → w2 ≡ replicate (length w1) 0
    → ListExports s (list_outcome s (as_points old) w) new w2 0 0 l.count
unfolding list_outcome
list_end_lem s w w1 w2 old new l says e z =
    let v = list_verdict s (length old) w in
    let same : solve_verdict s w (min (length (as_points old)) max_points) ≡ accepted =
    rw (points_count old) (sym says.verdict) in
    let left : replicate (length w1) 0 ≡ work_after accepted w = rw (← says.verdict) at says.left in
    record {
      bytes = says.bytes;
      number = rw same refl;
      place = rw same refl;
      count = rw same (sym (rows_length l.objectives l.variables w1 0 l.count) ∙ ap length says.held.list);
      points =
          rw same
          (ap as_points e
          ∙ points_over _ old
          ∙ ap (λ ps. over ps (as_points old)) (points_of _ ∙ ap point_records says.held.list));
      work = rw same (z ∙ left);
    }
