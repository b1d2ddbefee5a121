-- Short ways to write a row: lent buffers by their lengths, outcomes by the points or the number expected.
use mathlib.Core.Bool.{Bool, true, false}
use mathlib.Core.List.{List, [], ◌∷◌, ◌++◌}
use Prim.Native.Nat.{ℕ, zero, suc, ◌-◌}
use lib.ListN.{length, replicate}
use Rattle.model.specs.Basics.{pick}
use Rattle.model.specs.Refusals.{Verdict, verdict}
use Rattle.model.specs.Frontiers.{Point, point}
use Rattle.model.specs.Calls.{BoundOutcome}
use Rattle.model.proofs.ExampleRow.{Row}

-- What a buffer of n held before: at each element the number of elements from there on, so that no two are alike.
abbrev pub held : ℕ → List ℕ
held zero = []
held (suc n) = let t = held n in suc n ∷ t

abbrev pub held_points : ℕ → List Point
held_points zero = []
held_points (suc n) = point (replicate 4 (suc n)) (replicate 24 (suc n)) ∷ held_points n

-- Lent buffers: the lengths of cost buffer, choice buffer and point list; the work buffer.
pub record Lent : Type 0 where
  pub costs : ℕ
  pub choices : ℕ
  pub points : ℕ
  pub work : List ℕ

-- a work buffer that just suffices: a definition of its own, so that it is computed once
abbrev pub enough : List ℕ
enough = held 8192

abbrev pub lent : ℕ → ℕ → ℕ → Lent
lent c x p = record { costs = c; choices = x; points = p; work = enough }

abbrev pub lent_work : List ℕ → Lent
lent_work work = record { costs = 13; choices = 17; points = 5; work = work }

abbrev pub usual : Lent
usual = lent_work enough

abbrev short_work : Lent
short_work = lent_work (held 3)

-- Expected of a call that writes: its verdict, the points written, whether the work buffer is zero.
pub record Answer : Type 0 where
  pub verdict : Verdict
  pub points : List Point
  pub zeroed : Bool

abbrev pub lists : List Point → Answer
lists ps = record { verdict = verdict 0 0; points = ps; zeroed = true }

abbrev pub refuses : ℕ → ℕ → Answer
refuses n at = record { verdict = verdict n at; points = []; zeroed = false }

abbrev pub full : Answer
full = record { verdict = verdict 15 0; points = []; zeroed = true }

-- expected of the bound call; numbers with zeros up to n
abbrev pub filled : ℕ → List ℕ → List ℕ
filled zero xs = []
filled (suc n) [] = 0 ∷ filled n []
filled (suc n) (x ∷ xs) = x ∷ filled n xs

abbrev pub bounds : List ℕ → BoundOutcome
bounds xs = record { verdict = verdict 0 0; least = filled 4 xs }

abbrev pub no_bound : ℕ → ℕ → BoundOutcome
no_bound n at = record { verdict = verdict n at; least = filled 4 [] }

-- points one after the other, and as records
abbrev pub costs_in : List Point → List ℕ
costs_in [] = []
costs_in (p ∷ ps) = p.costs ++ costs_in ps

abbrev pub choices_in : List Point → List ℕ
choices_in [] = []
choices_in (p ∷ ps) = p.choice ++ choices_in ps

abbrev pub records_in : List Point → List Point
records_in [] = []
records_in (p ∷ ps) = point (filled 4 p.costs) (filled 24 p.choice) ∷ records_in ps

-- a buffer of n after xs were written to its start; a work buffer after a call
abbrev pub written : ℕ → List ℕ → List ℕ
written n xs = xs ++ held (n - length xs)

abbrev pub work_left : Answer → List ℕ → List ℕ
work_left a work = pick a.zeroed (replicate (length work) 0) work

-- A row in general: what is lent; bytes, sides, prefix; the answers of the plain call, the point-record call and the
-- cut call; the half sizes; the bound.
abbrev pub row : Lent → List ℕ → List ℕ → List ℕ → Answer → Answer → Answer → ℕ → ℕ → BoundOutcome → Row
row l s sides prefix plain list cut first second bound =
    record {
      bytes = s;
      sides = sides;
      prefix = prefix;
      costs = held l.costs;
      choices = held l.choices;
      points = held_points l.points;
      work = l.work;
      solved = record {
        verdict = plain.verdict;
        count = length plain.points;
        costs = written l.costs (costs_in plain.points);
        choices = written l.choices (choices_in plain.points);
        work = work_left plain l.work;
      };
      listed = record {
        verdict = list.verdict;
        count = length list.points;
        points = records_in list.points ++ held_points (l.points - length list.points);
        work = work_left list l.work;
      };
      cut = record {
        verdict = cut.verdict;
        count = length cut.points;
        first_half = first;
        second_half = second;
        costs = written l.costs (costs_in cut.points);
        choices = written l.choices (choices_in cut.points);
        work = work_left cut l.work;
      };
      bound = bound;
    }

-- all calls answer and list the same points: what is lent; bytes, sides, prefix; the points; the half sizes; the bound
abbrev pub answered : Lent → List ℕ → List ℕ → List ℕ → List Point → ℕ → ℕ → List ℕ → Row
answered l s sides prefix ps first second least =
    row l s sides prefix (lists ps) (lists ps) (lists ps) first second (bounds least)

-- all but the cut call answer, and it refuses with a number and a place
abbrev pub uncut : List ℕ → List ℕ → List ℕ → List Point → ℕ → ℕ → List ℕ → Row
uncut s sides prefix ps n at least = row usual s sides prefix (lists ps) (lists ps) (refuses n at) 0 0 (bounds least)

-- all calls refuse the bytes, also before a short work buffer, wrong sides and a wrong prefix
abbrev pub unread : List ℕ → ℕ → ℕ → Row
unread s n at = row short_work s (2 ∷ []) (8 ∷ []) (refuses n at) (refuses n at) (refuses n at) 0 0 (no_bound n at)

-- only the bound call answers, since the work buffer is short: bytes, prefix, what comes out
abbrev pub only_bound : List ℕ → List ℕ → BoundOutcome → Row
only_bound s prefix bound = row short_work s (2 ∷ []) prefix (refuses 12 0) (refuses 12 0) (refuses 12 0) 0 0 bound
