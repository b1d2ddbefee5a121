-- What listing a problem promises: for every input, what the model's definition of the call says; and what its steps
-- behind the search ensure.
use Rattle.std.specs.Prelude.{◌≡◌, List, ℕ, ◌*◌, ◌≤◌, min, length, replicate, Option, Some, None, Result, Ok, Err, IfOk}
use Rattle.model.specs.Basics.{pick, All}
use Rattle.model.specs.Limits.{max_points}
use Rattle.model.specs.Refusals.{Verdict}
use Rattle.model.specs.Reasons.{told, value_or}
use Rattle.model.specs.declared.Reason.TheVariants.{Full}
use Rattle.model.specs.declared.Refusal.{Refusal}
use Rattle.model.specs.Encoding.{Byte}
use Rattle.model.specs.Reading.{problem_of}
use Rattle.model.specs.Frontiers.{frontier}
use Rattle.model.specs.Calls.{over, divided, flat_costs, flat_choices, SolveOutcome, answers, work_after, solve_verdict}
use Rattle.model.specs.declared.Header as DM
use Rattle.layout.specs.Layout.{list_end}
use Rattle.rows.specs.Rows.{list_in}
use Rattle.rows_out.specs.Records.{RowsHold}
use Rattle.answers.specs.declared.Listed as DI

-- the plain call: its answer, and the three lent buffers on exit
pub record SolveSays (o : SolveOutcome) (costs' choices' work' : List ℕ) (r : Result ℕ Refusal) : Type 0 where
  pub verdict : told r ≡ o.verdict
  pub count : value_or 0 r ≡ o.count
  pub costs : costs' ≡ o.costs
  pub choices : choices' ≡ o.choices
  pub work : work' ≡ o.work

-- the room of flat buffers of these lengths, for points of a problem with this header
abbrev pub room_in : DM.Header → ℕ → ℕ → ℕ
room_in h costs choices = min (divided costs h.objectives) (min (divided choices h.variables) max_points)

-- 15: a list is longer than the room
abbrev pub too_long : Refusal
too_long = record { reason = Full; place = 0 }

-- the answer by what was found
abbrev pub found_answer : Option ℕ → Result ℕ Refusal
found_answer (Some k) = Ok k
found_answer None = Err too_long

-- what copying k rows to the flat buffers asks of them and of work memory
pub record CopyAsked (p n k : ℕ) (costs choices work : List ℕ) : Type 0 where
  pub hold : RowsHold p n k work
  pub memory : list_end ≤ length work
  pub costs_fit : k * p ≤ length costs
  pub choices_fit : k * n ≤ length choices

-- k rows are copied to the flat buffers, and work memory is zero
pub record CopiedOut (p n k : ℕ) (costs choices work costs' choices' work' : List ℕ) : Type 0 where
  pub costs_copied : costs' ≡ over (flat_costs (list_in p n work 0 k)) costs
  pub choices_copied : choices' ≡ over (flat_choices (list_in p n work 0 k)) choices
  pub cleared : work' ≡ replicate (length work) 0

-- a list in work memory by what was found
abbrev pub found_rows : DM.Header → Option ℕ → Result DI.Listed Refusal
found_rows h (Some k) = Ok (record { count = k; objectives = h.objectives; variables = h.variables })
found_rows h None = Err too_long

-- the verdict of the call for point records, by the records' number
abbrev pub list_verdict : List ℕ → ℕ → List ℕ → Verdict
list_verdict s room work = solve_verdict s work (min room max_points)

-- a list in work memory: all its points, no more than the room, and what copying it out asks
pub record ListHeld (s : List ℕ) (room : ℕ) (work' : List ℕ) (l : DI.Listed) : Type 0 where
  pub list : list_in l.objectives l.variables work' 0 l.count ≡ frontier (problem_of s)
  pub fits : l.count ≤ room
  pub hold : RowsHold l.objectives l.variables l.count work'

-- its verdict, the list where nothing is refused, what is left in work memory where something is, and what the type of
-- the problem's bytes says
pub record ListedSays (s : List ℕ) (room : ℕ) (work work' : List ℕ) (r : Result DI.Listed Refusal) : Type 0 where
  pub verdict : told r ≡ list_verdict s room work
  pub held : IfOk r (ListHeld s room work')
  pub left : pick (answers (list_verdict s room work)) (replicate (length work') 0) work'
      ≡ work_after (list_verdict s room work) work
  pub long : length work' ≡ length work
  pub bytes : All Byte s
