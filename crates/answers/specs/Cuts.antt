-- What the cut promises: for every input, what the model's definition of the call says; and what it refuses and finds.
use Rattle.std.specs.Prelude.{◌≡◌, ◌≤◌, not, ◌||◌, List, ℕ, ltb, length, Option, Some, None, is_some, IfSome}
use Rattle.std.specs.Prelude.{Result, Ok, Err}
use Rattle.model.specs.Limits.{max_points}
use Rattle.model.specs.Refusals.{Verdict, first}
use Rattle.model.specs.Reasons.{told, value_or}
use Rattle.model.specs.declared.Refusal.{Refusal}
use Rattle.model.specs.Problems.{Problem}
use Rattle.model.specs.Reading.{verdict_of, problem_of, places_of}
use Rattle.model.specs.Frontiers.{frontier}
use Rattle.model.specs.Cuts.{linked_verdict, half_size}
use Rattle.model.specs.Calls.{CutOutcome, sides_verdict}
use Rattle.rows.specs.Rows.{list_in}
use Rattle.answers.specs.declared.Halves as DH
use Rattle.answers.specs.declared.Lists as DL
use Rattle.answers.specs.Early.{short_of}
use Rattle.answers.specs.Says.{too_long}

-- what the cut call refuses before it searches, with k numbers of work memory: 1 to 11, 12, 13, and 14 with the place
-- of the first linked record
unfoldable pub cut_refusal : List ℕ → List ℕ → ℕ → Verdict
cut_refusal s sides k =
    let q = problem_of s in
    let linked = linked_verdict sides q.tables (places_of s) in
    first (verdict_of s) (first (short_of k) (first (sides_verdict q sides) linked))

-- what is told of the halves where something is refused
abbrev pub no_halves : DH.Halves
no_halves = record { count = 0; first = 0; second = 0 }

-- the frontier list is in work memory, or it is longer than the room or a half's list longer than a list may be; and
-- how many points each half has
pub record ListsHeld (q : Problem) (sides work' : List ℕ) (l : DL.Lists) : Type 0 where
  pub count : l.count ≡ length (frontier q)
  pub first : l.first ≡ half_size 0 q sides
  pub second : l.second ≡ half_size 1 q sides
  pub list : list_in q.objectives (length q.domains) work' 0 l.count ≡ frontier q

pub record CutFound (q : Problem) (sides : List ℕ) (room : ℕ) (work work' : List ℕ) (f : Option DL.Lists) : Type 0 where
  pub full : not (is_some f)
      ≡ (ltb max_points (half_size 0 q sides)
      || (ltb max_points (half_size 1 q sides) || ltb room (length (frontier q))))
  pub lists : IfSome f (ListsHeld q sides work')
  pub long : length work' ≡ length work

-- how many points there are to copy out
abbrev pub points_in : Option DL.Lists → ℕ
points_in (Some l) = l.count
points_in None = 0

-- none of the lists that were found is longer than a list may be
abbrev pub FewEach : Option DL.Lists → Type 0
FewEach f = IfSome f (λ l. (l.count ≤ max_points) × (l.first ≤ max_points) × (l.second ≤ max_points))

-- the answer by what was found
abbrev pub found_halves : Option DL.Lists → Result DH.Halves Refusal
found_halves (Some l) = Ok (record { count = l.count; first = l.first; second = l.second })
found_halves None = Err too_long

-- the cut call: its answer with how many points each half has, and the three lent buffers on exit
pub record CutSays (o : CutOutcome) (costs' choices' work' : List ℕ) (r : Result DH.Halves Refusal) : Type 0 where
  pub verdict : told r ≡ o.verdict
  pub count : (value_or no_halves r).count ≡ o.count
  pub first_half : (value_or no_halves r).first ≡ o.first_half
  pub second_half : (value_or no_halves r).second ≡ o.second_half
  pub costs : costs' ≡ o.costs
  pub choices : choices' ≡ o.choices
  pub work : work' ≡ o.work
