-- What the batch call answers and leaves in the lent buffers, for every input: what single calls in turn do.
use Rattle.std.specs.Prelude.{Bool, ◌&&◌, List, [], ◌∷◌, ◌++◌, ℕ, suc, ◌*◌, leb, length, take, drop}
use Rattle.model.specs.Basics.{pick}
use Rattle.model.specs.Refusals.{Verdict, verdict, accepted, first}
use Rattle.model.specs.Calls.{answers, work_verdict, solve_outcome}
use Rattle.batch_frames.specs.Batches.{batch_ok, batch_of}

-- 21: the framing is wrong, there are more than 16 problems, or an output area is missing
abbrev pub bad_batch : ℕ
bad_batch = 21

-- each problem's areas: numbers of the cost buffer, bytes of the choice buffer, numbers of the result list
abbrev pub cost_area : ℕ
cost_area = 256

abbrev pub choice_area : ℕ
choice_area = 1536

abbrev pub result_area : ℕ
result_area = 3

-- buffers of these lengths have the areas of k problems, each of them whole
unfoldable pub areas_ok : ℕ → (costs choices results : ℕ) → Bool
areas_ok k costs choices results =
    leb (cost_area * k) costs && (leb (choice_area * k) choices && leb (result_area * k) results)

-- The batch call: 21, then 12 for the whole call. A problem's own refusal stands in the result list.
pub record BatchOutcome : Type 0 where
  pub verdict : Verdict
  pub count : ℕ
  pub costs : List ℕ
  pub choices : List ℕ
  pub results : List ℕ
  pub work : List ℕ

-- a call that changes nothing
abbrev pub unchanged : Verdict → List ℕ → List ℕ → List ℕ → List ℕ → BatchOutcome
unchanged v costs choices results work =
    record { verdict = v; count = 0; costs = costs; choices = choices; results = results; work = work }

-- Single calls in turn, each on its areas and with the work memory that the one before it left:
-- the result list takes number, place and count of each.
unfoldable pub in_turn : List (List ℕ) → List ℕ → List ℕ → List ℕ → List ℕ → BatchOutcome
in_turn [] costs choices results work = unchanged accepted costs choices results work
in_turn (s ∷ ss) costs choices results work =
    let o = solve_outcome s (take cost_area costs) (take choice_area choices) work in
    let rest = in_turn ss (drop cost_area costs) (drop choice_area choices) (drop result_area results) o.work in
    record {
      verdict = accepted;
      count = suc rest.count;
      costs = o.costs ++ rest.costs;
      choices = o.choices ++ rest.choices;
      results = o.verdict.number ∷ o.verdict.place ∷ o.count ∷ rest.results;
      work = rest.work;
    }

-- what is refused before a problem is looked at, of a batch and buffers of these lengths
unfoldable pub frame_verdict : List ℕ → (costs choices results : ℕ) → Verdict
frame_verdict s costs choices results =
    pick (batch_ok s && areas_ok (length (batch_of s)) costs choices results) accepted (verdict bad_batch 0)

unfoldable pub batch_verdict : List ℕ → List ℕ → List ℕ → List ℕ → List ℕ → Verdict
batch_verdict s costs choices results work =
    first (frame_verdict s (length costs) (length choices) (length results)) (work_verdict work)

unfoldable pub batch_outcome : List ℕ → List ℕ → List ℕ → List ℕ → List ℕ → BatchOutcome
batch_outcome s costs choices results work =
    let v = batch_verdict s costs choices results work in
    pick (answers v)
    (in_turn (batch_of s) costs choices results work)
    (unchanged v costs choices results work)
