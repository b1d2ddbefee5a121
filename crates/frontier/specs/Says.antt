-- What the public calls promise, for Rattle and for C alike: number, place, count and half sizes are those of the
-- model's definition of the call, and so is every element of the lent buffers on exit. A slice of bytes has bytes by
-- its type; the promise says so, because demand 1 is about byte strings.
use Rattle.std.specs.Prelude.{◌≡◌, List, [], ◌∷◌, ℕ, Result}
use Rattle.model.specs.Basics.{All, when}
use Rattle.model.specs.Encoding.{Byte}
use Rattle.model.specs.Frontiers.{Point, point}
use Rattle.model.specs.Calls.{SolveOutcome, ListOutcome, CutOutcome, BoundOutcome}
use Rattle.model.specs.Reasons.{value_or}
use Rattle.model.specs.declared.Point as DP
use Rattle.model.specs.declared.Refusal.{Refusal}
use Rattle.answers.specs.declared.Halves as DH
use Rattle.form_canonical.specs.declared.Canonical as DC
use Rattle.text_networks.specs.Conversions.{ConvertOutcome}
use Rattle.form_canonical.specs.Canonical.{CanonicalOutcome}
use Rattle.cache_answers.specs.Outcomes.{CachedOutcome}
use Rattle.batch_frames.specs.Outcomes.{BatchOutcome}

-- the plain call
pub record SolveExports (s : List ℕ) (o : SolveOutcome) (costs' choices' work' : List ℕ) (result at points : ℕ)
    : Type 0 where
  pub bytes : All Byte s
  pub number : result ≡ o.verdict.number
  pub place : at ≡ o.verdict.place
  pub count : points ≡ o.count
  pub costs : costs' ≡ o.costs
  pub choices : choices' ≡ o.choices
  pub work : work' ≡ o.work

-- records as the model's points: field by field
abbrev pub as_point : DP.Point → Point
as_point r = point r.costs r.choice

unfoldable pub as_points : List DP.Point → List Point
as_points [] = []
as_points (r ∷ rs) = as_point r ∷ as_points rs

-- the call for point records
pub record ListExports (s : List ℕ) (o : ListOutcome) (points' : List DP.Point) (work' : List ℕ) (result at listed : ℕ)
    : Type 0 where
  pub bytes : All Byte s
  pub number : result ≡ o.verdict.number
  pub place : at ≡ o.verdict.place
  pub count : listed ≡ o.count
  pub points : as_points points' ≡ o.points
  pub work : work' ≡ o.work

-- the bound call
pub record BoundExports (s : List ℕ) (o : BoundOutcome) (result at : ℕ) (bounds : List ℕ) : Type 0 where
  pub bytes : All Byte s
  pub number : result ≡ o.verdict.number
  pub place : at ≡ o.verdict.place
  pub least : bounds ≡ o.least

-- what a result of the cut call tells of its list and halves, and one of the canonical call of its form: 0 where it
-- refuses
abbrev pub halves_in : Result DH.Halves Refusal → DH.Halves
halves_in = value_or (record { count = 0; first = 0; second = 0 })

abbrev pub form_in : Result DC.Canonical Refusal → DC.Canonical
form_in = value_or (record { count = 0; key = 0 })

-- the cut call, with how many points each half has
pub record CutExports (s : List ℕ) (o : CutOutcome) (costs' choices' work' : List ℕ)
    (result at points points-0 points-1 : ℕ) : Type 0 where
  pub bytes : All Byte s
  pub number : result ≡ o.verdict.number
  pub place : at ≡ o.verdict.place
  pub count : points ≡ o.count
  pub first_half : points-0 ≡ o.first_half
  pub second_half : points-1 ≡ o.second_half
  pub costs : costs' ≡ o.costs
  pub choices : choices' ≡ o.choices
  pub work : work' ≡ o.work

-- the two calls that convert between records and WCSP text: s is what is read
pub record ConvertExports (s : List ℕ) (o : ConvertOutcome) (output' : List ℕ) (result at written : ℕ) : Type 0 where
  pub bytes : All Byte s
  pub number : result ≡ o.verdict.number
  pub place : at ≡ o.verdict.place
  pub count : written ≡ o.count
  pub output : output' ≡ o.output

-- the call for the canonical form and its key
pub record CanonicalExports (s : List ℕ) (o : CanonicalOutcome) (form' : List ℕ) (result at written told : ℕ)
    : Type 0 where
  pub bytes : All Byte s
  pub number : result ≡ o.verdict.number
  pub place : at ≡ o.verdict.place
  pub count : written ≡ o.count
  pub key : told ≡ o.key
  pub form : form' ≡ o.form

-- the plain call with a store: a hit is told as 1, else 0
pub record CachedExports (s : List ℕ) (o : CachedOutcome) (costs' choices' work' store' : List ℕ)
    (result at points told : ℕ) : Type 0 where
  pub bytes : All Byte s
  pub number : result ≡ o.verdict.number
  pub place : at ≡ o.verdict.place
  pub count : points ≡ o.count
  pub hit : told ≡ when o.hit 1
  pub costs : costs' ≡ o.costs
  pub choices : choices' ≡ o.choices
  pub work : work' ≡ o.work
  pub store : store' ≡ o.store

-- the call for a batch of problems: s is the batch, and the count is that of its problems
pub record BatchExports (s : List ℕ) (o : BatchOutcome) (costs' choices' results' work' : List ℕ)
    (result at problems : ℕ) : Type 0 where
  pub bytes : All Byte s
  pub number : result ≡ o.verdict.number
  pub place : at ≡ o.verdict.place
  pub count : problems ≡ o.count
  pub costs : costs' ≡ o.costs
  pub choices : choices' ≡ o.choices
  pub results : results' ≡ o.results
  pub work : work' ≡ o.work
