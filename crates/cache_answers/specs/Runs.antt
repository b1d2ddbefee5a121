-- Runs of calls on one store, and the same calls solved anew, with a list of the forms that were stored.
use Rattle.std.specs.Prelude.{Bool, false, ◌&&◌, ◌||◌, not, List, [], ◌∷◌, ℕ, zero, suc, leb, length}
use Rattle.model.specs.Basics.{pick}
use Rattle.model.specs.Limits.{max_points}
use Rattle.model.specs.Refusals.{Verdict, first}
use Rattle.model.specs.Reading.{verdict_of, problem_of}
use Rattle.model.specs.Vectors.{same}
use Rattle.model.specs.Frontiers.{frontier}
use Rattle.model.specs.Calls.{answers, work_verdict, solve_outcome}
use Rattle.form_canonical.specs.Canonical.{canonical_bytes}
use Rattle.cache_answers.specs.Outcomes.{CachedOutcome, cached_outcome}

-- a call: what is lent but for the store
pub record Call : Type 0 where
  pub problem : List ℕ
  pub costs : List ℕ
  pub choices : List ℕ
  pub work : List ℕ

-- what a call tells and leaves, but for the store
pub record Told : Type 0 where
  pub verdict : Verdict
  pub count : ℕ
  pub hit : Bool
  pub costs : List ℕ
  pub choices : List ℕ
  pub work : List ℕ

abbrev pub told : CachedOutcome → Told
told o =
    record {
      verdict = o.verdict;
      count = o.count;
      hit = o.hit;
      costs = o.costs;
      choices = o.choices;
      work = o.work;
    }

-- the calls one after the other on one store
unfoldable pub cached_run : List ℕ → List Call → List Told
cached_run store [] = []
cached_run store (c ∷ cs) =
    let o = cached_outcome c.problem c.costs c.choices c.work store in
    told o ∷ cached_run o.store cs

-- whether a form is among the first m of some forms
unfoldable pub is_among : List ℕ → ℕ → List (List ℕ) → Bool
is_among form zero fs = false
is_among form (suc m) [] = false
is_among form (suc m) (f ∷ fs) = same f form || is_among form m fs

-- past 1 to 12
unfoldable pub is_asked : Call → Bool
is_asked c = answers (first (verdict_of c.problem) (work_verdict c.work))

-- the plain call's answer, and a hit exactly if the form is among the last m that were stored
unfoldable pub fresh_told : ℕ → List (List ℕ) → Call → Told
fresh_told m forms c =
    let o = solve_outcome c.problem c.costs c.choices c.work in
    record {
      verdict = o.verdict;
      count = o.count;
      hit = is_asked c && is_among (canonical_bytes c.problem) m forms;
      costs = o.costs;
      choices = o.choices;
      work = o.work;
    }

-- the forms stored, the last one first: a call past 1 to 12 that is no hit stores its own, whatever the caller's room,
-- if an answer may have as many points
unfoldable pub forms_after : ℕ → List (List ℕ) → Call → List (List ℕ)
forms_after m forms c =
    let form = canonical_bytes c.problem in
    let small = leb (length (frontier (problem_of c.problem))) max_points in
    pick (is_asked c && (not (is_among form m forms) && small)) (form ∷ forms) forms

-- each call solved anew
unfoldable pub fresh_run : ℕ → List (List ℕ) → List Call → List Told
fresh_run m forms [] = []
fresh_run m forms (c ∷ cs) = fresh_told m forms c ∷ fresh_run m (forms_after m forms c) cs
