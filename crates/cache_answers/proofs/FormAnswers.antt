-- The form of a problem that is not refused, and its answer: they fit a slot, and the form has the problem's answer.
use mathlib.Core.Path.{◌≡◌, ap, ◌∙◌}
use mathlib.Core.List.{List}
use Prim.Native.Nat.{ℕ, ◌*◌, ◌≤◌, ◌<◌}
use native.Mathlib.Omega.{arith}
use lib.ListN.{length}
use Rattle.model.specs.Basics.{All}
use Rattle.model.specs.Limits.{max_variables, max_objectives, max_points}
use Rattle.model.specs.Problems.{Problem}
use Rattle.model.specs.Encoding.{Byte, head_bytes, encode}
use Rattle.model.specs.Reading.{head_variables, head_length, verdict_of, problem_of}
use Rattle.model.specs.Frontiers.{Point, frontier}
use Rattle.model.specs.Calls.{flat_costs, flat_choices}
use Rattle.model.proofs.Numbers.{product_small}
use Rattle.model.proofs.DomainRecords.{length_domains_at}
use Rattle.model.proofs.Encoded.{read_encoded}
use Rattle.model.proofs.Reading.{accepted_parts, accepted_encoded}
use Rattle.model.proofs.Flat.{costs_long, choices_long, frontier_wide}
use Rattle.form_canonical.specs.Canonical.{canonical, canonical_bytes}
use Rattle.form_canonical.proofs.Statements.{canonical_laws}
use Rattle.cache_answers.specs.Stores.{Answer, solved}
use Rattle.cache_answers.proofs.Slots.{Fits}
use Rattle.cache_answers.proofs.Finding.{answer_of}

-- ## how long an answer is

module _ (q : Problem) where
  pub solved_costs : length (solved q).costs ≡ (solved q).count * q.objectives
  unfolding solved
  solved_costs = costs_long q.objectives (length q.domains) (frontier q) (frontier_wide q)

  pub solved_choices : length (solved q).choices ≡ (solved q).count * length q.domains
  unfolding solved
  solved_choices = choices_long q.objectives (length q.domains) (frontier q) (frontier_wide q)

-- ## the form

pub form_some : (s : List ℕ) → 0 < length (canonical_bytes s)
unfolding encode head_bytes
form_some s = omega arith

pub form_fits : (s : List ℕ) → All Byte s → (verdict_of s).number ≡ 0 → (solved (problem_of s)).count ≤ max_points
    → Fits (canonical_bytes s) (solved (problem_of s))
unfolding problem_of
form_fits s bytes fine few =
    let q = problem_of s in
    let n = (solved q).count in
    record {
      short_form = (canonical_laws.kept q (accepted_encoded s bytes fine).0).short;
      few_costs = omega (arith, solved_costs q, product_small max_points max_objectives n q.objectives few objectives);
      few_choices =
          omega (
            arith,
            solved_choices q,
            product_small max_points max_variables n (length q.domains) few variables,
          );
      few_points = few;
    }
  where
    objectives : (problem_of s).objectives ≤ max_objectives
    objectives = (accepted_parts s fine).head.objectives.1

    variables : length (problem_of s).domains ≤ max_variables
    variables =
        omega (arith, (accepted_parts s fine).head.variables.1, length_domains_at (head_variables s) s (head_length s))

form_frontier : (s : List ℕ) → All Byte s → (verdict_of s).number ≡ 0
    → frontier (problem_of (canonical_bytes s)) ≡ frontier (problem_of s)
form_frontier s bytes fine =
    let q = problem_of s in
    let w = (accepted_encoded s bytes fine).0 in
    ap frontier (read_encoded (canonical q) (canonical_laws.kept q w)).1
    ∙ canonical_laws.list (canonical q) q (canonical_laws.same q w)

pub form_answer : (s : List ℕ) → All Byte s → (verdict_of s).number ≡ 0
    → answer_of (canonical_bytes s) ≡ solved (problem_of s)
unfolding answer_of encode head_bytes solved
form_answer s bytes fine =
    ap {B = Answer}
    (λ (ps : List Point). record { count = length ps; costs = flat_costs ps; choices = flat_choices ps })
    (form_frontier s bytes fine)
