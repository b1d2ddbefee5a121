-- The bound call's three answers: a refused problem, a bad prefix, the bounds.
use mathlib.Core.Path.{◌≡◌, refl, ◌∙◌}
use mathlib.Core.Bool.{true, false}
use mathlib.Core.List.{List, [], ◌∷◌}
use Prim.Native.Nat.{ℕ, ◌+◌, ◌<◌}
use native.Mathlib.Omega.{arith}
use lib.Dec.{eqb}
use Rattle.model.specs.Limits.{max_objectives}
use Rattle.model.specs.Refusals.{verdict}
use Rattle.model.specs.Problems.{Table}
use Rattle.model.specs.Reading.{head_objectives, head_tables, domains_of, tables_start, tables_at, verdict_of}
use Rattle.model.specs.Reading.{problem_of}
use Rattle.model.specs.Costs.{totals_from, totals}
use Rattle.model.specs.Bounds.{prefix_ok, least_of, bound_of}
use Rattle.model.specs.Calls.{padded, bound_verdict, bound_outcome}
use Rattle.model.proofs.Elements.{all_map}
use Rattle.model.proofs.Totals.{totals_length, totals_padded}
use Rattle.model.proofs.Reading.{accepted_place, accepted_parts, accepted_owners}
use Rattle.model.specs.Reasons.{number_of}
use Rattle.model.specs.declared.Reason.TheVariants.{Prefix}
use Rattle.model.specs.declared.Refusal as DR
use Rattle.model.proofs.Reasons.{number_refuses}
use Rattle.std.specs.Prelude.{Ok, Err}
use Rattle.bound_call.specs.Says.{BoundSays}

-- the verdict is the problem's
pub refused_answer : (s prefix : List ℕ) (r : DR.Refusal) → verdict (number_of r.reason) r.place ≡ verdict_of s
    → BoundSays s prefix (Err r)
unfolding bound_outcome bound_verdict padded
refused_answer s prefix r e =
    let refuses : eqb (verdict_of s).number 0 ≡ false = rw (← e) (number_refuses r.reason) in
    record { verdict = rw refuses e; least = rw (refuses, refuses) refl }

module _ (s : List ℕ) (e : (verdict_of s).number ≡ 0) (prefix : List ℕ) where
  pub prefix_answer : (r : DR.Refusal) → r.reason ≡ Prefix → r.place ≡ 0 → prefix_ok (domains_of s) prefix ≡ false
      → BoundSays s prefix (Err r)
  unfolding bound_outcome bound_verdict padded problem_of
  prefix_answer r why here h =
      let v = accepted_place s e in
      record { verdict = rw (v, h, why, here) refl; least = rw (v, h) refl }

  -- the objectives past p are 0
  all_four :
      totals_from max_objectives 0 (least_of (domains_of s) prefix)
      (tables_at (head_tables s) (domains_of s) s (tables_start s))
      ≡ padded max_objectives (bound_of (problem_of s) prefix)
  unfolding bound_of totals problem_of padded
  all_four =
      let f = least_of (domains_of s) prefix in
      let ts = tables_at (head_tables s) (domains_of s) s (tables_start s) in
      let p = head_objectives s in
      rw (totals_length (problem_of s) f)
      (totals_padded p max_objectives 0 f ts (accepted_parts s e).head.objectives.1
      (all_map (λ (t : Table). t.objective < p) (λ t. t.objective < 0 + p) (λ t l. omega arith) ts
      (accepted_owners s e)))

  pub bound_answer : (least : List ℕ) → prefix_ok (domains_of s) prefix ≡ true
      → least
      ≡ totals_from max_objectives 0 (least_of (domains_of s) prefix)
      (tables_at (head_tables s) (domains_of s) s (tables_start s))
      → BoundSays s prefix (Ok least)
  unfolding bound_outcome bound_verdict problem_of
  bound_answer least h b =
      let v = accepted_place s e in
      record { verdict = rw (v, h) refl; least = rw (v, h) (b ∙ all_four) }
