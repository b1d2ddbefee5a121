-- The plain call's answers, from its verdict: a refusal that changes nothing, and what was found.
use mathlib.Core.Path.{◌≡◌, refl}
use mathlib.Core.Bool.{false, not}
use mathlib.Core.List.{List, []}
use Prim.Native.Nat.{ℕ}
use native.Mathlib.Omega.{arith}
use lib.Dec.{eqb}
use lib.ListN.{length, replicate}
use borrow.Author.Tests.{ne_eqb}
use Rattle.model.specs.Basics.{pick, when}
use Rattle.model.specs.Refusals.{full, Verdict, verdict, accepted}
use Rattle.model.specs.Reading.{problem_of}
use Rattle.model.specs.Frontiers.{Point, frontier}
use Rattle.model.specs.Calls.{over, room_of, flat_costs, flat_choices, work_after, solve_verdict, solve_outcome}
use Rattle.model.specs.Reasons.{number_of}
use Rattle.model.specs.declared.Refusal.{Refusal}
use Rattle.model.proofs.Reasons.{number_refuses}
use Rattle.pass_list.specs.Says.{is_full, count_of}
use Rattle.answers.specs.Early.{early_of}
use Rattle.answers.specs.Says.{found_answer, SolveSays}
use Rattle.answers.proofs.Early.{early_limits, early_verdict_lem}
use Rattle.std.specs.Prelude.{Option, Some, None, Err}

module _ (s c x w : List ℕ) where
  abbrev told : Verdict
  told = solve_verdict s w (room_of (problem_of s) c x)

  abbrev ps : List Point
  ps = frontier (problem_of s)

  pub unchanged_solve : (r : Refusal) → verdict (number_of r.reason) r.place ≡ early_of s (length w)
      → SolveSays (solve_outcome s c x w) c x w (Err r)
  unfolding solve_outcome work_after
  unchanged_solve r says =
      let v = early_of s (length w) in
      let refuses : eqb v.number 0 ≡ false = rw (← says) (number_refuses r.reason) in
      let low = (early_limits s (length w)).0 in
      let other : eqb v.number full ≡ false = ne_eqb v.number full (λ z. omega (arith, z, low)) in
      let is : told ≡ v = early_verdict_lem s w (room_of (problem_of s) c x) refuses in
      record {
        verdict = rw is says;
        count = rw (is, refuses) refl;
        costs = rw (is, refuses) refl;
        choices = rw (is, refuses) refl;
        work = rw (is, refuses, other) refl;
      }

  -- what was found: only work memory is cleared where the list is too long
  pub found_solve : (f : Option ℕ) → told ≡ pick (is_full f) (verdict full 0) accepted
      → count_of f ≡ when (not (is_full f)) (length ps)
      → SolveSays (solve_outcome s c x w) (over (flat_costs (pick (is_full f) [] ps)) c)
      (over (flat_choices (pick (is_full f) [] ps)) x) (replicate (length w) 0) (found_answer f)
  unfolding solve_outcome work_after over flat_costs flat_choices
  found_solve None is e =
      record { verdict = rw is refl; count = rw is refl; costs = rw is refl; choices = rw is refl; work = rw is refl }
  found_solve (Some k) is e =
      record { verdict = rw is refl; count = rw is e; costs = rw is refl; choices = rw is refl; work = rw is refl }
