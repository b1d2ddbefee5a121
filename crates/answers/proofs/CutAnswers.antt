-- The cut call's answers, from its verdict: a refusal that changes nothing, and what was found.
use mathlib.Core.Path.{◌≡◌, refl, ◌∙◌}
use mathlib.Core.Bool.{false}
use mathlib.Core.List.{List, []}
use Prim.Native.Nat.{ℕ}
use native.Mathlib.Omega.{arith}
use lib.Dec.{eqb}
use lib.ListN.{length, replicate}
use borrow.Author.Tests.{ne_eqb}
use Rattle.model.specs.Refusals.{full, Verdict, verdict, accepted}
use Rattle.model.specs.Reading.{problem_of}
use Rattle.model.specs.Frontiers.{Point}
use Rattle.model.specs.Cuts.{cut_list, half_size}
use Rattle.model.specs.Calls.{over, room_of, flat_costs, flat_choices, work_after, cut_verdict, cut_outcome}
use Rattle.model.specs.Reasons.{number_of}
use Rattle.model.specs.declared.Refusal.{Refusal}
use Rattle.model.proofs.Reasons.{number_refuses}
use Rattle.answers.specs.declared.Lists as DL
use Rattle.answers.specs.Cuts.{cut_refusal, found_halves, CutSays}
use Rattle.std.specs.Prelude.{Some, None, Err}
use Rattle.answers.proofs.CutRefusals.{cut_limits, cut_verdict_lem}

module _ (s ss c x w : List ℕ) where
  abbrev told : Verdict
  told = cut_verdict s ss w (room_of (problem_of s) c x)

  abbrev ps : List Point
  ps = cut_list (problem_of s) ss

  -- refused before the search
  pub unchanged_cut : (r : Refusal) → verdict (number_of r.reason) r.place ≡ cut_refusal s ss (length w)
      → CutSays (cut_outcome s ss c x w) c x w (Err r)
  unfolding cut_outcome work_after
  unchanged_cut r says =
      let v = cut_refusal s ss (length w) in
      let refuses : eqb v.number 0 ≡ false = rw (← says) (number_refuses r.reason) in
      let low = (cut_limits s ss (length w)).0 in
      let other : eqb v.number full ≡ false = ne_eqb v.number full (λ z. omega (arith, z, low)) in
      let is : told ≡ v = cut_verdict_lem s ss w (room_of (problem_of s) c x) ∙ rw refuses in
      record {
        verdict = rw is says;
        count = rw (is, refuses) refl;
        first_half = rw (is, refuses) refl;
        second_half = rw (is, refuses) refl;
        costs = rw (is, refuses) refl;
        choices = rw (is, refuses) refl;
        work = rw (is, refuses, other) refl;
      }

  -- a list is too long: only work memory is cleared
  pub long_cut : told ≡ verdict full 0
      → CutSays (cut_outcome s ss c x w) (over [] c) (over [] x) (replicate (length w) 0) (found_halves None)
  unfolding cut_outcome work_after over
  long_cut is =
      record {
        verdict = rw is refl;
        count = rw is refl;
        first_half = rw is refl;
        second_half = rw is refl;
        costs = rw is refl;
        choices = rw is refl;
        work = rw is refl;
      }

  -- the lists that were found
  pub found_cut : (l : DL.Lists) → told ≡ accepted → l.count ≡ length ps → l.first ≡ half_size 0 (problem_of s) ss
      → l.second ≡ half_size 1 (problem_of s) ss
      → CutSays (cut_outcome s ss c x w) (over (flat_costs ps) c) (over (flat_choices ps) x) (replicate (length w) 0)
      (found_halves (Some l))
  unfolding cut_outcome work_after
  found_cut l is k i j =
      record {
        verdict = rw is refl;
        count = rw is k;
        first_half = rw is i;
        second_half = rw is j;
        costs = rw is refl;
        choices = rw is refl;
        work = rw is refl;
      }
