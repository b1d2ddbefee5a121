-- The laws of the bound, of the bound call by its promise alone: with number 0 no completion of the prefix costs less.
use mathlib.Core.Path.{◌≡◌, sym, ◌∙◌}
use mathlib.Core.List.{List}
use Prim.Native.Nat.{ℕ, ◌-◌}
use lib.ListN.{length, take, replicate}
use lib.Seq.{take_at}
use Rattle.model.specs.Limits.{max_objectives}
use Rattle.model.specs.Problems.{Problem}
use Rattle.model.specs.Reading.{problem_of}
use Rattle.model.specs.Bounds.{bound_of}
use Rattle.model.specs.Calls.{padded, bound_outcome}
use Rattle.model.proofs.Demands.{buffers, bound_laws}
use Rattle.frontier.specs.Says.{BoundExports}
use Rattle.frontier.specs.Demands.{BoundAnswer, Bounds}
use Rattle.frontier.proofs.Demand1.{none}

-- the first p of the four numbers are the bound
front : (q : Problem) (prefix : List ℕ)
    → take q.objectives (padded max_objectives (bound_of q prefix)) ≡ bound_of q prefix
unfolding padded
front q prefix =
    let least = bound_of q prefix in
    take_at least (replicate (max_objectives - length least) 0) q.objectives (bound_laws.width q prefix)

module _ (s prefix : List ℕ) {least : List ℕ} {n at : ℕ} (e : BoundExports s (bound_outcome s prefix) n at least) where
  pub bound_laws_bounds : Bounds s prefix n at
  bound_laws_bounds = record {
    answered = λ h k. none e.number e.place (bound_laws.answered s prefix h k);
    nothing_else = λ h. bound_laws.nothing_else s prefix (sym e.number ∙ h);
  }

  pub bound_laws_bound : n ≡ 0 → BoundAnswer s prefix least
  bound_laws_bound h =
      let q = problem_of s in
      let least_is = e.least ∙ (buffers.bound s prefix).answered (sym e.number ∙ h) in
      let bound : take q.objectives least ≡ bound_of q prefix = rw least_is (front q prefix) in
      record {
        below = λ x k l. rw bound (bound_laws.below q prefix x k l);
        whole = λ k. bound ∙ bound_laws.whole q prefix k;
      }
