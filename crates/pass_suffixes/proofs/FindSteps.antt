-- Finding the gains: what one search and one objective may rely on, and what they leave.
use mathlib.Core.Path.{◌≡◌, sym, ◌∙◌, subst}
use mathlib.Core.List.{List}
use Prim.Native.Nat.{ℕ, ◌+◌, ◌-◌, ◌*◌, ◌≤◌, ◌<◌}
use native.Mathlib.Omega.{arith}
use lib.ListN.{length, drop, set, replicate, length-set}
use lib.Seq.{drop-set-lt}
use Rattle.model.specs.Limits.{max_objectives}
use Rattle.model.specs.Problems.{Problem}
use Rattle.model.specs.Suffixes.{Gain, Gains}
use Rattle.model.proofs.Lists.{drop_later}
use Rattle.layout.specs.Layout.{gains_at, source_at, search_end}
use Rattle.groups.proofs.Overwritten.{over}
use Rattle.pass_search.specs.States.{gains_in}
use Rattle.groups.specs.Sources.{source_problem, Source}
use Rattle.groups.specs.declared.Task as DT
use Rattle.pass_suffixes.specs.Gained.{FoundFrom, Left}
use Rattle.pass_suffixes.proofs.GainRows.{gains_count, found_same, cleared_found, cleared_left}
use Rattle.pass_suffixes.proofs.GainRows.{written_found, found_gains, found_last}

left_both : (was work then : List ℕ) → Left was work → Left work then → Left was then
left_both was work then h k = (k.0 ∙ h.0, k.1 ∙ h.1)

module _ {task : DT.Task} {ds s was : List ℕ} (source : Source task ds s was) where
  abbrev p : ℕ
  p = task.objectives

  abbrev q : Problem
  q = source_problem task ds s was

  -- the records and the problem stay
  module _ (work : List ℕ) (left : Left was work) where
    same_problem : source_problem task ds s work ≡ q
    same_problem = rw left.0

    same_source : Source task ds s work
    same_source =
        record {
          whole = rw left.0 source.whole;
          few = source.few;
          small = source.small;
          variables = source.variables;
          objectives = source.objectives;
          long = omega (arith, left.1, source.long);
        }

    pub found_asks : (o k : ℕ) → FoundFrom q o k work
        → Source task ds s work × FoundFrom (source_problem task ds s work) o k work
    found_asks o k u = (same_source, rw same_problem u)

    -- one search more, and its gain written
    pub search_next : (o k : ℕ) → o < p → k < length ds → 1 ≤ k → FoundFrom q o k work → (then : List ℕ) (g : ℕ)
        → Gain (source_problem task ds s work) o k g × (drop gains_at then ≡ drop gains_at work)
        × (length then ≡ length work)
        → FoundFrom q o (k - 1) (set then (gains_at + 4 * k + o) g) × Left was (set then (gains_at + 4 * k + o) g)
    search_next o k own more low u then g (gain, same, long) =
        let at = gains_at + 4 * k + o in
        let behind : drop source_at (set then at g) ≡ drop source_at work = drop-set-lt source_at then at g
        (omega (arith, source.variables, source.objectives))
        ∙ drop_later gains_at source_at then work (omega arith) same in (
          written_found then (found_same work then same u) source.objectives own more source.variables
              (omega (arith, left.1, source.long)) g (subst (λ (x : Problem). Gain x o k g) same_problem gain) low,
          left_both was work (set then at g) left (behind, length-set then at g ∙ long),
        )

    -- one objective more
    pub objective_next : (o : ℕ) (then : List ℕ)
        → FoundFrom (source_problem task ds s work) o 0 then × Left work then
        → FoundFrom q o 0 then × Left was then
    objective_next o then (u, h) = (rw same_problem at u, left_both was work then left h)

    pub objectives_end : (o k : ℕ) → FoundFrom q o k work
        → Gains q (gains_in p work) × (gains_in max_objectives work (length ds) ≡ replicate max_objectives 0)
        × Left was work
    objectives_end o k u =
        let long : search_end ≤ length work = omega (arith, left.1, source.long) in (
          found_gains work source.variables long u source.objectives,
          found_last work source.variables long u,
          left,
        )

  -- no gain is found yet
  pub objectives_start : (first : List ℕ) → first ≡ over was gains_at (replicate gains_count 0) source_at
      → FoundFrom q p 0 first × Left was first
  objectives_start first is =
      let long : source_at ≤ length was = omega (arith, source.long) in (
        subst (FoundFrom q p 0) (sym is) (cleared_found was long q source.objectives source.variables),
        rw is (cleared_left was long),
      )
