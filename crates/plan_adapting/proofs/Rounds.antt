-- Plans of one round after another: the records of each are those of the one before.
use mathlib.Core.Path.{◌≡◌, refl, ◌∙◌}
use mathlib.Core.List.{List}
use Prim.Native.Nat.{ℕ}
use native.Mathlib.Omega.{arith}
use lib.ListN.{length, take, drop}
use Rattle.model.specs.Basics.{All}
use Rattle.problem.specs.Records.{Whole}
use Rattle.groups.specs.declared.Task as DT
use Rattle.layout.specs.Places.{max_messages, children_at}
use Rattle.branch_directions.specs.Directions.{Sensible}
use Rattle.branch_directions.specs.declared.Directions as DD
use Rattle.branch_buckets.specs.Messages.{count_from}
use Rattle.branch_buckets.specs.Sound.{Rearranged}
use Rattle.branch_buckets.specs.Content.{Planned}
use Rattle.plan_adapting.specs.Adapting.{Adaptable, Reordered}

module _ {t : DT.Task} {ds s a : List ℕ} (h : Adaptable t ds s a) where
  pub adaptable_planned : {d : DD.Directions} → Sensible d → Planned d t.records ds s a
  adaptable_planned q =
      record {
        sensible = q;
        small = h.small;
        variables = h.variables;
        few = h.few;
        whole = h.whole;
        long = omega (arith, h.long);
      }

  pub reordered_refl : Reordered t.records ds s a a
  reordered_refl = record { long = refl; whole = h.whole; records = λ f. refl }

  -- another round may start from what one leaves
  pub adaptable_reordered : {b : List ℕ} → Reordered t.records ds s a b → Adaptable t ds s b
  adaptable_reordered g =
      record {
        small = h.small;
        variables = h.variables;
        few = h.few;
        whole = g.whole;
        long = rw g.long h.long;
        several = h.several;
        objectives = h.objectives;
      }

pub reordered_trans : {r : ℕ} {ds s a b c : List ℕ} → Reordered r ds s a b → Reordered r ds s b c
    → Reordered r ds s a c
reordered_trans g h =
    record { long = h.long ∙ g.long; whole = h.whole; records = λ f. h.records f ∙ g.records f }

-- what making a plan ensures
pub made_reordered : {r : ℕ} {ds s a b : List ℕ}
    → (length b ≡ length a) × All (Whole ds s) (take r b) × Rearranged (take r a) (take r b)
    × Rearranged (count_from 0 max_messages) (take max_messages (drop children_at b))
    → Reordered r ds s a b
made_reordered h = record { long = h.0; whole = h.1; records = h.2 }
