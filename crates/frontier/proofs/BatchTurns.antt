-- An accepted batch call leaves what plain calls in turn leave, by the promises of both alone.
use mathlib.Core.Path.{◌≡◌, refl, sym, ap₂, subst, ◌∙◌}
use mathlib.Core.List.{List, ◌∷◌, ◌++◌}
use Prim.Native.Nat.{ℕ}
use lib.ListN.{drop}
use Rattle.batch_frames.specs.Batches.{batch_of}
use Rattle.batch_frames.specs.Outcomes.{cost_area, choice_area, result_area, in_turn, batch_outcome}
use Rattle.batch_frames.proofs.Accepted.{taken_is, in_turn_lem}
use Rattle.batch_call.specs.Steps.{LeftBy}
use Rattle.frontier.specs.Says.{BatchExports}
use Rattle.frontier.specs.Turns.{Turns, none, next}

-- the calls leave what the definition says
turns_leave : {ss : List (List ℕ)} {c x r w c' x' r' w' : List ℕ} → Turns ss c x r w c' x' r' w'
    → LeftBy (in_turn ss c x r w) c' x' r' w'
unfolding in_turn
turns_leave none = record { costs = refl; choices = refl; results = refl; work = refl }
turns_leave (next {c} {x} {r} {c'} {x'} {r'} {w'} {ss} e t) =
    let rest = subst
    (λ (m : List ℕ). LeftBy (in_turn ss (drop cost_area c) (drop choice_area x) (drop result_area r) m) c' x' r' w')
    e.work (turns_leave t) in
    record {
      costs = ap₂ ◌++◌ e.costs rest.costs;
      choices = ap₂ ◌++◌ e.choices rest.choices;
      results = λ i. e.number i ∷ e.place i ∷ e.count i ∷ rest.results i;
      work = rest.work;
    }

-- a batch call that is accepted, and any calls in turn for its problems on the same buffers
module _ {s c x r w c₁ x₁ r₁ w₁ c₂ x₂ r₂ w₂ : List ℕ} {n at k : ℕ} where
  pub batch_in_turn : BatchExports s (batch_outcome s c x r w) c₁ x₁ r₁ w₁ n at k → n ≡ 0
      → Turns (batch_of s) c x r w c₂ x₂ r₂ w₂
      → (c₁ ≡ c₂) × (x₁ ≡ x₂) × (r₁ ≡ r₂) × (w₁ ≡ w₂)
  batch_in_turn e accepts turns =
      let is = in_turn_lem s c x r w (taken_is s c x r w (sym e.number ∙ accepts)) in
      let left = turns_leave turns in (
        e.costs ∙ (λ i. (is i).costs) ∙ sym left.costs,
        e.choices ∙ (λ i. (is i).choices) ∙ sym left.choices,
        e.results ∙ (λ i. (is i).results) ∙ sym left.results,
        e.work ∙ (λ i. (is i).work) ∙ sym left.work,
      )
