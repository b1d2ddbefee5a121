-- What the loop of `compare` leaves to show: an answer is known by whether either is at most the other.
use Rattle.std.proofs.Common.{◌≡◌, ◌∙◌, ◌≤◌, ℕ, List, length, arith}
use Rattle.vectors.specs.declared.Comparison.{Comparison}
use Rattle.vectors.specs.declared.Comparison.TheVariants.{Beats, Beaten, Same, Neither}
use Rattle.vectors.specs.Fronts.{front_at_most}
use Rattle.vectors.specs.Comparisons.{FrontSays, matches, exchanged}
use Rattle.vectors.proofs.Walking.{walked_start, walked_above, walked_met, walked_within, walked_end, walked_rest}
use Rattle.vectors.proofs.Comparisons.{comparison_laws}
use Rattle.vectors.proofs.compare.Goals as goal
use Rattle.vectors.proofs.compare.Goals.{then-b-i-2, else-b-i-2}

said : (r : Comparison) (p : ℕ) (a b : List ℕ) → p ≤ length a → p ≤ length b → front_at_most p a b ≡ matches r
    → front_at_most p b a ≡ matches (exchanged r) → FrontSays p r a b
said r p a b la lb = (comparison_laws p a b la lb).told r

pub loop-i-init : goal.loop-i-init
loop-i-init c = record {
  forth = walked_start _ _ _ 0 (omega arith);
  back = walked_start _ _ _ 0 (omega arith);
}

pub returns-then-less : goal.returns-then-less
returns-then-less c =
    said Neither _ _ _ c.requires.0 c.requires.1
    (walked_above c.loop-i.invariant.forth c.requires.0 c.requires.1 (omega arith) (omega arith))
    (c.loop-i.invariant.back.left ∙ rw c.if-less.true)

pub returns-then-is_rest_at_most : goal.returns-then-is_rest_at_most
returns-then-is_rest_at_most c =
    said Beaten _ _ _ c.requires.0 c.requires.1
    (walked_above c.loop-i.invariant.forth c.requires.0 c.requires.1 (omega arith) (omega arith))
    (walked_rest c.loop-i.invariant.back c.requires.1 c.requires.0 c.if-less.false c.is_rest_at_most.ensures
    c.if-is_rest_at_most.true)

pub returns-then-b-i : goal.returns-then-b-i
returns-then-b-i c =
    said Neither _ _ _ c.requires.0 c.requires.1
    (walked_above c.loop-i.invariant.forth c.requires.0 c.requires.1 (omega arith) (omega arith))
    (walked_rest c.loop-i.invariant.back c.requires.1 c.requires.0 c.if-less.false c.is_rest_at_most.ensures
    c.if-is_rest_at_most.false)

pub loop-i-preserved : goal.loop-i-preserved
loop-i-preserved c = record {
  forth = walked_within c.loop-i.invariant.forth c.requires.0 c.requires.1 (omega arith) (omega arith);
  back = elim c.if-b-i-2.branch [
    | then-b-i-2 w ↦ rw w.less-is
        (walked_met c.loop-i.invariant.back c.requires.1 c.requires.0 (omega arith) (omega arith))
    | else-b-i-2 w ↦ rw w.less-is
        (walked_within c.loop-i.invariant.back c.requires.1 c.requires.0 (omega arith) (omega arith))
  ];
}

pub returns-then-less-2 : goal.returns-then-less-2
returns-then-less-2 c =
    said Beats _ _ _ c.requires.0 c.requires.1
    (walked_end c.loop-i.invariant.forth c.requires.0 c.requires.1 (omega arith))
    (walked_end c.loop-i.invariant.back c.requires.1 c.requires.0 (omega arith) ∙ rw c.if-less-2.true)

pub returns : goal.returns
returns c =
    said Same _ _ _ c.requires.0 c.requires.1
    (walked_end c.loop-i.invariant.forth c.requires.0 c.requires.1 (omega arith))
    (walked_end c.loop-i.invariant.back c.requires.1 c.requires.0 (omega arith) ∙ rw c.if-less-2.false)
