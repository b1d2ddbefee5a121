-- A partial choice as a value: how long its arrays are, and the one with a value more.
use Rattle.std.proofs.Common.{◌≡◌, ℕ, ◌+◌, ◌<◌, List, length, take, set, sym, ap, ◌∙◌}
use lib.Seq.{take-set-lt}
use mir.Val.{Val}
use denote.Laws.{Is}
use denote.Struct.Declared.{row}
use Rattle.model.specs.Limits.{max_variables}
use Rattle.branch_directions.specs.Directions.{max_directions}
use Rattle.layout.specs.Places.{order_in}
use Rattle.branch_search.specs.declared.Node as DN
use Rattle.branch_search.specs.States.{extended}
use Rattle.branch_search.specs.contracts.Node.{the_type}

pub choice_long : (node : DN.Node) (vs : List Val) → Is (row the_type) node vs → length node.choice ≡ max_variables
choice_long node vs h = h.1.1.1.0.1.0.1

pub bound_long : (node : DN.Node) (vs : List Val) → Is (row the_type) node vs → max_directions ≡ length node.bound
bound_long node vs h = sym h.1.1.1.1.0.1.0.1

-- the choice with the value a of the variable at the next position
abbrev pub with_next : List ℕ → ℕ → DN.Node → ℕ → List ℕ
with_next plan n node a = set (take n node.choice) (order_in plan node.depth) a

-- next is the partial choice with the value a and the bound b
pub record Extends (plan : List ℕ) (n : ℕ) (node : DN.Node) (a : ℕ) (b : List ℕ) (next : DN.Node) : Type 0 where
  pub deeper : next.depth ≡ node.depth + 1
  pub chosen : take n next.choice ≡ with_next plan n node a
  pub bounded : next.bound ≡ b

pub extends :
    {plan : List ℕ} {n : ℕ} {node : DN.Node} {v a : ℕ} {b : List ℕ} {next : DN.Node} →
    next ≡ extended node v a b → v ≡ order_in plan node.depth → v < n → Extends plan n node a b next
extends {plan} {n} {node} {v} {a} {b} {next} e is l =
    record {
      deeper = ap (λ (u : DN.Node). u.depth) e;
      chosen =
          ap (λ (u : DN.Node). take n u.choice) e ∙ take-set-lt n node.choice v a l
          ∙ ap (λ (i : ℕ). set (take n node.choice) i a) is;
      bounded = ap (λ (u : DN.Node). u.bound) e;
    }
