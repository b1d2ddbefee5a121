-- The steps of the search in the code's own states.
use mathlib.Core.Path.{◌≡◌, sym, ap, ◌∙◌}
use mathlib.Core.Bool.{Bool, true, false}
use mathlib.Core.List.{List, [], ◌∷◌, ◌++◌}
use Prim.Native.Nat.{ℕ, ◌+◌, ◌*◌, ◌≤◌, ◌<◌}
use native.Mathlib.Omega.{arith}
use lib.ListN.{length, get_or, take, drop}
use lib.Seq.{take-take}
use Rattle.std.specs.Prelude.{Option}
use Rattle.model.specs.Basics.{pick}
use Rattle.model.specs.Limits.{max_objectives}
use Rattle.model.specs.Problems.{Problem}
use Rattle.model.specs.Vectors.{added}
use Rattle.model.specs.Costs.{totals}
use Rattle.model.specs.Bounds.{least_of, bound_of}
use Rattle.model.specs.Frontiers.{Point, point}
use Rattle.model.specs.Search.{Held, just, dead}
use Rattle.model.specs.Suffixes.{sharper}
use Rattle.model.proofs.Sums.{take_added}
use Rattle.layout.specs.Layout.{gains_at}
use Rattle.groups.specs.declared.Task as DT
use Rattle.pass_search.specs.States.{held_of, tables_in, problem_in, listed_in, prefix_of, dead_under}
use Rattle.pass_search.specs.States.{gains_in, rule_of}
use Rattle.pass_search.specs.States.{Setting, opens_from, tries_from}
use Rattle.pass_search.specs.declared.Partial as DP
use Rattle.pass_search.specs.declared.Met as DM
use Rattle.model.proofs.Totals.{take_totals}
use Rattle.pass_search.proofs.FourTotals.{added_zero}
use Rattle.pass_search.proofs.Partials.{Standing, prefix_length}
use Rattle.pass_search.proofs.Opening.{Unchanged, opens_leaf, opens_tries, opens_dead, tries_end, tries_next}

-- the search of the values from v on of a partial choice's next variable, with what is held so far
abbrev pub tried_from : DT.Task → ℕ → (ds s work : List ℕ) → DP.Partial → ℕ → Option DM.Met → Held
tried_from task k ds s work x v best =
    tries_from (problem_in task ds s work) work (listed_in task ds work k) (prefix_of x) v
    (held_of task.objectives (length ds) best)

module _ {task : DT.Task} {k : ℕ} {ds s work : List ℕ} {x : DP.Partial} (mem : Setting task k ds s work)
    (a : Standing task.records ds s work x) (best : Option DM.Met) where
  abbrev p : ℕ
  p = task.objectives

  abbrev q : Problem
  q = problem_in task ds s work

  abbrev ps : List Point
  ps = listed_in task ds work k

  abbrev held : Held
  held = held_of p (length ds) best

  bound_front : take p x.bound ≡ bound_of q (prefix_of x)
  unfolding bound_of totals
  bound_front =
      rw a.stands.exact
      (take_totals (least_of ds (prefix_of x)) (tables_in task.records ds s work) p max_objectives 0 mem.objectives)

  -- the bound with the gains of the variables without a value; a complete choice gains nothing
  abbrev sharp : List ℕ
  sharp = added x.bound (gains_in max_objectives work x.len)

  sharp_front : take p sharp ≡ sharper q (gains_in p work) (prefix_of x)
  sharp_front =
      take_added p x.bound (gains_in max_objectives work x.len)
      ∙ rw (
        bound_front,
        prefix_length a,
        take-take p max_objectives (drop (gains_at + 4 * x.len) work) mem.objectives,
      )

  unchanged : Unchanged q work (prefix_of x)
  unchanged l =
      let whole : x.len ≡ length ds = omega (arith, prefix_length a, a.stands.short) in
      let none : sharp ≡ x.bound = rw (whole, mem.last) (added_zero x.bound a.four) in
      sym sharp_front ∙ ap (take p) none ∙ bound_front

  -- a partial choice is opened
  module _ (bound : List ℕ) (b : bound ≡ sharp) (hopeless : Bool)
      (d : hopeless ≡ dead_under q.ceilings ps held (take p bound)) where
    rule : hopeless ≡ rule_of q work ps (prefix_of x) held
    unfolding dead
    rule = d ∙ ap (dead_under q.ceilings ps held) (ap (take p) b ∙ sharp_front)

    pub left_out : hopeless ≡ true → held ≡ opens_from q work ps (prefix_of x) held
    left_out e = sym (opens_dead q work ps (prefix_of x) held a.stands.good unchanged (sym rule ∙ e))

    module _ (e : hopeless ≡ false) where
      off : rule_of q work ps (prefix_of x) held ≡ false
      off = sym rule ∙ e

      pub completed : x.len ≡ length ds
          → just (point (take p x.bound) (take (length ds) x.values)) ≡ opens_from q work ps (prefix_of x) held
      completed l =
          let all : take (length ds) x.values ≡ prefix_of x = ap (λ n. take n x.values) (sym l) in
          let leaf = opens_leaf q work ps (prefix_of x) held a.stands.good unchanged
          (omega (arith, prefix_length a)) in
          rw (bound_front, all)
          (sym (leaf ∙ ap (λ b. pick b held (just (point (bound_of q (prefix_of x)) (prefix_of x)))) off))

      pub begins : x.len < length ds → (after : Option DM.Met)
          → held_of p (length ds) after ≡ tried_from task k ds s work x 0 best
          → held_of p (length ds) after ≡ opens_from q work ps (prefix_of x) held
      begins l after h =
          h
          ∙ sym (opens_tries q work ps (prefix_of x) held (omega (arith, prefix_length a))
          ∙ ap (λ b. pick b held (tries_from q work ps (prefix_of x) 0 held)) off)

  -- the values of the next variable from v on
  module _ (v : ℕ) where
    pub ended : get_or ds x.len 0 ≤ v → held ≡ tried_from task k ds s work x v best
    ended l = sym (tries_end q work ps (prefix_of x) held v (rw (prefix_length a) l))

    pub tried : v < get_or ds x.len 0 → (child : DP.Partial) (next : Option DM.Met)
        → prefix_of child ≡ prefix_of x ++ (v ∷ [])
        → held_of p (length ds) next ≡ opens_from q work ps (prefix_of child) held
        → tried_from task k ds s work x (v + 1) next ≡ tried_from task k ds s work x v best
    tried l child next c o =
        sym (tries_next q work ps (prefix_of x) held v (rw (prefix_length a) l)
        ∙ ap (tries_from q work ps (prefix_of x) (v + 1)) (sym (o ∙ ap (λ y. opens_from q work ps y held) c)))
