-- The steps of the search below a prefix: left unopened, complete, or opened value by value.
use mathlib.Core.Path.{◌≡◌, refl, ap, ◌∙◌, fun_ext}
use mathlib.Core.Logic.{⊎_elim}
use mathlib.Core.Bool.{Bool, true, false, ◌&&◌, ◌||◌, not}
use mathlib.Core.List.{List, [], ◌∷◌, ◌++◌}
use Prim.Native.Nat.{ℕ, suc, ◌+◌, ◌-◌, ◌≤◌, ◌<◌}
use native.Mathlib.Omega.{arith}
use native.Mathlib.Numerals.{add-one}
use native.Mathlib.Nat.{sub-zero}
use lib.Dec.{ltb}
use lib.ListN.{length, get_or, drop, length-append, drop_of_length-le}
use lib.Seq.{drop-cons}
use borrow.Author.Tests.{ltb-true, ltb-false}
use Rattle.model.specs.Basics.{pick}
use Rattle.model.specs.Problems.{Problem}
use Rattle.model.specs.Vectors.{earlier}
use Rattle.model.specs.Costs.{costs_of}
use Rattle.model.specs.Bounds.{prefix_ok, bound_of}
use Rattle.model.specs.Frontiers.{Point, point}
use Rattle.model.specs.Core.{under, core_consistent}
use Rattle.model.specs.Search.{Held, nothing, just, matched, is_left, better, met, late, dead, tries, opens}
use Rattle.model.specs.Suffixes.{sharper}
use Rattle.model.proofs.Bits.{test}
use Rattle.model.proofs.Bounded.{bound_whole}
use Rattle.pass_search.specs.States.{gains_in, rule_of, opens_from, tries_from}
use Rattle.pass_search.proofs.PrefixSteps.{prefix_whole}

-- a complete choice is met where its costs are not dead
alive : (u m e : Bool) (x h : Held) → pick (u && not m) (pick e x h) h ≡ pick (not u || (m || not e)) h x
alive true true e x h = refl
alive true false true x h = refl
alive true false false x h = refl
alive false m e x h = refl

met_alive : (q : Problem) (ps : List Point) (x : List ℕ) (h : Held)
    → met q ps x h ≡ pick (dead q ps h (costs_of q x)) h (just (point (costs_of q x) x))
unfolding met is_left core_consistent better dead late
met_alive q ps x nothing =
    alive (under (costs_of q x) q.ceilings) (matched (costs_of q x) ps) true (just (point (costs_of q x) x)) nothing
met_alive q ps x (just w) =
    alive (under (costs_of q x) q.ceilings) (matched (costs_of q x) ps) (earlier (costs_of q x) w.costs)
    (just (point (costs_of q x) x)) (just w)

-- the gains leave the bound of a complete choice as it is
abbrev pub Unchanged : Problem → List ℕ → List ℕ → Type 0
Unchanged q work pre = length q.domains ≤ length pre → sharper q (gains_in q.objectives work) pre ≡ bound_of q pre

module _ (q : Problem) (work : List ℕ) (ps : List Point) (pre : List ℕ) (h : Held) where
  pub opens_leaf : prefix_ok q.domains pre ≡ true → Unchanged q work pre → length q.domains ≤ length pre
      → opens_from q work ps pre h ≡ pick (rule_of q work ps pre h) h (just (point (bound_of q pre) pre))
  unfolding opens
  opens_leaf ok same l =
      rw (drop_of_length-le q.domains l, same l, bound_whole q pre (prefix_whole q.domains pre ok l))
      (met_alive q ps pre h)

  pub opens_tries : length pre < length q.domains
      → opens_from q work ps pre h ≡ pick (rule_of q work ps pre h) h (tries_from q work ps pre 0 h)
  unfolding opens
  opens_tries l =
      let ds = q.domains in
      let k = length pre in
      let next : (a : ℕ) → suc k ≡ length (pre ++ (a ∷ [])) = λ a. omega (arith, length-append pre (a ∷ [])) in
      let same : ◌≡◌ {A = ℕ → Held → Held} (λ a g. opens q ps (rule_of q work ps) (drop (suc k) ds) (pre ++ (a ∷ [])) g)
      (λ a g. opens_from q work ps (pre ++ (a ∷ [])) g) =
      fun_ext (λ a. fun_ext (λ g. ap (λ i. opens q ps (rule_of q work ps) (drop i ds) (pre ++ (a ∷ [])) g) (next a))) in
      rw (drop-cons ds k 0 l, sub-zero) (ap (λ f. pick (rule_of q work ps pre h) h (tries (get_or ds k 0) 0 f h)) same)

  pub tries_end : (v : ℕ) → get_or q.domains (length pre) 0 ≤ v → tries_from q work ps pre v h ≡ h
  unfolding tries
  tries_end v l =
      let none : get_or q.domains (length pre) 0 - v ≡ 0 = omega arith in
      rw none refl

  pub tries_next : (v : ℕ) → v < get_or q.domains (length pre) 0
      → tries_from q work ps pre v h ≡ tries_from q work ps pre (v + 1) (opens_from q work ps (pre ++ (v ∷ [])) h)
  unfolding tries
  tries_next v l =
      let d = get_or q.domains (length pre) 0 in
      let one : d - v ≡ suc (d - (v + 1)) = omega arith in
      rw (one, add-one) refl

  -- a prefix whose bound is dead is left as it is
  pub opens_dead : prefix_ok q.domains pre ≡ true → Unchanged q work pre → rule_of q work ps pre h ≡ true
      → opens_from q work ps pre h ≡ h
  opens_dead ok same e =
      ⊎_elim
      (λ (t : ltb (length pre) (length q.domains) ≡ true). opens_tries (ltb-true _ _ t) ∙ rw e refl)
      (λ (t : ltb (length pre) (length q.domains) ≡ false). opens_leaf ok same (ltb-false _ _ t) ∙ rw e refl)
      (test (ltb (length pre) (length q.domains)))
