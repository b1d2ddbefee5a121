-- A lent buffer after a call: what a verdict leaves of it, and that what is written does not depend on what it held.
use mathlib.Core.Path.{◌≡◌, refl, sym, subst, ◌∙◌}
use mathlib.Core.Bool.{Bool, true, false}
use mathlib.Core.List.{List}
use Prim.Native.Nat.{ℕ, ◌*◌, ◌≤◌}
use native.Mathlib.Omega.{arith}
use native.Mathlib.Nat.{zero-mul, pos_of_ne-zero}
use lib.ListN.{length, take, drop, length-append, length-drop}
use lib.Seq.{take_at, drop_at}
use borrow.Author.Tests.{eqb-true, eqb-false, ne_eqb}
use Rattle.model.specs.Basics.{pick, All}
use Rattle.model.specs.Refusals.{Verdict}
use Rattle.model.specs.Problems.{Problem}
use Rattle.model.specs.Frontiers.{Point, frontier}
use Rattle.model.specs.Calls.{over, answers, room_of, flat_costs, flat_choices, work_after}
use Rattle.model.specs.Demands.{Kept, Cleared}
use Rattle.model.proofs.Flat.{Wide, costs_long, choices_long, frontier_wide, costs_fit, choices_fit}

-- ## one buffer

pub refuses : (v : Verdict) → 1 ≤ v.number → answers v ≡ false
refuses v h = ne_eqb v.number 0 (λ e. omega (arith, e, h))

-- k elements are written where the call answers, and they fit
module _ {A : Type 0} (v : Verdict) (front : List A) (k : ℕ) where
  pub kept : (old : List A) → (v.number ≡ 0 → (k ≡ length front) × (k ≤ length old))
      → Kept v k old (pick (answers v) (over front old) old)
  unfolding over
  kept old fits = record {
    refused = λ h. rw (refuses v h) refl;
    beyond = beyond (answers v) refl;
    long = long (answers v) refl;
  }
    where
      beyond : (b : Bool) → answers v ≡ b → drop k (pick b (over front old) old) ≡ drop k old
      beyond true e =
          let k-is = (fits (eqb-true _ _ e)).0 in
          drop_at front (drop (length front) old) k (sym k-is) ∙ rw (← k-is) refl
      beyond false e = refl

      long : (b : Bool) → answers v ≡ b → length (pick b (over front old) old) ≡ length old
      long true e =
          let fact = fits (eqb-true _ _ e) in
          omega (arith, fact.0, fact.1, length-append front (drop (length front) old), length-drop (length front) old)
      long false e = refl

  -- they are the same whatever the buffer held
  pub same : (old old' : List A) → (v.number ≡ 0 → k ≡ length front) → (1 ≤ v.number → k ≡ 0)
      → take k (pick (answers v) (over front old) old) ≡ take k (pick (answers v) (over front old') old')
  unfolding over
  same old old' all none = go (answers v) refl
    where
      go : (b : Bool) → answers v ≡ b → take k (pick b (over front old) old) ≡ take k (pick b (over front old') old')
      go true e =
          let k-is = sym (all (eqb-true _ _ e)) in
          take_at front (drop (length front) old) k k-is ∙ sym (take_at front (drop (length front) old') k k-is)
      go false e = rw (none (pos_of_ne-zero (eqb-false _ _ e))) refl

pub cleared : (v : Verdict) (work : List ℕ) → Cleared v work (work_after v work)
unfolding work_after
cleared v work = record {
  answered = λ h. rw h refl;
  room_short = λ h. rw h refl;
  refused = λ h k. rw (refuses v h, k) refl;
}

-- ## points in the flat buffers

-- n points are listed, by a refusal none
abbrev pub counted : Verdict → ℕ → ℕ
counted v n = pick (answers v) n 0

pub none_counted : (v : Verdict) (n : ℕ) → 1 ≤ v.number → counted v n ≡ 0
none_counted v n h = rw (refuses v h) refl

-- a call that answers with the frontier list
module _ (q : Problem) (ps : List Point) (v : Verdict) (right : v.number ≡ 0 → ps ≡ frontier q) where
  abbrev p : ℕ
  p = q.objectives

  abbrev n : ℕ
  n = length q.domains

  abbrev costs_end : ℕ
  costs_end = counted v (length ps) * p

  abbrev choices_end : ℕ
  choices_end = counted v (length ps) * n

  wide : v.number ≡ 0 → All (Wide p n) ps
  wide h = subst (All (Wide p n)) (sym (right h)) (frontier_wide q)

  costs_all : v.number ≡ 0 → costs_end ≡ length (flat_costs ps)
  costs_all h = rw h (sym (costs_long p n ps (wide h)))

  choices_all : v.number ≡ 0 → choices_end ≡ length (flat_choices ps)
  choices_all h = rw h (sym (choices_long p n ps (wide h)))

  costs_none : 1 ≤ v.number → costs_end ≡ 0
  costs_none h = rw (refuses v h) (zero-mul p)

  choices_none : 1 ≤ v.number → choices_end ≡ 0
  choices_none h = rw (refuses v h) (zero-mul n)

  abbrev costs_after : List ℕ → List ℕ
  costs_after costs = pick (answers v) (over (flat_costs ps) costs) costs

  abbrev choices_after : List ℕ → List ℕ
  choices_after choices = pick (answers v) (over (flat_choices ps) choices) choices

  pub costs_same : (costs costs' : List ℕ) → take costs_end (costs_after costs) ≡ take costs_end (costs_after costs')
  costs_same costs costs' = same v (flat_costs ps) costs_end costs costs' costs_all costs_none

  pub choices_same : (choices choices' : List ℕ)
      → take choices_end (choices_after choices) ≡ take choices_end (choices_after choices')
  choices_same choices choices' = same v (flat_choices ps) choices_end choices choices' choices_all choices_none

  module _ (costs choices : List ℕ) (few : v.number ≡ 0 → length ps ≤ room_of q costs choices) where
    pub costs_left : Kept v costs_end costs (costs_after costs)
    costs_left =
        kept v (flat_costs ps) costs_end costs
        (λ h. (costs_all h, rw h (costs_fit q costs choices (length ps) (few h))))

    pub choices_left : Kept v choices_end choices (choices_after choices)
    choices_left =
        kept v (flat_choices ps) choices_end choices (λ h.
        (choices_all h, rw h (choices_fit q costs choices (length ps) (few h))))
