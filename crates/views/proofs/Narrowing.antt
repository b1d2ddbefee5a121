-- The domain sizes that a side leaves: how many they are, that they are domain sizes, and an array filled with them one
-- by one.
use mathlib.Core.Logic.{⊎_elim}
use mathlib.Core.Path.{◌≡◌, refl, sym, ◌∙◌}
use mathlib.Core.Bool.{true, false}
use mathlib.Core.List.{List, [], ◌∷◌, ◌++◌}
use Prim.Native.Nat.{ℕ, suc, ◌+◌, ◌-◌, ◌≤◌, ◌<◌}
use native.Mathlib.Omega.{arith}
use native.Mathlib.Numerals.{add-one}
use lib.Dec.{eqb}
use lib.ListN.{length, get_or, set, take, replicate}
use lib.Seq.{take-suc, length-take-le, take_all, take_at, set_at, append_snoc}
use Rattle.model.specs.Basics.{All, pick}
use Rattle.model.specs.Limits.{max_variables}
use Rattle.model.specs.Problems.{DomainSize}
use Rattle.model.specs.Views.{narrowed}
use Rattle.model.proofs.Bits.{test, pick_both}
use Rattle.model.proofs.Spread.{narrowed_length as side-length}

module _ (k : ℕ) where
  pub narrowed_length : (ss ds : List ℕ) → length ss ≡ length ds → length (narrowed k ss ds) ≡ length ds
  narrowed_length ss ds e = side-length k ss ds (sym e) ∙ e

  -- one value is a domain size too
  pub narrowed_small : (ss ds : List ℕ) → All DomainSize ds → All DomainSize (narrowed k ss ds)
  unfolding narrowed
  narrowed_small [] ds h = tt
  narrowed_small (s ∷ ss) [] h = tt
  narrowed_small (s ∷ ss) (d ∷ ds) h = (
    pick_both DomainSize (eqb s k) h.0 (omega arith),
    narrowed_small ss ds h.1,
  )

  narrowed_snoc : (ss ds : List ℕ) (s d : ℕ) → length ss ≡ length ds
      → narrowed k (ss ++ s ∷ []) (ds ++ d ∷ []) ≡ narrowed k ss ds ++ pick (eqb s k) d 1 ∷ []
  unfolding narrowed
  narrowed_snoc [] [] s d e = refl
  narrowed_snoc [] (x ∷ ds) s d e = absurd (omega arith)
  narrowed_snoc (x ∷ ss) [] s d e = absurd (omega arith)
  narrowed_snoc (x ∷ ss) (y ∷ ds) s d e = rw (narrowed_snoc ss ds s d (omega arith))

-- v of them are in the array, and then ones
pub record Narrowing (k : ℕ) (ss ds array : List ℕ) (v : ℕ) : Type 0 where
  pub same : length ss ≡ length ds
  pub few : length ds ≤ max_variables
  pub before : v ≤ length ds
  pub holds : array ≡ narrowed k (take v ss) (take v ds) ++ replicate (max_variables - v) 1

pub narrowing_start : (k : ℕ) (ss ds : List ℕ) → length ss ≡ length ds → length ds ≤ max_variables
    → Narrowing k ss ds (replicate max_variables 1) 0
unfolding narrowed
narrowing_start k ss ds e few = record { same = e; few = few; before = omega arith; holds = refl }

module _ {k : ℕ} {ss ds array : List ℕ} {v : ℕ} (u : Narrowing k ss ds array v) where
  abbrev front : List ℕ
  front = narrowed k (take v ss) (take v ds)

  fronts_length : length (take v ss) ≡ length (take v ds)
  fronts_length = length-take-le v ss (omega (arith, u.same, u.before)) ∙ sym (length-take-le v ds u.before)

  front_length : length front ≡ v
  front_length = narrowed_length k (take v ss) (take v ds) fronts_length ∙ length-take-le v ds u.before

  pub narrowing_end : length ds ≤ v → take (length ds) array ≡ narrowed k ss ds
  narrowing_end h =
      let last : v ≡ length ds = omega (arith, u.before) in
      let all : front ≡ narrowed k ss ds = rw (take_all v ss (omega (arith, u.same)), take_all v ds h) in
      rw (u.holds, ← last) (take_at front (replicate (max_variables - v) 1) v front_length ∙ all)

  module _ (more : v < length ds) where
    abbrev rest : List ℕ
    rest = replicate (max_variables - (v + 1)) 1

    ones : array ≡ front ++ 1 ∷ rest
    ones =
        let one : max_variables - v ≡ suc (max_variables - (v + 1)) = omega (arith, u.few) in
        rw one at u.holds

    grown :
        narrowed k (take (v + 1) ss) (take (v + 1) ds) ++ rest
        ≡ front ++ pick (eqb (get_or ss v 0) k) (get_or ds v 0) 1 ∷ rest
    grown =
        let side : take (v + 1) ss ≡ take v ss ++ get_or ss v 0 ∷ [] = rw add-one
        (take-suc ss v 0 (omega (arith, u.same))) in
        let size : take (v + 1) ds ≡ take v ds ++ get_or ds v 0 ∷ [] = rw add-one (take-suc ds v 0 more) in
        rw (side, size, narrowed_snoc k (take v ss) (take v ds) (get_or ss v 0) (get_or ds v 0) fronts_length)
        (append_snoc front (pick (eqb (get_or ss v 0) k) (get_or ds v 0) 1) rest)

    next : (new : List ℕ) → new ≡ front ++ pick (eqb (get_or ss v 0) k) (get_or ds v 0) 1 ∷ rest
        → Narrowing k ss ds new (v + 1)
    next new e = record { same = u.same; few = u.few; before = omega arith; holds = e ∙ sym grown }

    -- a variable of the side keeps its domain, another has one value
    pub narrowing_own : eqb (get_or ss v 0) k ≡ true → Narrowing k ss ds (set array v (get_or ds v 0)) (v + 1)
    narrowing_own e =
        next (set array v (get_or ds v 0)) (rw (e, ones) (set_at front 1 rest (get_or ds v 0) v front_length))

    pub narrowing_other : eqb (get_or ss v 0) k ≡ false → Narrowing k ss ds array (v + 1)
    narrowing_other e = next array (rw e ones)

    -- either of them
    pub narrowing_step : (new : List ℕ)
        → new ≡ pick (eqb (get_or ss v 0) k) (set array v (get_or ds v 0)) array
        → Narrowing k ss ds new (v + 1)
    narrowing_step new e =
        ⊎_elim
        (λ (t : eqb (get_or ss v 0) k ≡ true). rw (e, t) (narrowing_own t))
        (λ (t : eqb (get_or ss v 0) k ≡ false). rw (e, t) (narrowing_other t))
        (test (eqb (get_or ss v 0) k))
