-- What the calls that list the frontier refuse before they search: numbers 1 to 11, then 12; and the whole verdict,
-- which is this one and then the room's.
use mathlib.Core.Path.{◌≡◌, refl, sym, ◌∙◌}
use mathlib.Core.Bool.{Bool, false}
use mathlib.Core.List.{List}
use Prim.Native.Nat.{ℕ, ◌≤◌, ◌<◌}
use native.Mathlib.Omega.{arith}
use lib.Dec.{eqb, ltb}
use lib.ListN.{length}
use borrow.Author.Tests.{ltb-false, eq-eqb, lt-ltb, le-ltb}
use Rattle.model.specs.Basics.{pick}
use Rattle.model.specs.Limits.{max_bytes, work_need}
use Rattle.model.specs.Refusals.{work_short, full, Verdict, verdict, accepted, first}
use Rattle.model.specs.Reading.{verdict_of, problem_of}
use Rattle.model.specs.Frontiers.{frontier}
use Rattle.model.specs.Calls.{work_verdict, room_verdict, solve_verdict}
use Rattle.model.proofs.Bits.{pick_both}
use Rattle.model.proofs.Verdicts.{first_has, first_assoc, first_accepts, test_accepts}
use Rattle.model.proofs.Places.{refused_number, place_limit}
use Rattle.model.specs.Reasons.{number_of}
use Rattle.model.specs.declared.Refusal.{Refusal}
use Rattle.model.proofs.Reasons.{number_refuses}
use Rattle.answers.specs.Early.{short_of, early_of}

-- a number below 15, and a place in the bytes
abbrev pub Early : Verdict → Type 0
Early v = (v.number < full) × (v.place ≤ max_bytes)

pub short_limits : (k : ℕ) → Early (short_of k)
short_limits k = pick_both Early (ltb k work_need) (omega arith) (omega arith)

pub short_open : (k : ℕ) → (short_of k).number ≡ 0 → work_need ≤ k
short_open k h = ltb-false k work_need (test_accepts (ltb k work_need) work_short 0 accepted refl h).0

module _ (s : List ℕ) (k : ℕ) where
  pub early_limits : Early (early_of s k)
  early_limits =
      first_has Early (verdict_of s) (short_of k) (omega (arith, refused_number s), place_limit s)
      (λ _. short_limits k)

  -- what reading refuses is refused
  pub read_refused : (r : Refusal) → verdict (number_of r.reason) r.place ≡ verdict_of s
      → verdict (number_of r.reason) r.place ≡ early_of s k
  read_refused r e = e ∙ sym (rw (← e, number_refuses r.reason) refl)

  -- a problem that is read
  module _ (read : verdict_of s ≡ accepted) where
    pub early_short : k < work_need → verdict work_short 0 ≡ early_of s k
    early_short h = sym (rw (read, lt-ltb k work_need h) refl)

    pub early_passed : work_need ≤ k → accepted ≡ early_of s k
    early_passed h = sym (rw (read, le-ltb k work_need h) refl)

  -- nothing is refused
  module _ (fine : accepted ≡ early_of s k) where
    pub early_none : (early_of s k).number ≡ 0
    early_none = rw (← fine) refl

    pub early_enough : work_need ≤ k
    early_enough = short_open k (first_accepts (verdict_of s) (short_of k) early_none).1

-- the whole verdict of the calls that list the frontier, for any room
module _ (s w : List ℕ) (room : ℕ) where
  abbrev early : Verdict
  early = early_of s (length w)

  whole : solve_verdict s w room ≡ first early (room_verdict room (frontier (problem_of s)))
  unfolding solve_verdict work_verdict
  whole = sym (first_assoc (verdict_of s) (short_of (length w)) (room_verdict room (frontier (problem_of s))))

  pub early_verdict_lem : eqb early.number 0 ≡ false → solve_verdict s w room ≡ early
  early_verdict_lem h = whole ∙ rw h refl

  pub room_verdict_lem : early.number ≡ 0 → (t : Bool) → t ≡ ltb room (length (frontier (problem_of s)))
      → solve_verdict s w room ≡ pick t (verdict full 0) accepted
  unfolding room_verdict
  room_verdict_lem h t e = whole ∙ rw (eq-eqb early.number 0 h, e) refl
