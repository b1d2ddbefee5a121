-- The form of an accepted problem in an array that it was written over.
use mathlib.Core.Path.{◌≡◌, ap}
use mathlib.Core.List.{List}
use Prim.Native.Nat.{ℕ, ◌≤◌}
use native.Mathlib.Omega.{arith}
use lib.ListN.{length, take, drop, length-append}
use Rattle.model.specs.Basics.{All}
use Rattle.model.specs.Encoding.{Byte}
use Rattle.model.specs.Calls.{over, work_verdict}
use Rattle.problem.specs.declared.Problem as DQ
use Rattle.problem.proofs.Accepted.{AcceptedReading}
use Rattle.problem.proofs.Readings.{objectives_are, variables_are}
use Rattle.answers.specs.Early.{early_of}
use Rattle.form_canonical.specs.Canonical.{canonical_bytes}
use Rattle.form_canonical.proofs.CanonicalBytes.{form_length}
use Rattle.form_call.proofs.FormAnswers.{form_taken}
use Rattle.cache_answers.specs.Stores.{slot_size, costs_at}
use Rattle.cache_call.specs.Steps.{Counted, NotHeld}

module _ {s : List ℕ} {g : DQ.Problem} (a : AcceptedReading s g) where
  pub header_counted : Counted g.head
  header_counted = record { objectives = a.few_objectives; variables = a.few_variables }

  module _ (bytes : All Byte s) (buffer : List ℕ) {buffer' : List ℕ}
      (written : buffer' ≡ over (canonical_bytes s) buffer) where
    long : length (canonical_bytes s) ≡ length s
    long = form_length s bytes a.none

    pub form_inside : length s ≤ length buffer'
    unfolding over
    form_inside =
        let behind = drop (length (canonical_bytes s)) buffer in
        omega (arith, ap length written, length-append (canonical_bytes s) behind, long)

    pub form_held : take (length s) buffer' ≡ canonical_bytes s
    form_held = form_taken s buffer bytes a.none buffer' written

    pub form_short_lem : length (take (length s) buffer') ≤ costs_at
    form_short_lem = omega (arith, ap length form_held, long, a.short)

    pub not_held : (work store : List ℕ) → (early_of s (length work)).number ≡ 0 → slot_size ≤ length store
        → NotHeld s (take (length s) buffer') g.head work store
    unfolding work_verdict
    not_held work store none slot =
        record {
          fine = none;
          counted = header_counted;
          objectives = objectives_are s g a;
          variables = variables_are s g a;
          short = form_short_lem;
          slot = slot;
        }
