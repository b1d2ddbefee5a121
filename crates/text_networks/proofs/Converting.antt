-- What a conversion answers: the verdict refuses; the buffer is too short; the form is written.
use mathlib.Core.Path.{◌≡◌, refl}
use mathlib.Core.Bool.{false}
use mathlib.Core.List.{List}
use Rattle.std.specs.Prelude.{Result}
use Prim.Native.Nat.{ℕ, ◌≤◌, ◌<◌}
use lib.Dec.{eqb, ltb}
use lib.ListN.{length}
use borrow.Author.Tests.{eq-eqb, ne_eqb, lt-ltb, le-ltb, ltb-false}
use Rattle.model.specs.Basics.{pick}
use Rattle.model.specs.Refusals.{Verdict, verdict, accepted}
use Rattle.model.specs.Reasons.{told, value_or}
use Rattle.model.specs.declared.Refusal.{Refusal}
use Rattle.model.specs.Calls.{over}
use Rattle.model.proofs.Verdicts.{first_accepts, test_accepts}
use Rattle.text_networks.specs.Conversions.{output_short, ConvertOutcome, converted}
use Rattle.text_networks.specs.Says.{ConvertSays}

-- an answer that tells an outcome
pub tells : {o : ConvertOutcome} {output' : List ℕ} (r : Result ℕ Refusal)
    → o ≡ record { verdict = told r; count = value_or 0 r; output = output' } → ConvertSays o output' r
tells r e = record { verdict = rw e refl; count = rw e refl; output = rw e refl }

abbrev pub refusal : Verdict → List ℕ → ConvertOutcome
refusal v output = record { verdict = v; count = 0; output = output }

module _ (v : Verdict) (form output : List ℕ) where
  pub convert_refused : (v.number ≡ 0 → ⊥) → converted v form output ≡ refusal v output
  unfolding converted
  convert_refused h =
      let refuses : eqb v.number 0 ≡ false = ne_eqb v.number 0 h in
      rw (refuses, refuses) refl

  pub convert_short : v.number ≡ 0 → length output < length form
      → converted v form output ≡ refusal (verdict output_short 0) output
  unfolding converted
  convert_short e h = rw (eq-eqb v.number 0 e, lt-ltb (length output) (length form) h) refl

  pub convert_written : v.number ≡ 0 → length form ≤ length output
      → converted v form output
      ≡ record { verdict = accepted; count = length form; output = over form output }
  unfolding converted
  convert_written e h = rw (eq-eqb v.number 0 e, le-ltb (length output) (length form) h) refl

  -- where nothing is refused the form was accepted, and fits
  pub convert_accepts : (converted v form output).verdict.number ≡ 0
      → (v.number ≡ 0) × (length form ≤ length output)
  unfolding converted
  convert_accepts h =
      let short = ltb (length output) (length form) in
      let parts = first_accepts v (pick short (verdict output_short 0) accepted) h in
      (parts.0, ltb-false _ _ (test_accepts short output_short 0 accepted refl parts.1).0)
