-- What the call that writes text has written, the call that reads text reads back to records with the same frontier.
use mathlib.Core.Path.{◌≡◌, refl}
use mathlib.Core.Bool.{false}
use mathlib.Core.List.{List}
use Prim.Native.Nat.{ℕ, ◌≤◌}
use lib.ListN.{length, take, drop}
use lib.Seq.{take-append_seam}
use Rattle.model.specs.Basics.{All, pick}
use Rattle.model.specs.Refusals.{verdict, accepted}
use Rattle.model.specs.Encoding.{Byte, encode}
use Rattle.model.specs.Reading.{verdict_of, problem_of}
use Rattle.model.specs.Calls.{over}
use Rattle.model.proofs.Verdicts.{first_accepts, test_accepts}
use Rattle.model.proofs.Reading.{accepted_place}
use Rattle.text_networks.specs.NetworkTexts.{written, network_text}
use Rattle.text_networks.specs.Conversions.{bad_dialect, ConvertOutcome, unwritable, to_text_verdict}
use Rattle.text_networks.specs.Conversions.{to_text_outcome, from_text_outcome}
use Rattle.text_networks.specs.Statements.{ComeBack}
use Rattle.text_networks.proofs.Converting.{convert_accepts, convert_written}
use Rattle.text_networks.proofs.Statements.{text_laws}

-- number 0 has place 0
to_accepted : (s : List ℕ) → (to_text_verdict s).number ≡ 0 → to_text_verdict s ≡ accepted
unfolding to_text_verdict
to_accepted s h =
    let refused = unwritable (problem_of s) in
    let parts = first_accepts (verdict_of s) (pick refused (verdict bad_dialect 0) accepted) h in
    let fine : refused ≡ false = (test_accepts refused bad_dialect 0 accepted refl parts.1).0 in
    rw (accepted_place s parts.0, fine) refl

module _ (s text : List ℕ) (h : (to_text_outcome s text).verdict.number ≡ 0) where
  abbrev form : List ℕ
  form = network_text (problem_of s)

  abbrev outcome : ConvertOutcome
  outcome = to_text_outcome s text

  fits : ((to_text_verdict s).number ≡ 0) × (length form ≤ length text)
  unfolding to_text_outcome
  fits = convert_accepts (to_text_verdict s) form text h

  -- the bytes that are counted are the text
  pub text_counted : take outcome.count outcome.output ≡ form
  unfolding to_text_outcome over
  text_counted =
      rw (convert_written (to_text_verdict s) form text fits.0 fits.1)
      (take-append_seam form (drop (length form) text))

  pub text_back : (records : List ℕ) → All Byte s → length s ≤ length records
      → from_text_outcome (take outcome.count outcome.output) records
      ≡ record { verdict = accepted; count = length s; output = over (encode (written (problem_of s))) records }
  text_back records bytes room =
      rw text_counted (text_laws.read_back s records bytes (to_accepted s fits.0) room)

  pub records_back : All Byte s → ComeBack s (encode (written (problem_of s)))
  records_back bytes = text_laws.same_records s bytes (to_accepted s fits.0)
