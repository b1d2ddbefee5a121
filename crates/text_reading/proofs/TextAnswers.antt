-- The call's four answers: a text that is refused, records that are too long, a buffer that is too short, the records.
use mathlib.Core.Path.{◌≡◌, refl, ◌∙◌, ap}
use mathlib.Core.List.{List}
use Prim.Native.Nat.{ℕ, ◌≤◌, ◌<◌}
use native.Mathlib.Omega.{arith}
use lib.ListN.{length}
use Rattle.model.specs.Limits.{max_bytes}
use Rattle.model.specs.Refusals.{Verdict, verdict, accepted}
use Rattle.model.specs.Encoding.{encode}
use Rattle.model.specs.Reasons.{number_of}
use Rattle.model.specs.declared.Reason.TheVariants.{Dialect, Output}
use Rattle.model.specs.declared.Refusal.{Refusal}
use Rattle.model.specs.Calls.{over}
use Rattle.model.proofs.Reasons.{number_positive}
use Rattle.std.specs.Prelude.{Ok, Err}
use Rattle.text_words.specs.Texts.{words_of}
use Rattle.text_networks.specs.Findings.{fine}
use Rattle.text_networks.specs.Networks.{network_finding, network_problem}
use Rattle.text_networks.specs.Conversions.{bad_dialect, text_verdict, converted}
use Rattle.text_networks.specs.Conversions as TextNumbers
use Rattle.text_networks.specs.Conversions.{from_text_outcome}
use Rattle.text_networks.specs.Says.{ConvertSays}
use Rattle.text_networks.proofs.Converting.{tells, convert_refused, convert_short, convert_written}
use Rattle.text_networks.proofs.TextVerdicts.{verdict_told, verdict_long, verdict_fine}

module _ (s problem : List ℕ) where
  abbrev form : List ℕ
  form = encode (network_problem (words_of s))

  by : (v : Verdict) → text_verdict s ≡ v → from_text_outcome s problem ≡ converted v form problem
  unfolding from_text_outcome
  by v e = ap (λ (w : Verdict). converted w form problem) e

  pub refused_answer : (r : Refusal) → r.place ≡ 0
      → number_of r.reason ≡ TextNumbers.number_of (network_finding (words_of s))
      → ConvertSays (from_text_outcome s problem) problem (Err r)
  refused_answer r here e =
      let n = number_of r.reason in
      let h = number_positive r.reason in
      tells (Err r)
      (by (verdict n 0) (verdict_told s n e h) ∙ convert_refused (verdict n 0) form problem h ∙ rw here refl)

  module _ (e : network_finding (words_of s) ≡ fine) where
    pub long_answer : (r : Refusal) → r.reason ≡ Dialect → r.place ≡ 0 → max_bytes < length form
        → ConvertSays (from_text_outcome s problem) problem (Err r)
    long_answer r why here h =
        let v = verdict bad_dialect 0 in
        tells (Err r)
        (by v (verdict_long s e h) ∙ convert_refused v form problem (λ z. omega arith) ∙ rw (why, here) refl)

    module _ (short : length form ≤ max_bytes) where
      pub short_answer : (r : Refusal) → r.reason ≡ Output → r.place ≡ 0 → length problem < length form
          → ConvertSays (from_text_outcome s problem) problem (Err r)
      short_answer r why here h =
          tells (Err r)
          (by accepted (verdict_fine s e short) ∙ convert_short accepted form problem refl h ∙ rw (why, here) refl)

      pub records_answer : {problem' : List ℕ} {count : ℕ} → length form ≤ length problem → count ≡ length form
          → problem' ≡ over form problem → ConvertSays (from_text_outcome s problem) problem' (Ok count)
      records_answer {problem'} {count} h k w =
          tells (Ok count)
          (by accepted (verdict_fine s e short) ∙ convert_written accepted form problem refl h ∙ rw (k, w) refl)
