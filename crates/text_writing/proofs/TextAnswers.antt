-- The call's four answers: a refused problem, one that no text can hold, a buffer that is too short, the text.
use mathlib.Core.Path.{◌≡◌, refl, sym, ◌∙◌, ap}
use mathlib.Core.Bool.{true, false}
use mathlib.Core.List.{List, [], ◌∷◌, ◌++◌}
use Prim.Native.Nat.{ℕ, ◌≤◌, ◌<◌}
use native.Mathlib.Omega.{arith}
use lib.ListN.{length, drop}
use Rattle.model.specs.Refusals.{Verdict, verdict, accepted}
use Rattle.model.specs.Reading.{verdict_of, problem_of}
use Rattle.model.specs.Reasons.{number_of}
use Rattle.model.specs.declared.Reason.TheVariants.{Dialect, Output}
use Rattle.model.specs.declared.Refusal.{Refusal}
use Rattle.model.specs.Calls.{over}
use Rattle.std.specs.Prelude.{Ok, Err}
use Rattle.model.proofs.Reading.{accepted_place}
use Rattle.model.proofs.Reasons.{number_positive}
use Rattle.problem.proofs.Chains.{stop_verdict}
use Rattle.text_lines.specs.Written.{Written}
use Rattle.text_networks.specs.NetworkTexts.{network_text}
use Rattle.text_networks.specs.Conversions.{bad_dialect, ConvertOutcome, converted, unwritable}
use Rattle.text_networks.specs.Conversions.{to_text_verdict, to_text_outcome}
use Rattle.text_networks.specs.Says.{ConvertSays}
use Rattle.text_networks.proofs.Converting.{tells, convert_refused, convert_short, convert_written}

abbrev outcome : Verdict → ℕ → List ℕ → ConvertOutcome
outcome v count output = record { verdict = v; count = count; output = output }

-- a form that is written at the start of a buffer stands over it
written_over : {form text text' : List ℕ} {behind : ℕ} → Written 0 form text text' behind → behind ≤ length text
    → text' ≡ over form text
unfolding over
written_over {form} {text} {text'} {behind} w h =
    let long : behind ≡ length form = omega (arith, w.next) in
    w.there h ∙ ap (λ (n : ℕ). form ++ drop n text) long

-- a buffer after a call that was lent none of it
unchanged : (none text : List ℕ) → length none ≡ 0 → none ++ text ≡ text
unchanged [] text e = refl
unchanged (x ∷ xs) text e = absurd (omega arith)

-- ## the answers

module _ (s text : List ℕ) where
  pub refused_answer : (r : Refusal) → verdict (number_of r.reason) r.place ≡ verdict_of s
      → ConvertSays (to_text_outcome s text) text (Err r)
  unfolding to_text_outcome to_text_verdict
  refused_answer r e =
      let form = network_text (problem_of s) in
      let refuses : (verdict_of s).number ≡ 0 → ⊥ =
      λ z. number_positive r.reason (ap (λ (v : Verdict). v.number) e ∙ z) in
      tells (Err r)
      (ap (λ (v : Verdict). converted v form text) (stop_verdict (verdict_of s) _ refuses)
      ∙ convert_refused (verdict_of s) form text refuses
      ∙ ap (λ (v : Verdict). outcome v 0 text) (sym e))

  module _ (e : (verdict_of s).number ≡ 0) where
    pub unwritable_answer : (r : Refusal) → r.reason ≡ Dialect → r.place ≡ 0 → unwritable (problem_of s) ≡ true
        → ConvertSays (to_text_outcome s text) text (Err r)
    unfolding to_text_outcome to_text_verdict
    unwritable_answer r why here h =
        let form = network_text (problem_of s) in
        let refuses : to_text_verdict s ≡ verdict bad_dialect 0 =
        rw (accepted_place s e, h) refl in
        tells (Err r)
        (ap (λ (v : Verdict). converted v form text) refuses
        ∙ convert_refused (verdict bad_dialect 0) form text (λ z. omega arith)
        ∙ rw (why, here) refl)

    -- The form is measured in no buffer, then written.
    module _ (can : unwritable (problem_of s) ≡ false) {none : List ℕ} {long : ℕ}
        (measured : Written 0 (network_text (problem_of s)) [] none long) where
      fine : to_text_outcome s text ≡ converted accepted (network_text (problem_of s)) text
      unfolding to_text_outcome to_text_verdict
      fine = rw (accepted_place s e, can) refl

      pub short_answer : (r : Refusal) → r.reason ≡ Output → r.place ≡ 0 → length (none ++ text) < long
          → ConvertSays (to_text_outcome s text) (none ++ text) (Err r)
      short_answer r why here h =
          let same : none ++ text ≡ text = unchanged none text measured.kept in
          let form = network_text (problem_of s) in
          let short : length text < length form = omega (arith, measured.next, ap length same) in
          rw same (tells (Err r) (fine ∙ convert_short accepted form text refl short ∙ rw (why, here) refl))

      pub text_answer : {text' : List ℕ} {count : ℕ} → long ≤ length (none ++ text)
          → Written 0 (network_text (problem_of s)) (none ++ text) text' count
          → ConvertSays (to_text_outcome s text) text' (Ok count)
      text_answer {text'} {count} h put =
          let form = network_text (problem_of s) in
          let same : none ++ text ≡ text = unchanged none text measured.kept in
          let w : Written 0 form text text' count = rw same at put in
          let fits : count ≤ length text = omega (arith, measured.next, ap length same, w.next) in
          let whole : text' ≡ over form text = written_over w fits in
          let counted : count ≡ length form = omega (arith, w.next) in
          let wrote = convert_written accepted form text refl (omega (arith, w.next)) in
          tells (Ok count) (fine ∙ wrote ∙ rw (counted, whole) refl)
