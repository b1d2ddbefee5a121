-- The call's three answers: a refused problem, a buffer that is too short, the form with its key.
use mathlib.Core.Path.{◌≡◌, refl, sym, ◌∙◌, ap}
use mathlib.Core.List.{List}
use Prim.Native.Nat.{ℕ, ◌≤◌, ◌<◌}
use native.Mathlib.Omega.{arith}
use lib.Dec.{ltb}
use lib.ListN.{length, take}
use lib.Seq.{take_at}
use borrow.Author.Tests.{lt-ltb, le-ltb, ne_eqb}
use Rattle.model.specs.Basics.{All, when, pick}
use Rattle.model.specs.Refusals.{Verdict, verdict, accepted, first}
use Rattle.model.specs.Encoding.{Byte}
use Rattle.model.specs.Reading.{verdict_of}
use Rattle.model.specs.Calls.{over, answers}
use Rattle.model.specs.Reasons.{number_of, told, value_or}
use Rattle.model.specs.declared.Reason.TheVariants.{Output}
use Rattle.model.specs.declared.Refusal.{Refusal}
use Rattle.std.specs.Prelude.{Result, Ok, Err}
use Rattle.model.proofs.Reading.{accepted_place}
use Rattle.model.proofs.Reasons.{number_positive}
use Rattle.problem.proofs.Chains.{stop_verdict}
use Rattle.form_keys.specs.Keys.{key_of}
use Rattle.form_canonical.specs.Canonical.{canonical_bytes, form_short, CanonicalOutcome, canonical_outcome}
use Rattle.form_canonical.specs.Says.{no_form, CanonicalSays}
use Rattle.form_canonical.specs.declared.Canonical as DC
use Rattle.form_canonical.proofs.CanonicalBytes.{form_length}

abbrev outcome : Verdict → (count key : ℕ) → List ℕ → CanonicalOutcome
outcome v count key form = record { verdict = v; count = count; key = key; form = form }

tells : {o : CanonicalOutcome} {form : List ℕ} (r : Result DC.Canonical Refusal)
    → o ≡ outcome (told r) (value_or no_form r).count (value_or no_form r).key form → CanonicalSays o form r
tells r e =
    record {
      verdict = sym (ap (λ (o : CanonicalOutcome). o.verdict) e);
      count = sym (ap (λ (o : CanonicalOutcome). o.count) e);
      key = sym (ap (λ (o : CanonicalOutcome). o.key) e);
      form = sym (ap (λ (o : CanonicalOutcome). o.form) e);
    }

-- the outcome by its verdict
unfoldable judged : Verdict → List ℕ → List ℕ → CanonicalOutcome
judged v form buffer =
    outcome v (when (answers v) (length form)) (when (answers v) (key_of form))
    (pick (answers v) (over form buffer) buffer)

judged_refused : (v : Verdict) (form buffer : List ℕ) → (v.number ≡ 0 → ⊥)
    → judged v form buffer ≡ outcome v 0 0 buffer
unfolding judged
judged_refused v form buffer h = rw (ne_eqb v.number 0 h) refl

module _ (s buffer : List ℕ) where
  pub refused_answer : (r : Refusal) → verdict (number_of r.reason) r.place ≡ verdict_of s
      → CanonicalSays (canonical_outcome s buffer) buffer (Err r)
  unfolding canonical_outcome judged
  refused_answer r e =
      let form = canonical_bytes s in
      let refuses : (verdict_of s).number ≡ 0 → ⊥ =
      λ z. number_positive r.reason (ap (λ (v : Verdict). v.number) e ∙ z) in
      tells (Err r)
      (ap (λ (v : Verdict). judged v form buffer) (stop_verdict (verdict_of s) _ refuses)
      ∙ judged_refused (verdict_of s) form buffer refuses
      ∙ ap (λ (v : Verdict). outcome v 0 0 buffer) (sym e))

  module _ (bytes : All Byte s) (fine : (verdict_of s).number ≡ 0) where
    long : length (canonical_bytes s) ≡ length s
    long = form_length s bytes fine

    pub short_answer : (r : Refusal) → r.reason ≡ Output → r.place ≡ 0 → length buffer < length s
        → CanonicalSays (canonical_outcome s buffer) buffer (Err r)
    unfolding canonical_outcome judged
    short_answer r why here h =
        let form = canonical_bytes s in
        let short : length buffer < length form = omega (arith, long) in
        let short_told : first (verdict_of s) (pick (ltb (length buffer) (length form)) (verdict form_short 0) accepted)
        ≡ verdict form_short 0 =
        rw (accepted_place s fine, lt-ltb (length buffer) (length form) short) refl in
        tells (Err r)
        (ap (λ (v : Verdict). judged v form buffer) short_told
        ∙ judged_refused (verdict form_short 0) form buffer (λ z. omega arith)
        ∙ rw (why, here) refl)

    -- the form is the start of the buffer
    pub form_taken : (buffer' : List ℕ) → buffer' ≡ over (canonical_bytes s) buffer
        → take (length s) buffer' ≡ canonical_bytes s
    unfolding over
    form_taken buffer' written = ap (take (length s)) written ∙ take_at (canonical_bytes s) _ (length s) long

    pub form_lent : (buffer' : List ℕ) → buffer' ≡ over (canonical_bytes s) buffer
        → length s ≡ length (take (length s) buffer')
    form_lent buffer' written = sym (ap length (form_taken buffer' written) ∙ long)

    pub form_answer : (buffer' : List ℕ) (key : ℕ) → length s ≤ length buffer
        → buffer' ≡ over (canonical_bytes s) buffer → key ≡ key_of (take (length s) buffer')
        → CanonicalSays (canonical_outcome s buffer) buffer' (Ok (record { count = length s; key = key }))
    unfolding canonical_outcome judged
    form_answer buffer' key room written told_key =
        let form = canonical_bytes s in
        let fits : length form ≤ length buffer = omega (arith, long) in
        let fine-verdict :
        first (verdict_of s) (pick (ltb (length buffer) (length form)) (verdict form_short 0) accepted)
        ≡ accepted =
        rw (accepted_place s fine, le-ltb (length buffer) (length form) fits) refl in
        let same : key ≡ key_of form = told_key ∙ ap key_of (form_taken buffer' written) in
        tells (Ok (record { count = length s; key = key }))
        (ap (λ (v : Verdict). judged v form buffer) fine-verdict ∙ rw (sym written, sym same, sym long) refl)
