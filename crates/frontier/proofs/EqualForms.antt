-- Two calls for the canonical form, by their promises alone: layouts of one problem have one form and one key, and what
-- has one form has one frontier list.
use mathlib.Core.Path.{◌≡◌, sym, ◌∙◌, ap}
use mathlib.Core.List.{List}
use Prim.Native.Nat.{ℕ}
use lib.ListN.{take}
use Rattle.model.specs.Reading.{problem_of}
use Rattle.model.specs.Frontiers.{frontier}
use Rattle.model.proofs.Reading.{accepted_encoded}
use Rattle.form_keys.specs.Keys.{key_of}
use Rattle.form_canonical.specs.Canonical.{canonical_bytes, canonical_outcome}
use Rattle.form_canonical.specs.Statements.{SameProblem}
use Rattle.form_canonical.proofs.CanonicalCalls.{call_accepts, call_key, call_form}
use Rattle.form_canonical.proofs.Statements.{canonical_laws}
use Rattle.frontier.specs.Says.{CanonicalExports}

-- what one call has written and told
module _ (s buffer : List ℕ) {form' : List ℕ} {n at k key : ℕ}
    (a : CanonicalExports s (canonical_outcome s buffer) form' n at k key) (h : n ≡ 0) where
  pub written_form : take k form' ≡ canonical_bytes s
  written_form = rw (a.count, a.form) (call_form s buffer (sym a.number ∙ h))

  pub told_key : key ≡ key_of (canonical_bytes s)
  told_key = a.key ∙ call_key s buffer (sym a.number ∙ h)

module _ (s t buffer buffer' : List ℕ) {form form' : List ℕ} {n m at to k j key key' : ℕ}
    (a : CanonicalExports s (canonical_outcome s buffer) form n at k key)
    (b : CanonicalExports t (canonical_outcome t buffer') form' m to j key') (h : n ≡ 0) (e : m ≡ 0) where
  one_form : SameProblem (problem_of s) (problem_of t) → canonical_bytes s ≡ canonical_bytes t
  one_form same =
      canonical_laws.same_form (problem_of s) (problem_of t)
      (accepted_encoded s a.bytes (call_accepts s buffer (sym a.number ∙ h))).0
      (accepted_encoded t b.bytes (call_accepts t buffer' (sym b.number ∙ e))).0 same

  pub equal_forms : SameProblem (problem_of s) (problem_of t) → (take k form ≡ take j form') × (key ≡ key')
  equal_forms same =
      let one = one_form same in
      let keys : key ≡ key' = told_key s buffer a h ∙ ap key_of one ∙ sym (told_key t buffer' b e) in
      (written_form s buffer a h ∙ one ∙ sym (written_form t buffer' b e), keys)

  pub equal_frontiers : take k form ≡ take j form' → frontier (problem_of s) ≡ frontier (problem_of t)
  equal_frontiers same =
      canonical_laws.form_tells s t a.bytes b.bytes (call_accepts s buffer (sym a.number ∙ h))
      (call_accepts t buffer' (sym b.number ∙ e))
      (sym (written_form s buffer a h) ∙ same ∙ written_form t buffer' b e)
