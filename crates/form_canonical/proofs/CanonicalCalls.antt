-- What the canonical call answers where it does not refuse: the form over the start of the buffer, its length, its key.
use mathlib.Core.Path.{◌≡◌, refl}
use mathlib.Core.List.{List}
use Prim.Native.Nat.{ℕ}
use lib.Dec.{ltb}
use lib.ListN.{length, take}
use lib.Seq.{take_at}
use borrow.Author.Tests.{eq-eqb}
use Rattle.model.specs.Basics.{pick}
use Rattle.model.specs.Refusals.{verdict, accepted}
use Rattle.model.specs.Reading.{verdict_of}
use Rattle.model.specs.Calls.{over}
use Rattle.model.proofs.Verdicts.{first_accepts}
use Rattle.form_keys.specs.Keys.{key_of}
use Rattle.form_canonical.specs.Canonical.{canonical_bytes, form_short, canonical_outcome}

module _ (s buffer : List ℕ) (h : (canonical_outcome s buffer).verdict.number ≡ 0) where
  pub call_accepts : (verdict_of s).number ≡ 0
  unfolding canonical_outcome
  call_accepts =
      let short = ltb (length buffer) (length (canonical_bytes s)) in
      (first_accepts (verdict_of s) (pick short (verdict form_short 0) accepted) h).0

  pub call_key : (canonical_outcome s buffer).key ≡ key_of (canonical_bytes s)
  unfolding canonical_outcome
  call_key = rw (eq-eqb _ 0 h) refl

  pub call_form : take (canonical_outcome s buffer).count (canonical_outcome s buffer).form ≡ canonical_bytes s
  unfolding canonical_outcome over
  call_form = rw (eq-eqb _ 0 h) (take_at (canonical_bytes s) _ (length (canonical_bytes s)) refl)
