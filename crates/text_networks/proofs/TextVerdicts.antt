-- The verdict on a text by what is found in it and by how long its records are.
use mathlib.Core.Path.{◌≡◌, refl, sym, ◌∙◌, ap}
use mathlib.Core.Bool.{Bool, true, false}
use mathlib.Core.List.{List}
use Prim.Native.Nat.{ℕ, ◌≤◌, ◌<◌}
use native.Mathlib.Omega.{arith}
use lib.Dec.{ltb}
use lib.ListN.{length}
use borrow.Author.Tests.{lt-ltb, le-ltb, ne_eqb}
use Rattle.model.specs.Limits.{max_bytes}
use Rattle.model.specs.Refusals.{verdict, accepted, refused_at}
use Rattle.model.specs.Encoding.{encode}
use Rattle.text_words.specs.Texts.{words_of}
use Rattle.text_networks.specs.Findings.{Finding, fine, dialect, stop, fault, and_then, find_if}
use Rattle.text_networks.specs.Networks.{network_finding, network_problem}
use Rattle.text_networks.specs.Conversions.{bad_dialect, number_of, text_verdict}

-- what has no number is fine
pub number_none : (f : Finding) → number_of f ≡ 0 → f ≡ fine
unfolding number_of
number_none fine h = refl
number_none dialect h = absurd (omega arith)
number_none stop h = absurd (omega arith)
number_none fault h = absurd (omega arith)

-- a number that is told is not changed by how long the records are
number_told : (f : Finding) (long : Bool) → (number_of f ≡ 0 → ⊥)
    → number_of (and_then f (find_if long dialect)) ≡ number_of f
unfolding number_of and_then
number_told fine long h = absurd (h refl)
number_told dialect true h = refl
number_told dialect false h = refl
number_told stop long h = refl
number_told fault long h = refl

module _ (s : List ℕ) where
  abbrev bytes : ℕ
  bytes = length (encode (network_problem (words_of s)))

  pub verdict_told : (n : ℕ) → n ≡ number_of (network_finding (words_of s)) → (n ≡ 0 → ⊥) → text_verdict s ≡ verdict n 0
  unfolding text_verdict
  verdict_told n e h =
      let f = network_finding (words_of s) in
      let told : number_of (and_then f (find_if (ltb max_bytes bytes) dialect)) ≡ n =
      number_told f (ltb max_bytes bytes) (λ z. h (e ∙ z)) ∙ sym e in
      ap (refused_at 0) told ∙ rw (ne_eqb n 0 h) refl

  module _ (e : network_finding (words_of s) ≡ fine) where
    pub verdict_long : max_bytes < bytes → text_verdict s ≡ verdict bad_dialect 0
    unfolding text_verdict number_of and_then
    verdict_long h = rw (e, lt-ltb max_bytes bytes h) refl

    pub verdict_fine : bytes ≤ max_bytes → text_verdict s ≡ accepted
    unfolding text_verdict number_of and_then
    verdict_fine h = rw (e, le-ltb max_bytes bytes h) refl
