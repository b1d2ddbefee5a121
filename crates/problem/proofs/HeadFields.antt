-- The header's number, test by test, and its ceilings, one after the other.
use mathlib.Core.Path.{◌≡◌, refl, ap, ◌∙◌}
use mathlib.Core.Bool.{true, false}
use mathlib.Core.List.{List, [], ◌∷◌, ◌++◌}
use Prim.Native.Nat.{ℕ, zero, suc, ◌+◌, ◌*◌, ◌≤◌, ◌<◌}
use native.Mathlib.Omega.{arith}
use native.Mathlib.Nat.{add-zero}
use borrow.Author.Tests.{lt-ltb, le-ltb}
use lib.Dec.{ltb}
use lib.ListN.{length, drop}
use lib.Seq.{drop-drop}
use Rattle.model.specs.Basics.{when}
use Rattle.model.specs.Limits.{max_variables, max_objectives, max_tables}
use Rattle.model.specs.Refusals.{cut_short, bad_variables, bad_objectives, bad_tables}
use Rattle.model.specs.Encoding.{letter_h, letter_d}
use Rattle.model.specs.Reading.{word4, words_in, start_number, outside, head_variables, head_objectives, head_tables}
use Rattle.model.specs.Reading.{head_length, head_number}
use Rattle.model.proofs.Verdicts.{none_when}
use Rattle.problem.proofs.Chains.{pass_number, stop_number, pass_test, stop_test, when_on}

module _ (s : List ℕ) where
  pub head_start : (start_number letter_h letter_d 4 s ≡ 0 → ⊥) → head_number s ≡ start_number letter_h letter_d 4 s
  unfolding head_number
  head_start h = stop_number _ _ h

  module _ (start : start_number letter_h letter_d 4 s ≡ 0) where
    pub head_variables_lem : outside max_variables (head_variables s) ≡ true → head_number s ≡ bad_variables
    unfolding head_number
    head_variables_lem h = pass_number _ start ∙ stop_test bad_variables _ refl h

    module _ (variables : outside max_variables (head_variables s) ≡ false) where
      pub head_objectives_lem : outside max_objectives (head_objectives s) ≡ true → head_number s ≡ bad_objectives
      unfolding head_number
      head_objectives_lem h = pass_number _ start ∙ pass_test bad_variables _ variables
          ∙ stop_test bad_objectives _ refl h

      module _ (objectives : outside max_objectives (head_objectives s) ≡ false) where
        pub head_tables_lem : max_tables < head_tables s → head_number s ≡ bad_tables
        unfolding head_number
        head_tables_lem h =
            pass_number _ start
            ∙ pass_test bad_variables _ variables
            ∙ pass_test bad_objectives _ objectives
            ∙ stop_test bad_tables _ refl (lt-ltb _ _ h)

        module _ (tables : head_tables s ≤ max_tables) where
          head_last : head_number s ≡ when (ltb (length s) (head_length s)) cut_short
          unfolding head_number
          head_last =
              pass_number _ start
              ∙ pass_test bad_variables _ variables
              ∙ pass_test bad_objectives _ objectives
              ∙ pass_test bad_tables _ (le-ltb _ _ tables)

          pub head_short : length s < head_length s → head_number s ≡ cut_short
          head_short h = head_last ∙ when_on cut_short (lt-ltb _ _ h)

          pub head_whole : head_length s ≤ length s → head_number s ≡ 0
          head_whole h = head_last ∙ none_when cut_short (le-ltb _ _ h)

pub words_more : (at : ℕ) (s : List ℕ) (i : ℕ)
    → words_in (suc i) (drop at s) ≡ words_in i (drop at s) ++ (word4 (drop (at + 4 * i) s) ∷ [])
unfolding words_in
words_more at s zero = rw add-zero
words_more at s (suc i) =
    let e : drop 4 (drop at s) ≡ drop (at + 4) s = drop-drop 4 at s in
    let k : at + 4 + 4 * i ≡ at + 4 * suc i = omega arith in
    ap (λ (l : List ℕ). word4 (drop at s) ∷ l) (rw (e, ← k) (words_more (at + 4) s i))
