-- A cost record's number, test by test.
use mathlib.Core.Path.{◌≡◌, refl, ap, ◌∙◌}
use mathlib.Core.Bool.{true, false, not}
use mathlib.Core.List.{List}
use Prim.Native.Nat.{ℕ, ◌+◌, ◌≤◌, ◌<◌}
use borrow.Author.Tests.{lt-ltb, le-ltb, le-leb, lt-leb}
use lib.Dec.{ltb}
use lib.ListN.{length}
use Rattle.model.specs.Basics.{first_of, when}
use Rattle.model.specs.Limits.{max_arity}
use Rattle.model.specs.Refusals.{cut_short, bad_owner, bad_arity, bad_scope}
use Rattle.model.specs.Problems.{scope_rule}
use Rattle.model.specs.Encoding.{letter_c, letter_f}
use Rattle.model.specs.Reading.{start_number, table_objective, table_arity, table_scope, table_length, table_number}
use Rattle.model.proofs.Verdicts.{none_when}
use Rattle.problem.proofs.Chains.{pass_number, stop_number, pass_test, stop_test, when_on}

module _ (p : ℕ) (ds s : List ℕ) where
  pub table_start : (start_number letter_c letter_f 2 s ≡ 0 → ⊥)
      → table_number p ds s ≡ start_number letter_c letter_f 2 s
  unfolding table_number
  table_start h = stop_number _ _ h

  module _ (start : start_number letter_c letter_f 2 s ≡ 0) where
    pub table_owner : p ≤ table_objective s → table_number p ds s ≡ bad_owner
    unfolding table_number
    table_owner h = pass_number _ start ∙ stop_test bad_owner _ refl (le-leb _ _ h)

    module _ (owner : table_objective s < p) where
      pub table_arity_lem : max_arity < table_arity s → table_number p ds s ≡ bad_arity
      unfolding table_number
      table_arity_lem h =
          pass_number _ start ∙ pass_test bad_owner _ (lt-leb _ _ owner) ∙ stop_test bad_arity _ refl (lt-ltb _ _ h)

      module _ (few : table_arity s ≤ max_arity) where
        -- the tests from the scope's length on
        fields_passed :
            table_number p ds s
            ≡ first_of (when (ltb (length s) (4 + table_arity s)) cut_short)
            (first_of (when (not (scope_rule (length ds) (table_scope s))) bad_scope)
            (when (ltb (length s) (table_length ds s)) cut_short))
        unfolding table_number
        fields_passed =
            pass_number _ start ∙ pass_test bad_owner _ (lt-leb _ _ owner) ∙ pass_test bad_arity _ (le-ltb _ _ few)

        pub table_cut : length s < 4 + table_arity s → table_number p ds s ≡ cut_short
        table_cut h = fields_passed ∙ stop_test cut_short _ refl (lt-ltb _ _ h)

        module _ (there : 4 + table_arity s ≤ length s) where
          pub table_scope_lem : scope_rule (length ds) (table_scope s) ≡ false → table_number p ds s ≡ bad_scope
          table_scope_lem h = fields_passed ∙ pass_test cut_short _ (le-ltb _ _ there)
              ∙ stop_test bad_scope _ refl (ap not h)

          module _ (distinct : scope_rule (length ds) (table_scope s) ≡ true) where
            table_last : table_number p ds s ≡ when (ltb (length s) (table_length ds s)) cut_short
            table_last =
                fields_passed ∙ pass_test cut_short _ (le-ltb _ _ there) ∙ pass_test bad_scope _ (ap not distinct)

            pub table_short : length s < table_length ds s → table_number p ds s ≡ cut_short
            table_short h = table_last ∙ when_on cut_short (lt-ltb _ _ h)

            pub table_whole : table_length ds s ≤ length s → table_number p ds s ≡ 0
            table_whole h = table_last ∙ none_when cut_short (le-ltb _ _ h)
