-- The line of an entry that is not 0: its values and what is written of it.
use mathlib.Core.Path.{◌≡◌, refl, sym, ◌∙◌, ap}
use mathlib.Core.List.{List, [], ◌∷◌, ◌++◌}
use Prim.Native.Nat.{ℕ}
use lib.ListN.{length, take, drop}
use borrow.Author.Tests.{ne_eqb}
use Rattle.model.specs.Reading.{table_arity, table_scope}
use Rattle.problem.specs.Records.{Headed}
use Rattle.problem.proofs.Scopes.{scope_many}
use Rattle.costs.specs.Entries.{number_at}
use Rattle.text_words.specs.Texts.{line}
use Rattle.text_networks.specs.Networks.{sizes_over}
use Rattle.text_networks.specs.NetworkTexts.{written_cost, entry_values}
use Rattle.text_writing.specs.Forms.{entry_line}

module _ (bound : ℕ) (ds s : List ℕ) (at i cost : ℕ) (told : cost ≡ written_cost bound (number_at ds s at i)) where
  module _ (arity : ℕ) (values : List ℕ) (inside : Headed s at) (many : arity ≡ table_arity (drop at s))
      (found : take (length (table_scope (drop at s))) values
      ≡ entry_values (sizes_over ds (table_scope (drop at s))) i)
    where
      -- the values are as many as the arity says
      values_told : take arity values ≡ entry_values (sizes_over ds (table_scope (drop at s))) i
      values_told = ap (λ (n : ℕ). take n values) (many ∙ sym (scope_many s at inside)) ∙ found

      pub entry_line_lem : (cost ≡ 0 → ⊥) → line (take arity values ++ (cost ∷ [])) ≡ entry_line bound ds s at i
      entry_line_lem some = rw (values_told, ← told, ne_eqb cost 0 some) refl
