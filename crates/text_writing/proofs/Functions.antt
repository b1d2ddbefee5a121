-- The text of one cost function and of several, line after line.
use mathlib.Core.Path.{◌≡◌, refl, ◌∙◌, ap}
use mathlib.Core.List.{List, [], ◌∷◌, ◌++◌}
use Prim.Native.Nat.{ℕ, suc, ◌+◌, ◌≤◌}
use native.Mathlib.Omega.{arith}
use lib.ListN.{length, drop}
use borrow.Author.Tests.{eq-eqb, ne_eqb}
use Rattle.model.specs.Reading.{table_scope, table_length, table_of, tables_at}
use Rattle.problem.specs.Records.{Whole, AllWhole}
use Rattle.costs.specs.Entries.{number_at}
use Rattle.text_words.specs.Texts.{line}
use Rattle.text_lines.proofs.Writing.{Split}
use Rattle.text_networks.specs.NetworkTexts.{written_cost, nonzero, function_text, functions_text}
use Rattle.text_networks.proofs.WrittenCosts.{entry_written}
use Rattle.text_writing.specs.Forms.{head_line, written_at, written_from, table_lines}
use Rattle.text_writing.proofs.Entries.{nonzero_written}

empty : (vs : List ℕ) → length vs ≡ 0 → vs ≡ []
empty [] e = refl
empty (v ∷ vs) e = absurd (omega arith)

module _ (bound : ℕ) (ds s : List ℕ) (at : ℕ) where
  -- without variables: the one line, with the entry as default
  pub constant_line : (c : ℕ) → c ≡ written_cost bound (number_at ds s at 0) → length (table_scope (drop at s)) ≡ 0
      → head_line s at c 0 ≡ function_text ds (written_at bound ds s at)
  unfolding function_text table_of
  constant_line c told e =
      let vs = table_scope (drop at s) in
      ap (λ (l : List ℕ). line (length l ∷ l ++ (c ∷ 0 ∷ []))) (empty vs e)
      ∙ rw (eq-eqb (length vs) 0 e, told, entry_written) refl

  -- else the first line is due, then those of the entries
  pub head_first : 1 ≤ bound → (k : ℕ) → k ≡ nonzero (table_of ds (drop at s)).costs
      → (length (table_scope (drop at s)) ≡ 0 → ⊥)
      → Split (function_text ds (written_at bound ds s at)) (head_line s at 0 k) (table_lines bound ds s at)
  unfolding function_text table_of
  head_first low k told some =
      record {
        parts = rw (ne_eqb (length (table_scope (drop at s))) 0 some, nonzero_written bound _ low, told) refl;
      }

  -- the function that is due, and none behind the last record
  pub function_next : (left k : ℕ) → left ≡ suc k
      → Split (functions_text ds (written_from bound left ds s at)) (function_text ds (written_at bound ds s at))
      (functions_text ds (written_from bound k ds s (at + table_length ds (drop at s))))
  unfolding functions_text tables_at
  function_next left k e = record { parts = rw e refl }

  pub function_none : functions_text ds (written_from bound 0 ds s at) ≡ []
  unfolding functions_text tables_at
  function_none = refl

-- its record is whole, and so are those behind it
pub record_next : (ds s : List ℕ) (at left k : ℕ) → left ≡ suc k → AllWhole left ds s at
    → Whole ds s at × AllWhole k ds s (at + table_length ds (drop at s))
record_next ds s at left k e w = rw e at w
