-- An accepted problem with one objective is open for writing: its header, its domain sizes, and a text with its place.
use mathlib.Core.Path.{◌≡◌, refl, sym, ◌∙◌, ap}
use mathlib.Core.Bool.{false, ◌||◌}
use mathlib.Core.List.{List, [], ◌∷◌}
use Prim.Native.Nat.{ℕ, ◌≤◌}
use native.Mathlib.Omega.{arith}
use lib.Dec.{ltb}
use lib.ListN.{length, get_or, take}
use Rattle.model.specs.Basics.{All}
use Rattle.model.specs.Limits.{max_objectives}
use Rattle.model.specs.Encoding.{Byte}
use Rattle.model.specs.Reading.{head_tables, domains_of, tables_start, problem_of}
use Rattle.model.specs.Calls.{padded}
use Rattle.model.proofs.Reading.{accepted_encoded}
use Rattle.model.proofs.TableRecords.{length_tables_at}
use Rattle.problem.specs.declared.Problem as DQ
use Rattle.problem.proofs.Accepted.{AcceptedReading}
use Rattle.problem.proofs.AcceptedTables.{taken, sizes_held_lem, tables_held}
use Rattle.text_networks.specs.Networks.{max_bound}
use Rattle.text_networks.specs.NetworkTexts.{upper_bound_for, network_text}
use Rattle.text_networks.specs.Conversions.{unwritable}
use Rattle.text_networks.specs.Statements.{Writable}
use Rattle.text_networks.proofs.Written.{formed_writable}
use Rattle.text_networks.proofs.Statements.{text_fits}
use Rattle.text_writing.specs.Opened.{Opened}

-- the first of some numbers and zeros
first_padded : (xs : List ℕ) → get_or (padded max_objectives xs) 0 0 ≡ get_or xs 0 0
unfolding padded
first_padded [] = refl
first_padded (x ∷ xs) = refl

module _ (s : List ℕ) (r : DQ.Problem) (a : AcceptedReading s r) where
  first_ceiling : get_or r.head.ceilings 0 0 ≡ get_or (problem_of s).ceilings 0 0
  first_ceiling = ap (λ (l : List ℕ). get_or l 0 0) a.ceilings ∙ first_padded (problem_of s).ceilings

  -- the header tells whether a text can hold the problem
  pub unwritable_told : (ltb 1 r.head.objectives || ltb max_bound (upper_bound_for (get_or r.head.ceilings 0 0)))
      ≡ unwritable (problem_of s)
  unfolding problem_of
  unwritable_told = rw (a.objectives, first_ceiling) refl

  pub told_writable : All Byte s → unwritable (problem_of s) ≡ false → Writable (problem_of s)
  told_writable bytes h = formed_writable (problem_of s) (accepted_encoded s bytes a.none).0 h

  tables_many : r.head.tables ≡ length (problem_of s).tables
  unfolding problem_of
  tables_many = a.tables ∙ sym (length_tables_at (head_tables s) (domains_of s) s (tables_start s))

  -- the place behind its text is a 32-bit number
  pub text_placed : All Byte s → unwritable (problem_of s) ≡ false → length (network_text (problem_of s)) ≤ 255000
  text_placed bytes h = text_fits (problem_of s) (told_writable bytes h)

  pub opened : All Byte s → unwritable (problem_of s) ≡ false
      → Opened s r.head (take r.head.variables r.sizes)
  opened bytes h =
      record {
        domains = sizes_held_lem s r a;
        variables = taken s r a;
        some = omega (arith, taken s r a, a.few_variables.0);
        tables = tables_held s r a;
        many = tables_many;
        ceiling = first_ceiling;
        bounded = (told_writable bytes h).bounded;
        whole = a.whole;
        small = a.small;
        placed = omega (arith, text_placed bytes h);
      }
