-- The first line of a text in which nothing is refused.
use mathlib.Core.Path.{◌≡◌, ap, sym}
use mathlib.Core.Logic.{⊎_elim}
use mathlib.Core.List.{List}
use Prim.Native.Nat.{ℕ, ◌≤◌, ◌<◌}
use native.Mathlib.Omega.{arith}
use native.Mathlib.Nat.{eq-or-lt_of_le}
use lib.ListN.{drop}
use Rattle.model.specs.Limits.{word_end}
use Rattle.text_words.specs.Texts.{words_of}
use Rattle.text_words.specs.Reads.{WordSays, NumberSays}
use Rattle.text_words.specs.declared.Word as DW
use Rattle.text_words.specs.declared.Number as DN
use Rattle.text_networks.specs.Findings.{fine, fault, value_at}
use Rattle.text_networks.specs.Networks.{network_finding, ceiling_for}
use Rattle.text_networks.proofs.FineWords.{found_fine}
use Rattle.text_networks.proofs.TextCosts.{FineNetwork, network_fine}
use Rattle.text_reading.specs.Heads.{HeadSays}
use Rattle.text_reading.proofs.Numbers.{Passed, one_passed, passed_value}

-- ## as it is read

name_passed : (s : List ℕ) → network_finding (words_of s) ≡ fine → (r : DW.Word) → WordSays s 0 r
    → Passed s 0 1 r.end
unfolding network_finding
name_passed s h r says =
    record {
      within = says.within;
      words = ⊎_elim
          (λ (e : r.start ≡ r.end). absurd (found_fine fault tt (rw (says.none e) at h)))
          (λ (l : r.start < r.end). sym (ap (drop 1) (says.some l))) (eq-or-lt_of_le says.ordered);
    }

pub record FirstLine (s : List ℕ) (name : DW.Word) (n d r b : DN.Number) : Type 0 where
  pub right : network_finding (words_of s) ≡ fine
  pub named : WordSays s 0 name
  pub variables : NumberSays s name.end n
  pub largest : NumberSays s n.end d
  pub functions : NumberSays s d.end r
  pub bound : NumberSays s r.end b

pub line_read : {s : List ℕ} {name : DW.Word} {n d r b : DN.Number} → network_finding (words_of s) ≡ fine
    → WordSays s 0 name → NumberSays s name.end n → NumberSays s n.end d → NumberSays s d.end r → NumberSays s r.end b
    → FirstLine s name n d r b
line_read right named variables largest functions bound =
    record {
      right = right;
      named = named;
      variables = variables;
      largest = largest;
      functions = functions;
      bound = bound;
    }

module _ {s : List ℕ} {name : DW.Word} {n d r b : DN.Number} (l : FirstLine s name n d r b) where
  first : Passed s 0 1 name.end
  first = name_passed s l.right name l.named

  third : Passed s 0 3 d.end
  third = one_passed (one_passed first n l.variables) d l.largest

  fourth : Passed s 0 4 r.end
  fourth = one_passed third r l.functions

  line_fine : FineNetwork (words_of s)
  line_fine = network_fine (words_of s) l.right

  bound_read : b.value ≡ value_at 4 (words_of s)
  bound_read = passed_value fourth b l.bound (omega (arith, line_fine.bound.1))

  -- the ceiling is below it, and fits four bytes
  pub bound_some : 1 ≤ b.value
  bound_some = rw bound_read line_fine.bound.0

  pub ceiling_fits : ceiling_for b.value < word_end
  ceiling_fits = omega (arith, bound_read, line_fine.bound.1)

  pub head_says : HeadSays s
      (record { variables = n.value; functions = r.value; ceiling = ceiling_for b.value; end = b.end })
  head_says =
      record {
        variables = passed_value first n l.variables (omega (arith, line_fine.variables.1));
        functions = passed_value third r l.functions (omega (arith, line_fine.functions));
        ceiling = ap ceiling_for bound_read;
        within = l.bound.within;
        rest = (one_passed fourth b l.bound).words;
      }
