-- The whole text of a problem, part by part: the first line, the domain sizes, the functions.
use mathlib.Core.Path.{◌≡◌, refl, sym, ◌∙◌, ap}
use mathlib.Core.List.{List, [], ◌∷◌, ◌++◌, map}
use Prim.Native.Nat.{ℕ, suc, ◌+◌, ◌≤◌}
use native.Mathlib.Omega.{arith}
use lib.ListN.{length, get_or, take, length-map}
use lib.Seq.{take-suc, take-length}
use Rattle.model.specs.Limits.{word_end}
use Rattle.model.specs.Problems.{Table, Problem}
use Rattle.model.specs.Reading.{tables_at, problem_of}
use Rattle.model.specs.declared.Header as DH
use Rattle.problem.specs.Says.{start_of}
use Rattle.text_words.specs.Texts.{line}
use Rattle.text_lines.specs.Written.{Written}
use Rattle.text_lines.proofs.Writing.{Underway, Split, begin_first, due, go_on}
use Rattle.text_networks.specs.Networks.{largest_of}
use Rattle.text_networks.specs.NetworkTexts.{upper_bound_of, written_table, written, head_text, functions_text}
use Rattle.text_networks.specs.NetworkTexts.{text_of, network_text}
use Rattle.text_writing.specs.Forms.{first_line, written_from}
use Rattle.text_writing.specs.Opened.{Opened}

-- the numbers that the first line has, and the lists behind it, are the problem's
first_part : (q : Problem) (ds : List ℕ) (ts : List Table) (n d r b : ℕ) → ds ≡ q.domains → ts ≡ q.tables
    → n ≡ length ds → d ≡ largest_of ds → r ≡ length q.tables → b ≡ upper_bound_of q
    → Split (network_text q) (first_line n d r b) (line ds ++ functions_text ds (map (written_table b) ts))
unfolding text_of written head_text
first_part q ds ts n d r b domains tables variables largest many bound =
    record { parts = rw (variables, largest, many, bound, domains, tables, length-map) refl }

-- the domain sizes, with the last one apart
sizes_line : (ds : List ℕ) (last x : ℕ) → length ds ≡ suc last → x ≡ get_or ds last 0
    → line (take last ds ++ (x ∷ [])) ≡ line ds
sizes_line ds last x long e =
    ap (λ (y : ℕ). line (take last ds ++ (y ∷ []))) e
    ∙ ap line
    (sym (take-suc ds last 0 (omega arith)) ∙ ap (λ (k : ℕ). take k ds) (sym long) ∙ take-length ds)

-- Writing it: what is due behind each part.
module _ (s : List ℕ) (head : DH.Header) (ds : List ℕ) (w : Opened s head ds) (largest : ℕ)
    (most : largest ≡ largest_of ds) (bound : ℕ) (next : bound ≡ get_or head.ceilings 0 0 + 1) (start : ℕ)
    (starts : start ≡ start_of head) (out : List ℕ) where
  abbrev first : List ℕ
  first = first_line head.variables largest head.tables bound

  abbrev functions : List ℕ
  functions = functions_text ds (written_from bound head.tables ds s start)

  parts : Split (network_text (problem_of s)) first (line ds ++ functions)
  parts =
      let tables : tables_at head.tables ds s start ≡ (problem_of s).tables = rw starts w.tables in
      first_part (problem_of s) ds _ _ _ _ _ w.domains tables w.variables most w.many
      (omega (arith, w.ceiling))

  pub first_due : length first ≤ word_end
  first_due = omega (arith, due parts (begin_first out w.placed))

  module _ {m : ℕ} {o : List ℕ} (put : Written 0 first out o m) (last x : ℕ) (long : length ds ≡ suc last)
      (size : x ≡ get_or ds last 0) where
    sizes_next : Underway 0 (network_text (problem_of s)) out (line ds ++ functions) o m
    sizes_next = go_on parts (begin_first out w.placed) put

    sizes_first : Split (line ds ++ functions) (line (take last ds ++ (x ∷ []))) functions
    sizes_first = record { parts = ap (λ (l : List ℕ). l ++ functions) (sym (sizes_line ds last x long size)) }

    pub sizes_due : m + length (line (take last ds ++ (x ∷ []))) ≤ word_end
    sizes_due = due sizes_first sizes_next

    pub functions_next : {k : ℕ} {p : List ℕ} → Written m (line (take last ds ++ (x ∷ []))) o p k
        → Underway 0 (network_text (problem_of s)) out functions p k
    functions_next sizes = go_on sizes_first sizes_next sizes
