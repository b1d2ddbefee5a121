-- The promises about the canonical form, from the theorems.
use mathlib.Core.Path.{◌≡◌, ap, sym, ◌∙◌}
use mathlib.Core.List.{List}
use Prim.Native.Nat.{ℕ}
use Rattle.model.specs.Basics.{All}
use Rattle.model.specs.Problems.{Problem}
use Rattle.model.specs.Encoding.{Byte, encode, WellFormed}
use Rattle.model.specs.Reading.{verdict_of, problem_of}
use Rattle.model.specs.Frontiers.{frontier}
use Rattle.model.proofs.Encoded.{read_encoded}
use Rattle.model.proofs.Reading.{accepted_encoded}
use Rattle.form_canonical.specs.Canonical.{canonical, canonical_bytes}
use Rattle.form_canonical.specs.Statements.{CanonicalLaws}
use Rattle.form_canonical.proofs.Layouts.{layout_costs, layout_frontier}
use Rattle.form_canonical.proofs.CanonicalRules.{canonical_kept, canonical_long, canonical_same}
use Rattle.form_canonical.proofs.SameForms.{same_form}

form_read : (q : Problem) → WellFormed q → problem_of (encode (canonical q)) ≡ canonical q
form_read q w = (read_encoded (canonical q) (canonical_kept q w)).1

form_frontier : (q : Problem) → WellFormed q → frontier (canonical q) ≡ frontier q
form_frontier q w = layout_frontier (canonical q) q (canonical_same q w.rules)

form_tells : (s t : List ℕ) → All Byte s → All Byte t → (verdict_of s).number ≡ 0 → (verdict_of t).number ≡ 0
    → canonical_bytes s ≡ canonical_bytes t → frontier (problem_of s) ≡ frontier (problem_of t)
form_tells s t bytes bytes' fine fine' same =
    let w = (accepted_encoded s bytes fine).0 in
    let w' = (accepted_encoded t bytes' fine').0 in
    let forms : canonical (problem_of s) ≡ canonical (problem_of t) =
    sym (form_read (problem_of s) w) ∙ ap problem_of same ∙ form_read (problem_of t) w' in
    sym (form_frontier (problem_of s) w) ∙ ap frontier forms ∙ form_frontier (problem_of t) w'

form_again : (s : List ℕ) → All Byte s → (verdict_of s).number ≡ 0
    → canonical_bytes (canonical_bytes s) ≡ canonical_bytes s
form_again s bytes fine =
    let q = problem_of s in
    let w = (accepted_encoded s bytes fine).0 in
    ap (λ (p : Problem). encode (canonical p)) (form_read q w)
    ∙ same_form (canonical q) q (canonical_kept q w).rules (canonical_same q w.rules)

pub canonical_laws : CanonicalLaws
canonical_laws =
    record {
      kept = canonical_kept;
      long = λ q w. canonical_long q w.rules;
      same = λ q w. canonical_same q w.rules;
      same_form = λ q r w w'. same_form q r w.rules;
      costs = layout_costs;
      list = layout_frontier;
      form_tells = form_tells;
      form_again = form_again;
    }
