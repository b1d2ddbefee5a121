-- The verdict of the whole, part by part, and what `read_problem` answers.
use mathlib.Core.Path.{◌≡◌, sym, ap, ◌∙◌}
use mathlib.Core.List.{List}
use Prim.Native.Nat.{ℕ, ◌+◌, ◌*◌, ◌≤◌, ◌<◌}
use borrow.Author.Tests.{lt-ltb, le-ltb}
use Rattle.std.proofs.Common.{Result, Ok, Err}
use lib.ListN.{length, take}
use Rattle.model.specs.Basics.{All}
use Rattle.model.specs.Limits.{max_bytes, max_variables}
use Rattle.model.specs.Refusals.{oversize, Verdict, verdict, accepted}
use Rattle.model.specs.Reasons.{told}
use Rattle.model.specs.Problems.{DomainSize}
use Rattle.model.specs.Reading.{head_variables, head_objectives, head_tables, head_length, head_number, domains_verdict}
use Rattle.model.specs.Reading.{domains_of, tables_verdict, tables_start, body_verdict, verdict_of, problem_of}
use Rattle.model.specs.Calls.{padded}
use Rattle.model.specs.declared.Header as DH
use Rattle.model.specs.declared.Refusal.{Refusal}
use Rattle.model.proofs.HeadRecord.{head_good}
use Rattle.model.proofs.Reasons.{number_positive}
use Rattle.model.proofs.DomainRecords.{domain_sizes, domains_end}
use Rattle.problem.specs.Says.{HeadSays, start_of, DomainsSays, ReadSays}
use Rattle.problem.proofs.Chains.{pass_verdict, stop_verdict, pass_record, stop_record}
use Rattle.problem.proofs.DomainSteps.{domains_taken, domains_room}

abbrev pub domains_part : List ℕ → Verdict
domains_part s = domains_verdict (head_variables s) s (head_length s)

abbrev pub tables_part : List ℕ → Verdict
tables_part s = tables_verdict (head_tables s) (head_objectives s) (domains_of s) s (tables_start s)

-- ## the verdict

module _ (s : List ℕ) where
  pub part_long : max_bytes < length s → verdict_of s ≡ verdict oversize 0
  unfolding verdict_of
  part_long h = rw (lt-ltb _ _ h)

  module _ (short : length s ≤ max_bytes) where
    pub part_head : (head_number s ≡ 0 → ⊥) → verdict_of s ≡ verdict (head_number s) 0
    unfolding verdict_of
    part_head h = rw (le-ltb _ _ short) (stop_record 0 (head_number s) (body_verdict s) h)

    module _ (head : head_number s ≡ 0) where
      part_body : verdict_of s ≡ body_verdict s
      unfolding verdict_of
      part_body = rw (le-ltb _ _ short) (pass_record 0 (head_number s) (body_verdict s) head)

      pub part_domains : ((domains_part s).number ≡ 0 → ⊥) → verdict_of s ≡ domains_part s
      unfolding body_verdict
      part_domains h = part_body ∙ stop_verdict (domains_part s) (tables_part s) h

      pub part_tables : (domains_part s).number ≡ 0 → verdict_of s ≡ tables_part s
      unfolding body_verdict
      part_tables h = part_body ∙ pass_verdict (domains_part s) (tables_part s) h

-- ## the parts, at the places that the header gives

-- what is known once the header and the domain records are read
pub record Begun (s : List ℕ) (h : DH.Header) (sizes : List ℕ) : Type 0 where
  pub none : (domains_part s).number ≡ 0
  pub few : h.variables ≤ max_variables
  pub filled : sizes ≡ padded max_variables (domains_of s)
  pub room : length sizes ≡ max_variables
  pub taken : take h.variables sizes ≡ domains_of s
  pub small : All DomainSize (take h.variables sizes)
  pub end : start_of h ≤ length s

module _ (s : List ℕ) (h : DH.Header) (says : HeadSays s h) where
  domains_said : {d : Result (List ℕ) Refusal} → DomainsSays s (6 + 4 * h.objectives) h.variables d
      → DomainsSays s (head_length s) (head_variables s) d
  domains_said x = rw (says.variables, says.objectives) at x

  pub begun : {sizes : List ℕ} → head_number s ≡ 0 → DomainsSays s (6 + 4 * h.objectives) h.variables (Ok sizes)
      → Begun s h sizes
  begun {sizes} head x =
      let good = head_good s head in
      let n = head_variables s in
      let start = head_length s in
      let said = domains_said x in
      let none : (domains_part s).number ≡ 0 = ap (λ v. v.number) (sym said.verdict) in
      let filled : sizes ≡ padded max_variables (domains_of s) = said.sizes in
      let taken : take h.variables sizes ≡ domains_of s = rw (filled, says.variables) (domains_taken n s start) in
      record {
        none = none;
        few = rw says.variables good.variables.1;
        filled = filled;
        room = rw filled (domains_room n s start good.variables.1);
        taken = taken;
        small = rw taken (domain_sizes n s start none);
        end = rw (says.variables, says.objectives) (domains_end n s start good.long none);
      }

  tables_said : {sizes : List ℕ} (t : Result Unit Refusal) → Begun s h sizes
      → told t ≡ tables_verdict h.tables h.objectives (take h.variables sizes) s (start_of h)
      → told t ≡ tables_part s
  tables_said t b x = rw (b.taken, says.variables, says.objectives, says.tables) at x

  -- ## what `read_problem` answers

  module _ (short : length s ≤ max_bytes) (head : head_number s ≡ 0) where
    pub domains_refused : {e : Refusal} → DomainsSays s (6 + 4 * h.objectives) h.variables (Err e) → ReadSays s (Err e)
    domains_refused {e} x =
        let v = (domains_said x).verdict in
        let other : (domains_part s).number ≡ 0 → ⊥ = λ z. number_positive e.reason (ap (λ v. v.number) v ∙ z) in
        record { verdict = v ∙ sym (part_domains s short head other); problem = tt }

    module _ {sizes : List ℕ} (b : Begun s h sizes) where
      abbrev tables_told : Verdict
      tables_told = tables_verdict h.tables h.objectives (take h.variables sizes) s (start_of h)

      pub tables_refused : {e : Refusal} → told {A = Unit} (Err e) ≡ tables_told → ReadSays s (Err e)
      tables_refused {e} x =
          record { verdict = tables_said (Err e) b x ∙ sym (part_tables s short head b.none); problem = tt }

      pub tables_accepted : accepted ≡ tables_told → ReadSays s (Ok (record { head = h; sizes = sizes }))
      unfolding problem_of
      tables_accepted x =
          let v = part_tables s short head b.none ∙ sym (tables_said (Ok tt) b x) in
          record {
            verdict = sym v;
            problem = record {
              accepts = v;
              variables = says.variables;
              objectives = says.objectives;
              tables = says.tables;
              ceilings = says.ceilings;
              sizes = b.filled;
            };
          }
