-- An accepted list of bytes is the encoding of the problem that it holds, and that problem keeps the rules.
use mathlib.Core.Path.{◌≡◌, refl, sym}
use mathlib.Core.Bool.{true}
use mathlib.Core.List.{List, append_assoc}
use Prim.Native.Nat.{ℕ, zero, suc, ◌+◌, ◌≤◌, ◌<◌}
use lib.Dec.{ltb}
use lib.ListN.{length, drop}
use borrow.Author.Tests.{ltb-false}
use Rattle.model.specs.Basics.{All}
use Rattle.model.specs.Limits.{max_bytes}
use Rattle.model.specs.Refusals.{oversize, leftover, accepted, refused_at, first}
use Rattle.model.specs.Problems.{RecordRules, TableRules, scope_rule}
use Rattle.model.specs.Encoding.{Byte, encode, WellFormed}
use Rattle.model.specs.Reading.{head_variables, head_objectives, head_tables, head_length, head_number, table_number}
use Rattle.model.specs.Reading.{table_length, table_of, domains_verdict, tables_verdict, tables_at, domains_of}
use Rattle.model.specs.Reading.{tables_start, body_verdict, verdict_of, problem_of}
use Rattle.model.proofs.Elements.{all_drop}
use Rattle.model.proofs.Words.{words_below, length_words_in}
use Rattle.model.proofs.Verdicts.{first_accepts, test_accepts, record_accepts, Placed, first_placed, test_placed}
use Rattle.model.proofs.HeadRecord.{GoodHead, head_good, Opens, head_written}
use Rattle.model.proofs.DomainRecords.{domain_sizes, domains_written, length_domains_at}
use Rattle.model.proofs.TableRecord.{table_good, table_rules}
use Rattle.model.proofs.TableRecords.{tables_every, tables_written, length_tables_at}

-- ## a verdict of number 0 is `accepted`

tables_placed : (r p : ℕ) (ds s : List ℕ) (at : ℕ) → Placed (tables_verdict r p ds s at)
unfolding tables_verdict
tables_placed zero p ds s at = test_placed (ltb at (length s)) leftover at accepted refl (λ h. refl)
tables_placed (suc r) p ds s at =
    let next = at + table_length ds (drop at s) in
    first_placed (refused_at at (table_number p ds (drop at s))) (tables_verdict r p ds s next)
    (tables_placed r p ds s next)

pub accepted_place : (s : List ℕ) → (verdict_of s).number ≡ 0 → verdict_of s ≡ accepted
unfolding verdict_of body_verdict
accepted_place s =
    test_placed (ltb max_bytes (length s)) oversize 0 (first (refused_at 0 (head_number s)) (body_verdict s)) refl
    (first_placed (refused_at 0 (head_number s)) (body_verdict s)
    (first_placed (domains_verdict (head_variables s) s (head_length s))
    (tables_verdict (head_tables s) (head_objectives s) (domains_of s) s (tables_start s))
    (tables_placed (head_tables s) (head_objectives s) (domains_of s) s (tables_start s))))

-- ## its parts

pub record Accepted (s : List ℕ) : Type 0 where
  pub short : length s ≤ max_bytes
  pub head : GoodHead s
  pub domains : (domains_verdict (head_variables s) s (head_length s)).number ≡ 0
  pub tables : (tables_verdict (head_tables s) (head_objectives s) (domains_of s) s (tables_start s)).number ≡ 0

pub accepted_parts : (s : List ℕ) → (verdict_of s).number ≡ 0 → Accepted s
unfolding verdict_of body_verdict
accepted_parts s h =
    let whole =
    test_accepts (ltb max_bytes (length s)) oversize 0 (first (refused_at 0 (head_number s)) (body_verdict s))
    refl h in
    let head = record_accepts 0 (head_number s) (body_verdict s) whole.1 in
    let body = first_accepts (domains_verdict (head_variables s) s (head_length s))
    (tables_verdict (head_tables s) (head_objectives s) (domains_of s) s (tables_start s)) head.1 in
    record {
      short = ltb-false max_bytes (length s) whole.0;
      head = head_good s head.0;
      domains = body.0;
      tables = body.1;
    }

-- ## the rules

pub accepted_scopes : (s : List ℕ) → (verdict_of s).number ≡ 0
    → All (λ t. scope_rule (length (problem_of s).domains) t.scope ≡ true) (problem_of s).tables
unfolding problem_of table_of
accepted_scopes s h =
    let ds = domains_of s in
    tables_every (head_objectives s) ds s (λ t. scope_rule (length ds) t.scope ≡ true)
    (λ at n. (table_good (head_objectives s) ds (drop at s) n).distinct) (head_tables s) (tables_start s)
    (accepted_parts s h).tables

pub accepted_owners : (s : List ℕ) → (verdict_of s).number ≡ 0
    → All (λ t. t.objective < (problem_of s).objectives) (problem_of s).tables
unfolding problem_of table_of
accepted_owners s h =
    let ds = domains_of s in
    tables_every (head_objectives s) ds s (λ t. t.objective < head_objectives s)
    (λ at n. (table_good (head_objectives s) ds (drop at s) n).owner) (head_tables s) (tables_start s)
    (accepted_parts s h).tables

pub accepted_rules : (s : List ℕ) → All Byte s → (verdict_of s).number ≡ 0 → RecordRules (problem_of s)
unfolding problem_of
accepted_rules s b h =
    let a = accepted_parts s h in
    let ds = domains_of s in
    let variables : length ds ≡ head_variables s = length_domains_at (head_variables s) s (head_length s) in
    let tables : length (tables_at (head_tables s) ds s (tables_start s)) ≡ head_tables s =
    length_tables_at (head_tables s) ds s (tables_start s) in
    record {
      some_variable = rw variables a.head.variables.0;
      few_variables = rw variables a.head.variables.1;
      some_objective = a.head.objectives.0;
      few_objectives = a.head.objectives.1;
      few_tables = rw tables a.head.tables;
      ceiling_each = length_words_in (head_objectives s) (drop 6 s);
      ceiling_words = words_below (head_objectives s) (drop 6 s) (all_drop Byte 6 s b);
      domain_sizes = domain_sizes (head_variables s) s (head_length s) a.domains;
      table_rules =
          tables_every (head_objectives s) ds s (TableRules (head_objectives s) ds)
          (λ at n. table_rules (head_objectives s) ds (drop at s) (all_drop Byte at s b) n) (head_tables s)
          (tables_start s) a.tables;
    }

-- ## the bytes

same_bytes : (s : List ℕ) → All Byte s → Accepted s → encode (problem_of s) ≡ s
unfolding encode problem_of
same_bytes s b a =
    let opens : Opens (problem_of s) s = record {
      variables = sym (length_domains_at (head_variables s) s (head_length s));
      objectives = refl;
      tables = sym (length_tables_at (head_tables s) (domains_of s) s (tables_start s));
      ceilings = refl;
    } in
    rw (
      append_assoc,
      tables_written (head_tables s) (head_objectives s) (domains_of s) s (tables_start s) b a.tables,
      domains_written (head_variables s) s (head_length s) a.domains,
    ) (head_written (problem_of s) s b a.head opens)

pub accepted_encoded : (s : List ℕ) → All Byte s → (verdict_of s).number ≡ 0
    → WellFormed (problem_of s) × (encode (problem_of s) ≡ s)
accepted_encoded s b h =
    let a = accepted_parts s h in
    let same = same_bytes s b a in
    (record { rules = accepted_rules s b h; short = rw same a.short }, same)
