-- Reading gives back the problem that was encoded.
use mathlib.Core.Path.{◌≡◌, ap, sym, subst, ◌∙◌}
use mathlib.Core.List.{List, ◌++◌, append_assoc}
use Prim.Native.Nat.{ℕ, ◌*◌, ◌≤◌}
use lib.ListN.{length, drop}
use lib.Seq.{drop-drop, drop_at}
use borrow.Author.Tests.{le-ltb}
use Rattle.model.specs.Limits.{max_bytes}
use Rattle.model.specs.Refusals.{accepted}
use Rattle.model.specs.Problems.{Problem, RecordRules}
use Rattle.model.specs.Encoding.{head_bytes, domain_bytes, tables_bytes, encode, WellFormed}
use Rattle.model.specs.Reading.{head_variables, head_objectives, head_tables, head_length, head_number, domains_verdict}
use Rattle.model.specs.Reading.{tables_verdict, tables_at, domains_of, tables_start, body_verdict, verdict_of}
use Rattle.model.specs.Reading.{problem_of}
use Rattle.model.proofs.Verdicts.{accepts_first, accepts_record}
use Rattle.model.proofs.HeadRecord.{Opens, head_opens, head_accepted, length_head}
use Rattle.model.proofs.DomainRecords.{domains_read, length_domain_bytes}
use Rattle.model.proofs.TableRecords.{tables_read}

-- s begins with q's header, and q's other records follow
module _ (q : Problem) (rules : RecordRules q) (s : List ℕ) (o : Opens q s)
    (body : drop (head_length s) s ≡ domain_bytes q.domains ++ tables_bytes q.tables) where
  domains_here : (domains_verdict (head_variables s) s (head_length s) ≡ accepted) × (domains_of s ≡ q.domains)
  domains_here =
      rw o.variables
      (domains_read q.domains (tables_bytes q.tables) s (head_length s) rules.domain_sizes body)

  tables_left : drop (tables_start s) s ≡ tables_bytes q.tables
  tables_left =
      let width : length (domain_bytes q.domains) ≡ 3 * head_variables s =
      rw o.variables (length_domain_bytes q.domains) in
      sym (drop-drop (3 * head_variables s) (head_length s) s)
      ∙ ap (drop (3 * head_variables s)) body
      ∙ drop_at (domain_bytes q.domains) (tables_bytes q.tables) (3 * head_variables s) width

  tables_here :
      (tables_verdict (head_tables s) (head_objectives s) (domains_of s) s (tables_start s) ≡ accepted)
      × (tables_at (head_tables s) (domains_of s) s (tables_start s) ≡ q.tables)
  tables_here =
      let read = tables_read q.objectives q.domains q.tables s (tables_start s) rules.table_rules
      tables_left in
      let sizes = domains_here.1 in (
        (λ i. tables_verdict (o.tables i) (o.objectives i) (sizes i) s (tables_start s)) ∙ read.0,
        (λ i. tables_at (o.tables i) (sizes i) s (tables_start s)) ∙ read.1,
      )

  all_accepted : length s ≤ max_bytes → head_number s ≡ 0 → verdict_of s ≡ accepted
  unfolding body_verdict verdict_of
  all_accepted short head =
      let body-accepted : body_verdict s ≡ accepted = accepts_first _ (ap (λ v. v.number) domains_here.0)
      tables_here.0 in
      rw (le-ltb max_bytes (length s) short) (accepts_record 0 (head_number s) head body-accepted)

  all_read : problem_of s ≡ q
  unfolding problem_of
  all_read =
      λ i. record {
        objectives = o.objectives i;
        ceilings = o.ceilings i;
        domains = domains_here.1 i;
        tables = tables_here.1 i;
      }

pub read_encoded : (q : Problem) → WellFormed q → (verdict_of (encode q) ≡ accepted) × (problem_of (encode q) ≡ q)
unfolding encode
read_encoded q w =
    let rest = domain_bytes q.domains ++ tables_bytes q.tables in
    let s = head_bytes q ++ rest in
    let shape : encode q ≡ s = append_assoc (head_bytes q) (domain_bytes q.domains) (tables_bytes q.tables) in
    let o = head_opens q rest w.rules in
    let body : drop (head_length s) s ≡ rest = drop_at (head_bytes q) rest (head_length s)
    (length_head q rest w.rules) in
    let short : length s ≤ max_bytes = subst (λ l. length l ≤ max_bytes) shape w.short in
    rw shape
    (all_accepted q w.rules s o body short (head_accepted q rest w.rules), all_read q w.rules s o body)
