-- Reading bytes as a problem: numbers 1 to 11 with their places, in the order of the reference, section 6,
-- and the problem that the records hold.
use Rattle.std.specs.Prelude.{Bool, ◌&&◌, ◌||◌, not, List, [], ◌∷◌, ℕ, zero, suc, ◌+◌, ◌*◌, eqb, ltb, leb, length}
use Rattle.std.specs.Prelude.{get_or, take, drop}
use Rattle.model.specs.Basics.{pick, when, first_of}
use Rattle.model.specs.Limits.{max_bytes, max_variables, max_objectives, max_tables, max_domain, max_arity}
use Rattle.model.specs.Limits.{byte_end, short_end}
use Rattle.model.specs.Refusals.{oversize, cut_short, stray_mark, bad_variables, bad_objectives, bad_tables, bad_domain}
use Rattle.model.specs.Refusals.{bad_owner, bad_arity, bad_scope, leftover}
use Rattle.model.specs.Refusals.{Verdict, verdict, accepted, refused_at, first}
use Rattle.model.specs.Problems.{Table, Problem, size_of, scope_rule}
use Rattle.model.specs.Encoding.{letter_c, letter_d, letter_f, letter_h, letter_o}

-- the two-byte number at place i of s, the four-byte number at its start, n of these in a row
unfoldable pub word2 : ℕ → List ℕ → ℕ
word2 i s = get_or s i 0 + byte_end * get_or s (i + 1) 0

unfoldable pub word4 : List ℕ → ℕ
word4 s = word2 0 s + short_end * word2 2 s

unfoldable pub words_in : ℕ → List ℕ → List ℕ
words_in zero s = []
words_in (suc n) s = word4 s ∷ words_in n (drop 4 s)

-- Of the record that starts the list s: its number of refusal, or 0.
-- the mark due (letters a and b), then the single fields
unfoldable pub start_number : ℕ → ℕ → ℕ → List ℕ → ℕ
start_number a b fields s =
    first_of (when (ltb (length s) 2) cut_short) (
    first_of (when (not (eqb (get_or s 0 0) a && eqb (get_or s 1 0) b)) stray_mark)
    (when (ltb (length s) (2 + fields)) cut_short))

-- outside 1 to the limit
abbrev pub outside : ℕ → ℕ → Bool
outside limit x = eqb x 0 || ltb limit x

-- the header's fields: n, p, r; its length
abbrev pub head_variables : List ℕ → ℕ
head_variables s = get_or s 2 0

abbrev pub head_objectives : List ℕ → ℕ
head_objectives s = get_or s 3 0

abbrev pub head_tables : List ℕ → ℕ
head_tables s = word2 4 s

abbrev pub head_length : List ℕ → ℕ
head_length s = 6 + 4 * head_objectives s

unfoldable pub head_number : List ℕ → ℕ
head_number s =
    first_of (start_number letter_h letter_d 4 s) (
    first_of (when (outside max_variables (head_variables s)) bad_variables) (
    first_of (when (outside max_objectives (head_objectives s)) bad_objectives) (
    first_of (when (ltb max_tables (head_tables s)) bad_tables)
    (when (ltb (length s) (head_length s)) cut_short))))

-- a domain record's size; each such record has three bytes
abbrev pub domain_size : List ℕ → ℕ
domain_size s = get_or s 2 0

unfoldable pub domain_number : List ℕ → ℕ
domain_number s = first_of (start_number letter_d letter_o 1 s) (when (outside max_domain (domain_size s)) bad_domain)

-- a cost record's fields: objective, arity, scope; its length
abbrev pub table_objective : List ℕ → ℕ
table_objective s = get_or s 2 0

abbrev pub table_arity : List ℕ → ℕ
table_arity s = get_or s 3 0

unfoldable pub table_scope : List ℕ → List ℕ
table_scope s = take (table_arity s) (drop 4 s)

unfoldable pub table_length : List ℕ → List ℕ → ℕ
table_length ds s = 4 + (table_arity s + 4 * size_of ds (table_scope s))

unfoldable pub table_number : ℕ → List ℕ → List ℕ → ℕ
table_number p ds s =
    first_of (start_number letter_c letter_f 2 s) (
    first_of (when (leb p (table_objective s)) bad_owner) (
    first_of (when (ltb max_arity (table_arity s)) bad_arity) (
    first_of (when (ltb (length s) (4 + table_arity s)) cut_short) (
    first_of (when (not (scope_rule (length ds) (table_scope s))) bad_scope)
    (when (ltb (length s) (table_length ds s)) cut_short)))))

unfoldable pub table_of : List ℕ → List ℕ → Table
table_of ds s =
    record {
      objective = table_objective s;
      scope = table_scope s;
      costs = words_in (size_of ds (table_scope s)) (drop (4 + table_arity s) s);
    }

-- Of the records from the place `at` on: the first verdict that refuses, and what they hold.
unfoldable pub domains_verdict : ℕ → List ℕ → ℕ → Verdict
domains_verdict zero s at = accepted
domains_verdict (suc n) s at = first (refused_at at (domain_number (drop at s))) (domains_verdict n s (at + 3))

unfoldable pub domains_at : ℕ → List ℕ → ℕ → List ℕ
domains_at zero s at = []
domains_at (suc n) s at = domain_size (drop at s) ∷ domains_at n s (at + 3)

-- after the last cost record nothing may follow
unfoldable pub tables_verdict : ℕ → ℕ → List ℕ → List ℕ → ℕ → Verdict
tables_verdict zero p ds s at = pick (ltb at (length s)) (verdict leftover at) accepted
tables_verdict (suc r) p ds s at =
    let rest = tables_verdict r p ds s (at + table_length ds (drop at s)) in
    first (refused_at at (table_number p ds (drop at s))) rest

unfoldable pub tables_at : ℕ → List ℕ → List ℕ → ℕ → List Table
tables_at zero ds s at = []
tables_at (suc r) ds s at = table_of ds (drop at s) ∷ tables_at r ds s (at + table_length ds (drop at s))

-- where each cost record starts
unfoldable pub places_at : ℕ → List ℕ → List ℕ → ℕ → List ℕ
places_at zero ds s at = []
places_at (suc r) ds s at = at ∷ places_at r ds s (at + table_length ds (drop at s))

-- Of the whole: domain sizes, where the cost records start, the verdict.
abbrev pub domains_of : List ℕ → List ℕ
domains_of s = domains_at (head_variables s) s (head_length s)

abbrev pub tables_start : List ℕ → ℕ
tables_start s = head_length s + 3 * head_variables s

unfoldable pub body_verdict : List ℕ → Verdict
body_verdict s =
    let rest = tables_verdict (head_tables s) (head_objectives s) (domains_of s) s (tables_start s) in
    first (domains_verdict (head_variables s) s (head_length s)) rest

-- numbers 1 to 11 with their places
unfoldable pub verdict_of : List ℕ → Verdict
verdict_of s =
    pick (ltb max_bytes (length s)) (verdict oversize 0) (first (refused_at 0 (head_number s)) (body_verdict s))

-- the problem that the bytes hold, where the verdict does not refuse; and where its cost records start
unfoldable pub problem_of : List ℕ → Problem
problem_of s =
    record {
      objectives = head_objectives s;
      ceilings = words_in (head_objectives s) (drop 6 s);
      domains = domains_of s;
      tables = tables_at (head_tables s) (domains_of s) s (tables_start s);
    }

unfoldable pub places_of : List ℕ → List ℕ
places_of s = places_at (head_tables s) (domains_of s) s (tables_start s)
