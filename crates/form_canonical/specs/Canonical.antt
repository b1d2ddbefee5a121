-- The canonical form of a problem: scopes rising, tables turned to fit, cost records in rising order of their bytes;
-- and what the call for it answers.
use Rattle.std.specs.Prelude.{List, [], ◌∷◌, map, ℕ, suc, ltb, length}
use Rattle.model.specs.Basics.{pick, when, keep_if}
use Rattle.model.specs.Refusals.{Verdict, verdict, accepted, first}
use Rattle.model.specs.Problems.{Table, Problem, has_variable}
use Rattle.model.specs.Encoding.{table_bytes, encode}
use Rattle.model.specs.Reading.{verdict_of, problem_of}
use Rattle.model.specs.Costs.{cost_of}
use Rattle.model.specs.Frontiers.{choices}
use Rattle.model.specs.Calls.{over, answers}
use Rattle.form_keys.specs.Keys.{key_of}
use Rattle.form_canonical.specs.Order.{ordered_by}

-- a scope in rising order: of the variables from v on, whose domain sizes are given, those that it has
unfoldable pub risen : ℕ → List ℕ → List ℕ → List ℕ
risen v [] vs = []
risen v (d ∷ ds) vs = keep_if (has_variable v vs) v (risen (suc v) ds vs)

-- the domain sizes from variable v on, and 1 for a variable that the scope does not have
unfoldable pub sizes_within : ℕ → List ℕ → List ℕ → List ℕ
sizes_within v [] vs = []
sizes_within v (d ∷ ds) vs = pick (has_variable v vs) d 1 ∷ sizes_within (suc v) ds vs

-- a cost record over its scope in rising order: for every combination of its variables' values, in order and with the
-- last variable fastest, the entry that it had for them
unfoldable pub turned : List ℕ → Table → Table
turned ds t =
    record {
      objective = t.objective;
      scope = risen 0 ds t.scope;
      costs = map (λ xs. cost_of ds xs t) (choices (sizes_within 0 ds t.scope));
    }

unfoldable pub turned_tables : List ℕ → List Table → List Table
turned_tables ds [] = []
turned_tables ds (t ∷ ts) = turned ds t ∷ turned_tables ds ts

unfoldable pub canonical : Problem → Problem
canonical q =
    record {
      objectives = q.objectives;
      ceilings = q.ceilings;
      domains = q.domains;
      tables = ordered_by table_bytes (turned_tables q.domains q.tables);
    }

abbrev pub canonical_bytes : List ℕ → List ℕ
canonical_bytes s = encode (canonical (problem_of s))

-- 19: the buffer for the form is too short
abbrev pub form_short : ℕ
form_short = 19

-- The canonical call: 1 to 11, 19; after a refusal count and key are 0 and nothing is written.
pub record CanonicalOutcome : Type 0 where
  pub verdict : Verdict
  pub count : ℕ
  pub key : ℕ
  pub form : List ℕ

unfoldable pub canonical_outcome : List ℕ → List ℕ → CanonicalOutcome
canonical_outcome s buffer =
    let form = canonical_bytes s in
    let v = first (verdict_of s) (pick (ltb (length buffer) (length form)) (verdict form_short 0) accepted) in
    record {
      verdict = v;
      count = when (answers v) (length form);
      key = when (answers v) (key_of form);
      form = pick (answers v) (over form buffer) buffer;
    }
