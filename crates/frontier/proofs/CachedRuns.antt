-- Any run of cached calls from a cleared store, by their promises alone: each answers as a fresh solve, and tells a hit
-- exactly if its form is among the last that were stored.
use mathlib.Core.Path.{◌≡◌, refl, ◌∙◌, ap}
use mathlib.Core.Bool.{Bool, true, false}
use mathlib.Core.List.{List, [], ◌∷◌}
use Prim.Native.Nat.{ℕ, ◌/◌, ◌≤◌, min}
use native.Mathlib.Omega.{arith}
use lib.ListN.{replicate}
use Rattle.model.specs.Basics.{All, when}
use Rattle.model.specs.Encoding.{Byte}
use Rattle.cache_answers.specs.Stores.{slot_size, max_slots}
use Rattle.cache_answers.specs.Outcomes.{CachedOutcome, cached_outcome}
use Rattle.cache_answers.specs.Runs.{Call, Told, told, cached_run, fresh_run}
use Rattle.cache_answers.proofs.Statements.{cache_laws}
use Rattle.frontier.specs.Says.{CachedExports}
use Rattle.frontier.specs.Runs.{Ran, none, next}

same_hit : (a b : Bool) → when a 1 ≡ when b 1 → a ≡ b
same_hit true true e = refl
same_hit true false e = absurd (omega arith)
same_hit false true e = absurd (omega arith)
same_hit false false e = refl

told_as : (s : List ℕ) (o : CachedOutcome) (t : Told) (store' : List ℕ)
    → CachedExports s o t.costs t.choices t.work store' t.verdict.number t.verdict.place t.count
    (when t.hit 1)
    → t ≡ told o
told_as s o t store' e i =
    record {
      verdict = record { number = e.number i; place = e.place i };
      count = e.count i;
      hit = same_hit t.hit o.hit e.hit i;
      costs = e.costs i;
      choices = e.choices i;
      work = e.work i;
    }

-- a run tells what the definition says, and its problems are bytes
run_told : {store : List ℕ} {cs : List Call} {ts : List Told} → Ran store cs ts → ts ≡ cached_run store cs
unfolding cached_run
run_told none = refl
run_told (next {store} {store'} {c} {t} {cs} {ts} e r) =
    let o = cached_outcome c.problem c.costs c.choices c.work store in
    (λ i. told_as c.problem o t store' e i ∷ run_told r i)
    ∙ ap (λ (l : List ℕ). told o ∷ cached_run l cs) e.store

run_bytes : {store : List ℕ} {cs : List Call} {ts : List Told} → Ran store cs ts → All (λ c. All Byte c.problem) cs
run_bytes none = tt
run_bytes (next e r) = (e.bytes, run_bytes r)

pub cached_run_lem : (n : ℕ) (calls : List Call) (ts : List Told) → slot_size ≤ n → Ran (replicate n 0) calls ts
    → ts ≡ fresh_run (min (n / slot_size) max_slots) [] calls
cached_run_lem n calls ts h r = run_told r ∙ cache_laws.run n calls h (run_bytes r)
