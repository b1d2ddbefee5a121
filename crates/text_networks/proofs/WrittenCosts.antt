-- What a choice costs by the problem that is written: the same where it meets nothing forbidden, and else the upper
-- bound or more, as by the problem itself.
use mathlib.Core.Path.{◌≡◌, refl, sym, ap, ap₂, ◌∙◌}
use mathlib.Core.Bool.{Bool, true, false}
use mathlib.Core.List.{List, [], ◌∷◌, map}
use Prim.Native.Nat.{ℕ, zero, suc, ◌+◌, ◌≤◌}
use native.Mathlib.Omega.{arith}
use lib.Dec.{eqb, ltb}
use lib.ListN.{get_or}
use borrow.Author.Tests.{eq-eqb, le-ltb}
use Rattle.model.specs.Basics.{when, All}
use Rattle.model.specs.Problems.{Table, Problem, TableRules}
use Rattle.model.specs.Costs.{cost_of, total, totals_from, totals, forbidden, meets_forbidden, costs_of}
use Rattle.model.proofs.Bits.{true_false, or-false}
use Rattle.model.proofs.Elements.{all_has, all_map}
use Rattle.model.proofs.Forbidden.{meets_in, total_in}
use Rattle.model.proofs.Frontier.{Meets}
use Rattle.text_networks.specs.NetworkTexts.{upper_bound_of, written_cost, written_table, written}
use Rattle.text_networks.specs.Statements.{Writable}

-- ## sums over the records of the one objective

abbrev Owned : List Table → Type 0
Owned ts = All (λ t. t.objective ≡ 0) ts

-- where something forbidden is met, the sum of other numbers is at least what stands in its place
total_met : (f g : Table → ℕ) (m : ℕ) → ((t : Table) → f t ≡ forbidden → m ≤ g t) → (ts : List Table) → Owned ts
    → meets_forbidden f ts ≡ true → m ≤ total 0 g ts
total_met f g m h ts owned e =
    let (t, there, is) = meets_in f ts e in
    let own : total t.objective g ts ≡ total 0 g ts =
    ap (λ (o : ℕ). total o g ts) (all_has (λ u. u.objective ≡ 0) ts owned t there) in
    omega (arith, h t is, total_in g t ts there, own)

module _ (bound : ℕ) where
  total_unmet : (f : Table → ℕ) (ts : List Table) → meets_forbidden f ts ≡ false
      → total 0 (λ t. written_cost bound (f t)) ts ≡ total 0 f ts
  unfolding total meets_forbidden
  total_unmet f [] e = refl
  total_unmet f (t ∷ ts) e =
      let (first, more) = or-false (eqb (f t) forbidden) (meets_forbidden f ts) e in
      ap₂ ◌+◌ (rw first refl) (total_unmet f ts more)

  -- ## written entries

  pub entry_written : (cs : List ℕ) (i : ℕ)
      → get_or (map (written_cost bound) cs) i 0 ≡ written_cost bound (get_or cs i 0)
  entry_written [] i = refl
  entry_written (c ∷ cs) zero = refl
  entry_written (c ∷ cs) (suc i) = entry_written cs i

  module _ (ds xs : List ℕ) where
    total_written : (ts : List Table)
        → total 0 (cost_of ds xs) (map (written_table bound) ts)
        ≡ total 0 (λ t. written_cost bound (cost_of ds xs t)) ts
    unfolding total cost_of
    total_written [] = refl
    total_written (t ∷ ts) =
        ap₂ ◌+◌ (ap (when (eqb t.objective 0)) (entry_written t.costs _)) (total_written ts)

-- ## the whole problem

-- what a choice costs by the one objective
abbrev pub one_cost : Problem → List ℕ → ℕ
one_cost q xs = total 0 (cost_of q.domains xs) q.tables

pub one_cost_lem : (q : Problem) (xs : List ℕ) → q.objectives ≡ 1 → costs_of q xs ≡ one_cost q xs ∷ []
unfolding costs_of totals totals_from
one_cost_lem q xs one = rw one refl

module _ (q : Problem) (w : Writable q) (xs : List ℕ) where
  abbrev entry : Table → ℕ
  entry = cost_of q.domains xs

  owned : Owned q.tables
  owned =
      all_map (TableRules q.objectives q.domains) (λ t. t.objective ≡ 0)
      (λ t r. omega (arith, r.owner, w.one)) q.tables w.formed.rules.table_rules

  -- a choice that meets something forbidden costs the upper bound or more
  pub met_above : Meets q xs ≡ true → upper_bound_of q ≤ one_cost q xs
  met_above e =
      omega (
        arith,
        w.bounded,
        total_met entry entry forbidden (λ t h. omega arith) q.tables owned e,
      )

  written_above : Meets q xs ≡ true → upper_bound_of q ≤ one_cost (written q) xs
  unfolding written
  written_above e =
      let bound = upper_bound_of q in
      rw total_written
      (total_met entry (λ t. written_cost bound (entry t)) bound
      (λ t h. rw (eq-eqb (entry t) forbidden h) (omega arith)) q.tables owned e)

  written_equal : Meets q xs ≡ false → one_cost (written q) xs ≡ one_cost q xs
  unfolding written
  written_equal e =
      let bound = upper_bound_of q in
      total_written bound q.domains xs q.tables ∙ total_unmet bound entry q.tables e

  -- both problems allow the same, and it costs the same
  pub written_allowed : ltb (one_cost (written q) xs) (upper_bound_of q) ≡ ltb (one_cost q xs) (upper_bound_of q)
  written_allowed = go (Meets q xs) refl
    where
      go : (b : Bool) → Meets q xs ≡ b
          → ltb (one_cost (written q) xs) (upper_bound_of q) ≡ ltb (one_cost q xs) (upper_bound_of q)
      go true e = le-ltb _ _ (written_above e) ∙ sym (le-ltb _ _ (met_above e))
      go false e = ap (λ (n : ℕ). ltb n (upper_bound_of q)) (written_equal e)

  pub written_cost_lem : ltb (one_cost q xs) (upper_bound_of q) ≡ true → one_cost (written q) xs ≡ one_cost q xs
  written_cost_lem h = go (Meets q xs) refl
    where
      go : (b : Bool) → Meets q xs ≡ b → one_cost (written q) xs ≡ one_cost q xs
      go true e = absurd (true_false h (le-ltb _ _ (met_above e)))
      go false e = written_equal e
