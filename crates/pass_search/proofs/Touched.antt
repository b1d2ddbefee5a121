-- One more value in a prefix changes only the least entries of the tables whose scope has its variable.
use mathlib.Core.Path.{◌≡◌, refl, ap, fun_ext}
use mathlib.Core.Logic.{⊎_elim}
use mathlib.Core.Bool.{Bool, true, false, not}
use mathlib.Core.List.{List, [], ◌∷◌, ◌++◌}
use Prim.Native.Nat.{ℕ, ◌+◌, ◌-◌, ◌*◌, ◌≤◌, ◌<◌}
use native.Mathlib.Omega.{arith}
use lib.Dec.{eqb, ltb}
use lib.ListN.{length, get_or, drop, length-append, get_or-append}
use borrow.Author.Tests.{ltb-true, ltb-false, lt-ltb, le-ltb, eqb-false}
use Rattle.model.specs.Basics.{when}
use Rattle.model.specs.Problems.{Table, has_variable}
use Rattle.model.specs.Reading.{table_scope, table_of}
use Rattle.model.specs.Costs.{total}
use Rattle.model.specs.Bounds.{least_to, least_from, least_of}
use Rattle.model.proofs.Bits.{test, or-false}
use Rattle.costs.specs.Entries.{table_at}
use Rattle.groups.specs.Groups.{group_of, tables_over}
use Rattle.pass_search.specs.States.{untouched}

-- a variable that a scope lacks does not matter
module _ (ds pre : List ℕ) (v : ℕ) where
  abbrev more : List ℕ
  more = pre ++ (v ∷ [])

  from_apart : (entry : ℕ → ℕ) (i : ℕ) (vs : List ℕ) → has_variable (length pre) vs ≡ false
      → least_from ds pre entry i vs ≡ least_from ds more entry i vs
  unfolding least_from has_variable
  from_apart entry i [] h = refl
  from_apart entry i (w ∷ vs) h =
      let n = or-false (eqb w (length pre)) (has_variable (length pre) vs) h in
      let next : (j : ℕ) → least_from ds pre entry j vs ≡ least_from ds more entry j vs =
      λ j. from_apart entry j vs n.1 in
      let long : length more ≡ length pre + 1 = length-append pre (v ∷ []) in
      ⊎_elim
      (λ (t : ltb w (length pre) ≡ true).
      let l : w < length pre = ltb-true _ _ t in
      rw (t, lt-ltb w (length more) (omega arith), get_or-append pre (v ∷ []) 0 w l) (next _))
      (λ (t : ltb w (length pre) ≡ false).
      let l : length pre ≤ w = ltb-false _ _ t in
      let k : length more ≤ w = omega (arith, eqb-false w (length pre) n.0) in
      rw (t, le-ltb w (length more) k)
      (ap (least_to (get_or ds w 0 - 1)) (fun_ext (λ a. next (i * get_or ds w 0 + a)))))
      (test (ltb w (length pre)))

  pub least_apart : (t : Table) → has_variable (length pre) t.scope ≡ false → least_of ds pre t ≡ least_of ds more t
  unfolding least_of
  least_apart t h = from_apart (λ i. get_or t.costs i 0) 0 t.scope h

-- a sum is what the tables that a variable does not touch add, by any function that agrees there, and what its group
-- adds
when_none : (b : Bool) → when b 0 ≡ 0
when_none true = refl
when_none false = refl

module _ (k : ℕ) (ds s : List ℕ) (f g : Table → ℕ) (apart : (t : Table) → has_variable k t.scope ≡ false → g t ≡ f t)
    (o : ℕ) where
  abbrev others : Table → ℕ
  others t = when (not (has_variable k t.scope)) (g t)

  pub total_split : (places : List ℕ)
      → total o f (tables_over ds s places)
      ≡ total o others (tables_over ds s places) + total o f (tables_over ds s (group_of s k places))
  unfolding total tables_over group_of table_of
  total_split [] = refl
  total_split (at ∷ places) =
      let t = table_at ds s at in
      let own = eqb t.objective o in
      let rest : total o f (tables_over ds s places)
      ≡ total o others (tables_over ds s places) + total o f (tables_over ds s (group_of s k places)) =
      total_split places in
      ⊎_elim
      (λ (h : has_variable k (table_scope (drop at s)) ≡ true). rw h (omega (arith, when_none own)))
      (λ (h : has_variable k (table_scope (drop at s)) ≡ false). rw (h, apart t h) (omega arith))
      (test (has_variable k (table_scope (drop at s))))

-- the bound of a prefix, and of one that has a value more, for the next variable k
module _ (ds s pre places : List ℕ) (k o : ℕ) where
  pub split_before :
      total o (least_of ds pre) (tables_over ds s places)
      ≡ total o (untouched k ds pre) (tables_over ds s places)
      + total o (least_of ds pre) (tables_over ds s (group_of s k places))
  split_before = total_split k ds s (least_of ds pre) (least_of ds pre) (λ t h. refl) o places

  pub split_after : length pre ≡ k → (v : ℕ)
      → total o (least_of ds (pre ++ (v ∷ []))) (tables_over ds s places)
      ≡ total o (untouched k ds pre) (tables_over ds s places)
      + total o (least_of ds (pre ++ (v ∷ []))) (tables_over ds s (group_of s k places))
  split_after e v =
      total_split k ds s (least_of ds (pre ++ (v ∷ []))) (least_of ds pre) (λ t h. least_apart ds pre v t (rw e h)) o
      places
