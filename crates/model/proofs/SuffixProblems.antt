-- The problem of the last variables in one objective: the gains that it may use, and the one that its least cost gives.
use mathlib.Core.Path.{◌≡◌, refl, sym, ◌∙◌}
use mathlib.Core.Logic.{◌⊎◌, inl, inr, ⊎_elim}
use mathlib.Core.Bool.{Bool, true, false}
use mathlib.Core.List.Memᴰ.{not-nil as in-none}
use mathlib.Core.List.{List, [], ◌∷◌, ◌++◌}
use Prim.Native.Nat.{ℕ, suc, ◌≤◌, ◌<◌}
use native.Mathlib.Omega.{arith}
use lib.Dec.{eqb, ltb}
use lib.ListN.{length, get_or, replicate}
use borrow.Author.Tests.{ltb-true, ltb-false, eqb-true}
use Rattle.model.specs.Basics.{All}
use Rattle.model.specs.Problems.{Table, Problem}
use Rattle.model.specs.Costs.{is_choice, cost_of, total, totals, costs_of}
use Rattle.model.specs.Frontiers.{Point}
use Rattle.model.specs.Core.{core_consistent, CoreReached}
use Rattle.model.specs.Bounds.{least_of}
use Rattle.model.specs.Search.{Held, nothing, just, pass}
use Rattle.model.specs.Views.{kept}
use Rattle.model.specs.Suffixes.{suffix_sides, in_suffix, suffix_of, least_cost, gain_of, Gain, Gains}
use Rattle.model.proofs.Bits.{test, and_left}
use Rattle.model.proofs.Sums.{last_at, under_last, earlier_last}
use Rattle.model.proofs.Totals.{totals_last}
use Rattle.model.proofs.Frontier.{reached_choice}
use Rattle.model.proofs.Passes.{prefix_none}
use Rattle.model.proofs.Tree.{Through}
use Rattle.model.proofs.Held.{Seen}
use Rattle.model.proofs.Search.{Left, at, After, Sound, pass_holds}
use Rattle.model.proofs.Spread.{narrowed_length}
use Rattle.model.proofs.Kept.{all_kept, total_own, total_inner}
use Rattle.model.proofs.Narrowed.{narrowed_choice, narrowed_part, narrowed_least, narrowed_cost}
use Rattle.model.proofs.Suffixes.{suffix_more, sides_length, gain_none}

-- of objective o and the variables from k on
module _ (q : Problem) (o k : ℕ) where
  abbrev n : ℕ
  n = length q.domains

  abbrev sides : List ℕ
  sides = suffix_sides n k

  abbrev part : Problem
  part = suffix_of q o k

  -- sums over its records are those over q's records from k on, where they count the same
  own_total : (f g : Table → ℕ) → ((t : Table) → in_suffix n k t ≡ true → f t ≡ g t)
      → total o f part.tables ≡ total o g (kept (in_suffix n k) q.tables)
  unfolding suffix_of
  own_total f g h = total_own o f g (in_suffix n k) h q.tables

  later_total : (f g : Table → ℕ) → ((t : Table) → in_suffix n k t ≡ true → f t ≡ g t) → (j : ℕ) → k ≤ j
      → total o f (kept (in_suffix n j) part.tables) ≡ total o g (kept (in_suffix n j) q.tables)
  unfolding suffix_of
  later_total f g h j l = total_inner o f g (in_suffix n j) (in_suffix n k) (suffix_more n k j l) h q.tables

  -- what those records give over its domain sizes
  module _ (below : k ≤ n) where
    suffix_length : length part.domains ≡ n
    unfolding suffix_of
    suffix_length = let long = sides_length n k below in narrowed_length 1 sides q.domains long ∙ sym long

    suffix_least : (t : Table) → in_suffix n k t ≡ true → least_of part.domains [] t ≡ least_of q.domains [] t
    unfolding suffix_of
    suffix_least = narrowed_least 1 sides q.domains (sides_length n k below)

    suffix_cost : (z y : List ℕ) → ((v : ℕ) → get_or sides v 0 ≡ 1 → get_or z v 0 ≡ get_or y v 0) → (t : Table)
        → in_suffix n k t ≡ true → cost_of part.domains z t ≡ cost_of q.domains y t
    unfolding suffix_of
    suffix_cost z y h t i = narrowed_cost 1 sides q.domains (sides_length n k below) t i z y h

    -- a gain of the variables from a later j on serves there
    later_gain : All (λ d. 1 ≤ d) q.domains → (j g : ℕ) → k ≤ j → Gain q o j g → Gain part o j g
    unfolding suffix_of
    later_gain low j g l gain y c =
        rw (suffix_length, later_total _ _ suffix_least j l, later_total _ _ (suffix_cost y y (λ v e. refl)) j l)
        (gain y (narrowed_choice 1 sides q.domains y (sides_length n k below) low c))

  -- one pass over it
  abbrev ceiling : ℕ
  ceiling = get_or q.ceilings o 0

  abbrev cost_in : List ℕ → ℕ
  cost_in z = total o (cost_of part.domains z) part.tables

  suffix_costs : (z : List ℕ) → costs_of part z ≡ replicate o 0 ++ (cost_in z ∷ [])
  unfolding suffix_of costs_of totals
  suffix_costs z =
      totals_last o 0 o (cost_of part.domains z) part.tables (omega arith)
      (all_kept (λ t. t.objective ≡ o) _ (λ t h. eqb-true t.objective o (and_left (eqb t.objective o) _ h))
      q.tables)

  allowed_test : (z : List ℕ) → core_consistent part z ≡ ltb (cost_in z) ceiling
  unfolding core_consistent suffix_of
  allowed_test z = rw (suffix_costs z) (under_last o (cost_in z) ceiling)

  point_cost : (x : Point) → CoreReached part x → get_or x.costs o 0 ≡ cost_in x.choice
  point_cost x r = rw (r.exact, suffix_costs x.choice) (last_at o (cost_in x.choice))

  -- what it holds costs at most the ceiling, and at most what any choice does: one that is not consistent costs the
  -- ceiling or more
  held_limit : (h : Held) → After part [] [] h → least_cost o ceiling h ≤ ceiling
  unfolding least_cost
  held_limit nothing m = omega arith
  held_limit (just x) m =
      let r = m.inside.0.0 in
      omega (arith, point_cost x r, ltb-true (cost_in x.choice) ceiling (sym (allowed_test x.choice) ∙ r.allowed))

  held_under : (h : Held) → After part [] [] h → (z : List ℕ)
      → Seen (Left part []) (Through part.domains []) (at part [] z) → least_cost o ceiling h ≤ cost_in z
  unfolding least_cost
  held_under nothing m z s = absurd (m (at part [] z) s)
  held_under (just x) m z s =
      let r = m.inside.0.0 in
      ⊎_elim
      (λ e. omega (
        arith,
        point_cost x r,
        earlier_last o (cost_in x.choice) (cost_in z) (rw (r.exact, suffix_costs x.choice, suffix_costs z) at e),
      ))
      (λ e. rw e.0 (omega (arith, point_cost (at part [] z) s.0.0)))
      (m.least (at part [] z) s)

  held_least : (h : Held) → After part [] [] h → (z : List ℕ) → is_choice part.domains z ≡ true
      → least_cost o ceiling h ≤ cost_in z
  held_least h m z c =
      ⊎_elim
      (λ t. held_under h m z ((reached_choice part z c (allowed_test z ∙ t), λ i. in-none i.1), inr (c, tt)))
      (λ t. omega (arith, held_limit h m, ltb-false (cost_in z) ceiling t))
      (test (ltb (cost_in z) ceiling))

  held : (skip : List Point → List ℕ → Held → Bool) → Sound part skip → After part [] [] (pass part skip [])
  held skip sound = pass_holds part skip sound [] (prefix_none (CoreReached part))

  -- its least cost, less its records' least entries, is a gain
  pub suffix_gain : k ≤ length q.domains → (skip : List Point → List ℕ → Held → Bool) → Sound (suffix_of q o k) skip
      → Gain q o k (gain_of q o k (pass (suffix_of q o k) skip []))
  unfolding gain_of suffix_of
  suffix_gain below skip sound y c =
      let (z, f, same) = narrowed_part 1 sides q.domains y (sides_length n k below) c in
      omega (
        arith,
        held_least (pass part skip []) (held skip sound) z f,
        own_total (least_of part.domains []) (least_of q.domains []) (suffix_least below),
        own_total (cost_of part.domains z) (cost_of q.domains y) (suffix_cost below z y same),
        gain_none q o k y c,
      )

-- the gains that are known of later variables are gains of the suffix problem
pub suffix_gains : (q : Problem) (o k : ℕ) (gains : ℕ → List ℕ) → All (λ d. 1 ≤ d) q.domains
    → k ≤ length q.domains → ((j : ℕ) → j ≤ length q.domains → length (gains j) ≡ suc o)
    → ((i j : ℕ) → i < o → j ≤ length q.domains → get_or (gains j) i 0 ≡ 0)
    → ((j : ℕ) → j ≤ k → get_or (gains j) o 0 ≡ 0)
    → ((j : ℕ) → k < j → j ≤ length q.domains → Gain q o j (get_or (gains j) o 0)) → Gains (suffix_of q o k) gains
unfolding suffix_of
suffix_gains q o k gains low below wide others early later =
    record {
      width = λ j l. wide j (rw (suffix_length q o k below) at l);
      sound = λ i j m l. go i j m (rw (suffix_length q o k below) at l) (test (ltb i o)) (test (ltb k j));
    }
  where
    none : (i j : ℕ) → get_or (gains j) i 0 ≡ 0 → Gain (suffix_of q o k) i j (get_or (gains j) i 0)
    none i j e = rw e (gain_none (suffix_of q o k) i j)

    go : (i j : ℕ) → suc i ≤ suc o → j ≤ length q.domains → (ltb i o ≡ true) ⊎ (ltb i o ≡ false)
        → (ltb k j ≡ true) ⊎ (ltb k j ≡ false) → Gain (suffix_of q o k) i j (get_or (gains j) i 0)
    go i j m l (inl a) b = none i j (others i j (ltb-true i o a) l)
    go i j m l (inr a) (inr b) =
        let e : i ≡ o = omega (arith, ltb-false i o a) in none i j (rw e (early j (ltb-false k j b)))
    go i j m l (inr a) (inl b) =
        let e : i ≡ o = omega (arith, ltb-false i o a) in
        rw e
        (later_gain q o k below low j (get_or (gains j) o 0) (omega (arith, ltb-true k j b))
        (later j (ltb-true k j b) l))
