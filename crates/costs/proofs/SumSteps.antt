-- Sums over records, one record at a time: costs and bounds are the same loop over another function f of a table.
use mathlib.Core.Path.{◌≡◌, refl, sym, ◌∙◌}
use mathlib.Core.List.{List, [], ◌∷◌}
use Prim.Native.Nat.{ℕ, zero, suc, ◌+◌, ◌-◌, ◌*◌, ◌≤◌, ◌<◌}
use native.Mathlib.Omega.{arith}
use native.Mathlib.Nat.{add-zero, zero-add, add_assoc}
use borrow.Author.Tests.{eq-eqb, ne_eqb}
use lib.ListN.{length, get_or, set, drop, replicate, length-set}
use Rattle.model.specs.Basics.{All}
use Rattle.model.specs.Limits.{max_tables, max_objectives}
use Rattle.model.specs.Core.{entry_end}
use Rattle.model.specs.Problems.{Table}
use Rattle.model.specs.Reading.{table_objective, table_length, table_of, tables_at}
use Rattle.model.specs.Vectors.{added}
use Rattle.model.specs.Costs.{total, totals_from}
use Rattle.model.proofs.Elements.{all_at, all_map, all_set}
use Rattle.problem.specs.Records.{Whole, AllWhole}
use Rattle.costs.proofs.RecordSteps.{whole_next, tables_next}

-- ## vectors of sums

module _ (f : Table → ℕ) where
  pub added_zeros : (p o : ℕ) (ts : List Table) → added (replicate p 0) (totals_from p o f ts) ≡ totals_from p o f ts
  unfolding added totals_from
  added_zeros zero o ts = refl
  added_zeros (suc p) o ts = rw (zero-add, added_zeros p (suc o) ts)

  pub added_none : (p o : ℕ) (xs : List ℕ) → length xs ≡ p → added xs (totals_from p o f []) ≡ xs
  unfolding added totals_from total
  added_none p o [] e = refl
  added_none zero o (x ∷ xs) e = absurd (omega arith)
  added_none (suc p) o (x ∷ xs) e = rw (add-zero, added_none p (suc o) xs (omega arith))

  -- a table adds to the sum of its own objective only
  module _ (t : Table) (ts : List Table) where
    total_own : total t.objective f (t ∷ ts) ≡ f t + total t.objective f ts
    unfolding total
    total_own = rw (eq-eqb t.objective t.objective refl)

    total_other : (o : ℕ) → (t.objective ≡ o → ⊥) → total o f (t ∷ ts) ≡ total o f ts
    unfolding total
    total_other o h = rw (ne_eqb t.objective o h, zero-add)

    totals_other : (p o : ℕ) → t.objective < o → totals_from p o f (t ∷ ts) ≡ totals_from p o f ts
    unfolding totals_from
    totals_other zero o h = refl
    totals_other (suc p) o h = rw (total_other o (λ e. omega arith), totals_other p (suc o) (omega arith))

    pub added_next : (p o i : ℕ) (xs : List ℕ) → length xs ≡ p → i < p → t.objective ≡ o + i
        → added (set xs i (get_or xs i 0 + f t)) (totals_from p o f ts) ≡ added xs (totals_from p o f (t ∷ ts))
    unfolding added totals_from
    added_next p o i [] l h e = absurd (omega arith)
    added_next zero o i (x ∷ xs) l h e = absurd (omega arith)
    added_next (suc p) o zero (x ∷ xs) l h e =
        let k : t.objective ≡ o = e ∙ add-zero o in
        rw (← k, total_own, totals_other p (suc t.objective) (omega arith), add_assoc)
    added_next (suc p) o (suc i) (x ∷ xs) l h e =
        rw (total_other o (λ k. omega arith), added_next p (suc o) i xs (omega arith) (omega arith) (omega arith))

-- ## the loop over records

-- `sums` so far, with `left` records from `here` on yet to come
pub record Summing (f : Table → ℕ) (ds s : List ℕ) (r at : ℕ) (sums : List ℕ) (here left : ℕ) : Type 0 where
  pub fewer : left ≤ r
  pub four : length sums ≡ max_objectives
  pub small : All (λ x. x ≤ entry_end * (r - left)) sums
  pub whole : AllWhole left ds s here
  pub rest :
      added sums (totals_from max_objectives 0 f (tables_at left ds s here))
      ≡ totals_from max_objectives 0 f (tables_at r ds s at)

module _ (f : Table → ℕ) (ds s : List ℕ) (r at : ℕ) where
  pub summing_start : AllWhole r ds s at → Summing f ds s r at (replicate max_objectives 0) at r
  summing_start w =
      record {
        fewer = omega arith;
        four = refl;
        small = (omega arith, (omega arith, (omega arith, (omega arith, tt))));
        whole = w;
        rest = added_zeros f max_objectives 0 (tables_at r ds s at);
      }

  module _ (sums : List ℕ) (here left : ℕ) (u : Summing f ds s r at sums here left) where
    pub sum_small : r ≤ max_tables → (o : ℕ) → get_or sums o 0 ≤ entry_end * max_tables
    sum_small few o = omega (arith, all_at (λ x. x ≤ entry_end * (r - left)) sums u.small o 0 (omega arith))

    pub summing_end : left ≡ 0 → sums ≡ totals_from max_objectives 0 f (tables_at r ds s at)
    unfolding tables_at
    summing_end e = sym (added_none f max_objectives 0 sums u.four) ∙ (rw e at u.rest)

    module _ (more : 0 < left) where
      pub next_whole : Whole ds s here
      next_whole = (whole_next left ds s here more u.whole).0

      pub summing_next : (o cost width : ℕ) → o ≡ table_objective (drop here s) → cost ≡ f (table_of ds (drop here s))
          → cost < entry_end → width ≡ table_length ds (drop here s)
          → Summing f ds s r at (set sums o (get_or sums o 0 + cost)) (here + width) (left - 1)
      unfolding table_of
      summing_next o cost width own is word wide =
          let t = table_of ds (drop here s) in
          let next = tables_at (left - 1) ds s (here + table_length ds (drop here s)) in
          let more-small : (x : ℕ) → x ≤ entry_end * (r - left) → x ≤ entry_end * (r - (left - 1)) =
          λ x h. omega (arith, u.fewer) in
          let o-small = all_at (λ x. x ≤ entry_end * (r - left)) sums u.small o 0 (omega arith) in
          let inside : o < max_objectives = rw own next_whole.owner in
          let step : added (set sums o (get_or sums o 0 + cost)) (totals_from max_objectives 0 f next)
          ≡ added sums (totals_from max_objectives 0 f (t ∷ next)) =
          rw is (added_next f t next max_objectives 0 o sums u.four inside (sym own ∙ sym (zero-add o))) in
          record {
            fewer = omega (arith, u.fewer);
            four = length-set sums o _ ∙ u.four;
            small = all_set _ sums o _ (all_map _ _ more-small sums u.small) (omega (arith, u.fewer, o-small));
            whole = rw wide (whole_next left ds s here more u.whole).1;
            rest = rw wide (step ∙ (rw (tables_next left ds s here more) at u.rest));
          }
