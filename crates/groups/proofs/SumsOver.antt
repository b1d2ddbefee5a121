-- Sums over the records whose places stand in work memory at `from` .. `to`, one place at a time: those left stand from
-- i on.
use mathlib.Core.Path.{◌≡◌, refl, sym, ◌∙◌}
use mathlib.Core.List.{List, ◌∷◌}
use Prim.Native.Nat.{ℕ, ◌+◌, ◌-◌, ◌*◌, ◌≤◌, ◌<◌}
use native.Mathlib.Omega.{arith}
use native.Mathlib.Nat.{zero-add}
use lib.ListN.{length, get_or, set, take, drop, replicate, length-set}
use Rattle.model.specs.Basics.{All}
use Rattle.model.specs.Limits.{max_tables, max_objectives}
use Rattle.model.specs.Core.{entry_end}
use Rattle.model.specs.Problems.{Table}
use Rattle.model.specs.Reading.{table_objective, table_of}
use Rattle.model.specs.Vectors.{added}
use Rattle.model.specs.Costs.{totals_from}
use Rattle.model.proofs.Lists.{part_next}
use Rattle.model.proofs.Elements.{all_at, all_map, all_set}
use Rattle.problem.specs.Records.{Whole}
use Rattle.costs.specs.Entries.{table_at}
use Rattle.costs.proofs.SumSteps.{added_zeros, added_none, added_next}
use Rattle.groups.specs.Groups.{tables_over}

-- what stands from i to `to`
abbrev pub left : List ℕ → ℕ → ℕ → List ℕ
left work i to = take (to - i) (drop i work)

-- `sums` so far
pub record SummingOver (f : Table → ℕ) (ds s work : List ℕ) (from to : ℕ) (sums : List ℕ) (i : ℕ) : Type 0 where
  pub behind : from ≤ i
  pub before : i ≤ to
  pub inside : to ≤ length work
  pub few : to - from ≤ max_tables
  pub four : length sums ≡ max_objectives
  pub small : All (λ x. x ≤ entry_end * (i - from)) sums
  pub whole : All (Whole ds s) (left work i to)
  pub rest :
      added sums (totals_from max_objectives 0 f (tables_over ds s (left work i to)))
      ≡ totals_from max_objectives 0 f (tables_over ds s (left work from to))

pub sums_start : (f : Table → ℕ) (ds s work : List ℕ) (from to : ℕ) → from ≤ to → to ≤ length work
    → to - from ≤ max_tables → All (Whole ds s) (left work from to)
    → SummingOver f ds s work from to (replicate max_objectives 0) from
sums_start f ds s work from to h l few w =
    record {
      behind = omega arith;
      before = h;
      inside = l;
      few = few;
      four = refl;
      small = (omega arith, (omega arith, (omega arith, (omega arith, tt))));
      whole = w;
      rest = added_zeros f max_objectives 0 (tables_over ds s (left work from to));
    }

module _ {f : Table → ℕ} {ds s work : List ℕ} {from to : ℕ} {sums : List ℕ} {i : ℕ}
    (u : SummingOver f ds s work from to sums i) where
  pub sums_small : (o : ℕ) → get_or sums o 0 ≤ entry_end * max_tables
  sums_small o =
      omega (
        arith,
        u.behind,
        u.before,
        u.few,
        all_at (λ x. x ≤ entry_end * (i - from)) sums u.small o 0 (omega arith),
      )

  pub sums_end : to ≤ i → sums ≡ totals_from max_objectives 0 f (tables_over ds s (left work from to))
  unfolding tables_over
  sums_end h =
      let none : to - i ≡ 0 = omega arith in
      sym (added_none f max_objectives 0 sums u.four) ∙ (rw none at u.rest)

  module _ (more : i < to) where
    step : left work i to ≡ get_or work i 0 ∷ left work (i + 1) to
    step = part_next 0 work i to more u.inside

    pub place_whole : Whole ds s (get_or work i 0)
    place_whole = (rw step at u.whole).0

    pub sums_next : (o cost : ℕ) → o ≡ table_objective (drop (get_or work i 0) s)
        → cost ≡ f (table_at ds s (get_or work i 0))
        → cost < entry_end → SummingOver f ds s work from to (set sums o (get_or sums o 0 + cost)) (i + 1)
    unfolding table_of tables_over
    sums_next o cost own is word =
        let t = table_at ds s (get_or work i 0) in
        let next = tables_over ds s (left work (i + 1) to) in
        let more-small : (x : ℕ) → x ≤ entry_end * (i - from) → x ≤ entry_end * (i + 1 - from) = λ x h. omega arith in
        let o-small = all_at (λ x. x ≤ entry_end * (i - from)) sums u.small o 0 (omega arith) in
        let inner : o < max_objectives = rw own place_whole.owner in
        let sum : added (set sums o (get_or sums o 0 + cost)) (totals_from max_objectives 0 f next)
        ≡ added sums (totals_from max_objectives 0 f (t ∷ next)) =
        rw is (added_next f t next max_objectives 0 o sums u.four inner (sym own ∙ sym (zero-add o))) in
        record {
          behind = omega (arith, u.behind);
          before = omega arith;
          inside = u.inside;
          few = u.few;
          four = length-set sums o _ ∙ u.four;
          small = all_set _ sums o _ (all_map _ _ more-small sums u.small) (omega (arith, u.behind, o-small));
          whole = (rw step at u.whole).1;
          rest = sum ∙ (rw step at u.rest);
        }
