-- The search of the last variables in one objective: what work memory holds for it, and the gain that its result gives.
use mathlib.Core.Path.{◌≡◌, refl, sym, ap, ◌∙◌, subst}
use mathlib.Core.List.{List, [], ◌∷◌, ◌++◌}
use Prim.Native.Nat.{ℕ, suc, ◌+◌, ◌-◌, ◌≤◌, ◌<◌}
use native.Mathlib.Omega.{arith}
use native.Mathlib.Numerals.{add-one}
use lib.ListN.{length, get_or, take, drop, replicate, length-drop}
use lib.Seq.{length-take-le, get_or-take}
use Rattle.std.specs.Prelude.{Option, Some, None}
use Rattle.std.specs.Option.{option_map_or}
use Rattle.model.specs.Limits.{max_tables, max_variables}
use Rattle.model.specs.Problems.{Problem, DomainSize}
use Rattle.model.specs.Bounds.{least_of}
use Rattle.model.specs.Costs.{total}
use Rattle.model.specs.Search.{Held, pass}
use Rattle.model.specs.Views.{narrowed}
use Rattle.model.specs.Suffixes.{suffix_sides, suffix_of, least_cost, gain_of, Gain, Gains}
use Rattle.model.proofs.Lists.{drop_later}
use Rattle.model.proofs.Elements.{all_map}
use Rattle.model.proofs.Search.{Sound}
use Rattle.model.proofs.Suffixes.{sides_length, gains_sound, gain_less}
use Rattle.model.proofs.SuffixProblems.{suffix_gains, suffix_gain}
use Rattle.layout.specs.Layout.{records_at, gains_at, source_at, search_end}
use Rattle.groups.specs.Groups.{tables_over, places_in, Placed, Grouped}
use Rattle.groups.proofs.Overwritten.{over, over_length, over_behind, over_here}
use Rattle.rows.specs.Rows.{list_in}
use Rattle.pass_search.specs.States.{held_of, problem_in, listed_in, tables_in, prefix_of, gains_in, rule_of}
use Rattle.pass_search.specs.States.{Setting, Stands}
use Rattle.pass_search.specs.declared.Partial as DP
use Rattle.pass_search.specs.declared.Met as DM
use Rattle.vectors.proofs.Fours.{at_listed}
use Rattle.pass_search.proofs.FourTotals.{totals_listed}
use Rattle.views.specs.Wanted.{kept_places}
use Rattle.views.proofs.Narrowing.{narrowed_length, narrowed_small}
use Rattle.views.proofs.KeptPlaces.{kept_count, kept_whole, kept_tables}
use Rattle.views.proofs.KeptTables.{suffix_part, wanted_suffix}
use Rattle.groups.specs.Sources.{source_in, source_problem, Source}
use Rattle.groups.specs.declared.Task as DT
use Rattle.pass_suffixes.specs.Gained.{FoundFrom}
use Rattle.pass_suffixes.proofs.SideLists.{sides_front}
use Rattle.pass_suffixes.proofs.GainRows.{row_at, row_width_lem, found_same, found_last}

-- the task of objective o alone: so many records, under the ceilings cs, and one point
abbrev pub alone : ℕ → ℕ → List ℕ → DT.Task
alone count o cs = record { records = count; objectives = o + 1; ceilings = cs; room = 0 }

-- the records of objective o over the variables from k on, by the side list ss, over the domain sizes that it leaves:
-- `count` of a task's, their places written
pub record Suffix (task : DT.Task) (ds s was : List ℕ) (o k : ℕ) (ss sizes : List ℕ) (count : ℕ) (laid : List ℕ)
    : Type 0 where
  pub source : Source task ds s was
  pub known : FoundFrom (source_problem task ds s was) o k was
  pub own : o < task.objectives
  pub more : k < length ds
  pub sides : ss ≡ suffix_sides (length ds) k
  pub narrow : sizes ≡ narrowed 1 ss ds
  pub counted : count ≡ length (kept_places (suffix_part o) ss s (source_in was task.records))
  pub written : laid
      ≡ over was records_at (kept_places (suffix_part o) ss s (source_in was task.records)) (records_at + count)

-- the side list is the front of one of all variables
pub suffix_here : {task : DT.Task} {ds s was : List ℕ} {o k : ℕ} {sides sizes : List ℕ} {count : ℕ} {laid : List ℕ}
    → Source task ds s was × FoundFrom (source_problem task ds s was) o k was × (o < task.objectives) × (k < length ds)
    → sides ≡ suffix_sides max_variables k → sizes ≡ narrowed 1 (take (length ds) sides) ds
    → (count ≡ length (kept_places (suffix_part o) (take (length ds) sides) s (source_in was task.records)))
    × (laid ≡ over was records_at (kept_places (suffix_part o) (take (length ds) sides) s (source_in was task.records))
    (records_at + count))
    → Suffix task ds s was o k (take (length ds) sides) sizes count laid
suffix_here {ds = ds} {k = k} (source, known, own, more) is narrow (counted, written) = record {
  source = source;
  known = known;
  own = own;
  more = more;
  sides =
      ap (take (length ds)) is ∙ sides_front (length ds) k (omega (arith, more)) max_variables source.variables;
  narrow = narrow;
  counted = counted;
  written = written;
}

module _ {task : DT.Task} {ds s was : List ℕ} {o k : ℕ} {ss sizes : List ℕ} {count : ℕ} {laid : List ℕ}
    (u : Suffix task ds s was o k ss sizes count laid) where
  abbrev q : Problem
  q = source_problem task ds s was

  abbrev all : List ℕ
  all = source_in was task.records

  abbrev places : List ℕ
  places = kept_places (suffix_part o) ss s all

  -- the ceiling of the objective
  abbrev top : ℕ
  top = get_or task.ceilings o 0

  side_each : length ss ≡ length ds
  side_each = rw u.sides (sym (sides_length (length ds) k (omega (arith, u.more))))

  wide : length sizes ≡ length ds
  wide = rw u.narrow (narrowed_length 1 ss ds side_each)

  domains : sizes ≡ (suffix_of q o k).domains
  unfolding suffix_of
  domains = u.narrow ∙ rw u.sides

  tables : tables_over sizes s places ≡ (suffix_of q o k).tables
  tables = rw (u.narrow, kept_tables (suffix_part o) ss s ds side_each all, u.sides) (wanted_suffix q o k)

  few : count ≤ max_tables
  few =
      omega (
        arith,
        u.counted,
        kept_count (suffix_part o) ss s all,
        length-take-le task.records (drop source_at was)
            (omega (arith, u.source.few, u.source.long, length-drop source_at was)),
        u.source.few,
      )

  -- their places in work memory
  ends : records_at + count ≡ records_at + length places
  ends = omega (arith, u.counted)

  inside : records_at + count ≤ length was
  inside = omega (arith, few, u.source.long)

  laid_places : places_in laid count ≡ places
  laid_places =
      rw (u.written, u.counted)
      (over_here was records_at places (records_at + length places) refl (omega (arith, inside, ends)))

  laid_long : length laid ≡ length was
  laid_long = rw u.written (over_length was records_at places (records_at + count) ends inside)

  laid_behind : drop gains_at laid ≡ drop gains_at was
  laid_behind =
      rw u.written (over_behind was records_at places (records_at + count) ends inside gains_at (omega (arith, few)))

  pub suffix_placed : Placed sizes s laid count
  suffix_placed =
      record {
        few = few;
        small = rw u.narrow (narrowed_small 1 ss ds u.source.small);
        variables = omega (arith, wide, u.source.variables);
        long = omega (arith, laid_long, u.source.long);
        whole =
            rw laid_places (rw u.narrow (kept_whole (suffix_part o) ss s ds side_each all u.source.whole));
      }

  -- and grouped
  module _ (work : List ℕ)
      (group : Grouped sizes s work count × (drop records_at work ≡ drop records_at laid)
      × (length work ≡ length laid)) where
    pub same_gains : drop gains_at work ≡ drop gains_at was
    same_gains = drop_later records_at gains_at work laid (omega arith) group.1 ∙ laid_behind

    pub same_long : length work ≡ length was
    same_long = group.2 ∙ laid_long

    found : FoundFrom q o k work
    found = found_same was work same_gains u.known

    enough : search_end ≤ length work
    enough = omega (arith, same_long, u.source.long)

    pub suffix_setting : (cs : List ℕ) → Setting (alone count o cs) 0 sizes s work
    suffix_setting cs =
        record {
          grouped = group.0;
          objectives = omega (arith, u.source.objectives, u.own);
          count = omega arith;
          last = rw wide (found_last work u.source.variables enough found);
        }

    suffix_known : Gains (suffix_of q o k) (gains_in (suc o) work)
    suffix_known =
        suffix_gains q o k (gains_in (suc o) work) (all_map DomainSize (λ d. 1 ≤ d) (λ d h. h.0) ds u.source.small)
        (omega arith)
        (λ j h. row_width_lem (suc o) work j enough (omega (arith, u.source.objectives, u.own))
        (omega (arith, u.source.variables)))
        (λ i j l h. row_at (suc o) work j i (omega arith) ∙ found.before i j l h)
        (λ j h. row_at (suc o) work j o (omega arith) ∙ found.above j h)
        (λ j l h. rw (row_at (suc o) work j o (omega arith)) (found.sound o j u.own h))

    -- the rule of the search is sound there
    suffix_sound : Sound (suffix_of q o k) (rule_of (suffix_of q o k) work)
    unfolding suffix_of
    suffix_sound = gains_sound (suffix_of q o k) (gains_in (suc o) work) suffix_known

    -- the problem that the search speaks of
    ceiling : get_or q.ceilings o 0 ≡ top
    ceiling = get_or-take task.objectives task.ceilings o 0 u.own

    suffix_tables : tables_in count sizes s work ≡ (suffix_of q o k).tables
    suffix_tables = ap (tables_over sizes s) (ap (take count) group.1 ∙ laid_places) ∙ tables

    suffix_problem : (cs : List ℕ) → take (o + 1) cs ≡ replicate o 1 ++ (top ∷ [])
        → problem_in (alone count o cs) sizes s work ≡ suffix_of q o k
    unfolding suffix_of
    suffix_problem cs e = rw (e, suffix_tables, domains, ceiling, add-one) refl

    -- what it finds, from the empty choice `root` with its bound
    module _ (cs : List ℕ) (limits : take (o + 1) cs ≡ replicate o 1 ++ (top ∷ [])) (root : DP.Partial)
        (start : (root.len ≡ 0) × Stands count sizes s work root) (best : Option DM.Met)
        (gives : held_of (o + 1) (length sizes) best
        ≡ pass (problem_in (alone count o cs) sizes s work) (rule_of (problem_in (alone count o cs) sizes s work) work)
        (listed_in (alone count o cs) sizes work 0)) where
      abbrev result : Held
      result = pass (suffix_of q o k) (rule_of (suffix_of q o k) work) []

      held_is : held_of (o + 1) (length sizes) best ≡ result
      unfolding list_in
      held_is =
          subst (λ (part : Problem). held_of (o + 1) (length sizes) best ≡ pass part (rule_of part work) [])
          (suffix_problem cs limits) gives

      -- the cost of a point, or c where there is none
      cost_is : (c : ℕ)
          → least_cost o c (held_of (o + 1) (length sizes) best) ≡ option_map_or (λ met. get_or met.costs o 0) best c
      unfolding least_cost
      cost_is c = go best
        where
          go : (b : Option DM.Met)
              → least_cost o c (held_of (o + 1) (length sizes) b) ≡ option_map_or (λ met. get_or met.costs o 0) b c
          go (Some met) = get_or-take (o + 1) met.costs o 0 (omega arith)
          go None = refl

      least_is : get_or root.bound o 0 ≡ total o (least_of (suffix_of q o k).domains []) (suffix_of q o k).tables
      unfolding suffix_of
      least_is =
          let none : prefix_of root ≡ [] = ap (λ (n : ℕ). take n root.values) start.0 in
          rw (
            start.1.exact,
            none,
            suffix_tables,
            totals_listed (least_of sizes []) (suffix_of q o k).tables,
            ← domains,
          )
          (at_listed (λ i. total i (least_of sizes []) (suffix_of q o k).tables) o
          (omega (arith, u.source.objectives, u.own)))

      gain_is :
          option_map_or (λ met. get_or met.costs o 0) best top - get_or root.bound o 0 ≡ gain_of q o k result
      unfolding gain_of
      gain_is = rw (← held_is, ceiling, cost_is top, least_is) refl

      pub gain_holds : (g : ℕ)
          → g ≤ option_map_or (λ met. get_or met.costs o 0) best top - get_or root.bound o 0 → Gain q o k g
      gain_holds g less =
          let most = gain_of q o k result in
          let small : g ≤ most = omega (arith, gain_is) in
          gain_less q o k g most small
          (suffix_gain q o k (omega arith) (rule_of (suffix_of q o k) work) suffix_sound)
