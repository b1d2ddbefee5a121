-- The cut of a problem that was read: the sums of the halves' lists that were kept give its frontier list, and what
-- each end of the cut says. Lists are found in the core; what is said is of the problem itself.
use mathlib.Core.Path.{◌≡◌, refl, sym, ap, ◌∙◌}
use mathlib.Core.Bool.{true, false, ◌||◌}
use mathlib.Core.List.{List, [], ◌∷◌}
use Prim.Native.Nat.{ℕ, suc, ◌≤◌}
use native.Mathlib.Omega.{arith}
use lib.Dec.{ltb}
use lib.ListN.{length, take}
use Rattle.model.specs.Basics.{All}
use Rattle.model.specs.Limits.{max_points, work_need}
use Rattle.model.specs.Problems.{Table, Problem, Word, RecordRules}
use Rattle.model.specs.Encoding.{Byte}
use Rattle.model.specs.Reading.{problem_of}
use Rattle.model.specs.Frontiers.{Point, best, frontier}
use Rattle.model.specs.Core.{core_tables, core_ceilings, core_of, with_ceilings, core_frontier}
use Rattle.model.specs.Cuts.{sides_ok, uncrossed, half_size}
use Rattle.model.specs.Views.{view}
use Rattle.model.proofs.Elements.{all_in, all_map}
use Rattle.model.proofs.Reading.{accepted_rules}
use Rattle.model.proofs.Frontier.{frontier_best}
use Rattle.model.proofs.Core.{weighable, take_ceilings, core_frontier_lem, core_half_list, core_sides, core_uncrossed}
use Rattle.model.proofs.Core.{Light, weighed_limit, view_sums}
use Rattle.model.proofs.Views.{view_size}
use Rattle.model.proofs.Merging.{sums_best, sums_bytes}
use Rattle.layout.specs.Layout.{first_row, second_row}
use Rattle.problem.specs.declared.Problem as DQ
use Rattle.problem.proofs.Accepted.{AcceptedReading}
use Rattle.problem.proofs.Readings.{ceilings_are, domains_small}
use Rattle.std.specs.Prelude.{Option, Some, None}
use Rattle.pass_list.specs.Says.{FoundSays, is_full, count_of}
use Rattle.cut_sums.specs.Sums.{first_in, second_in, sums_in, SmallCosts, Halved}
use Rattle.answers.specs.Cuts.{CutFound}
use Rattle.answers.proofs.FoundRows.{rows_read}
use Rattle.cut_halves.specs.Says.{KeptSays}
use Rattle.cut_halves.proofs.Keeping.{kept_few, first_same}

-- a list on the way is too long
cut_full : (q : Problem) (ss : List ℕ) (room : ℕ) (work work' : List ℕ)
    → (ltb max_points (half_size 0 q ss) || (ltb max_points (half_size 1 q ss) || ltb room (length (frontier q))))
    ≡ true
    → length work' ≡ length work → CutFound q ss room work work' None
cut_full q ss room work work' h long = record { full = sym h; lists = tt; long = long }

-- tables of words have light entries in the core
core_light : (ts : List Table) → All (λ t. All Word t.costs) ts → All Light (core_tables ts)
unfolding core_tables
core_light [] h = tt
core_light (t ∷ ts) h = (weighed_limit t.costs h.0, core_light ts h.1)

core_many : (ts : List Table) → length (core_tables ts) ≡ length ts
unfolding core_tables
core_many [] = refl
core_many (t ∷ ts) = ap suc (core_many ts)

-- the ceilings of the halves and of their sums are the problem's, as the core has them
module _ {s : List ℕ} {g : DQ.Problem} (a : AcceptedReading s g) (bytes : All Byte s) (room : ℕ)
    (ss was wide : List ℕ)
    (same : wide ≡ core_ceilings g.head.ceilings)
    (sides : sides_ok (problem_of s) ss ≡ true) (free : uncrossed ss (problem_of s).tables ≡ true)
    (memory : work_need ≤ length was) where
  abbrev p : ℕ
  p = g.head.objectives

  abbrev n : ℕ
  n = g.head.variables

  abbrev q : Problem
  q = problem_of s

  rules : RecordRules q
  rules = accepted_rules s bytes a.none

  abbrev hs : List ℕ
  hs = take p wide

  ceilings_same : hs ≡ (core_of q).ceilings
  ceilings_same = rw same (take_ceilings p g.head.ceilings ∙ ap core_ceilings (ceilings_are s g a))

  half_problem : with_ceilings hs (core_of q) ≡ core_of q
  half_problem = ap (λ cs. with_ceilings cs (core_of q)) ceilings_same

  core_side : sides_ok (core_of q) ss ≡ true
  core_side = core_sides q ss ∙ sides

  core_free : uncrossed ss (core_of q).tables ≡ true
  core_free = core_uncrossed ss q.tables ∙ free

  abbrev list_of : ℕ → List Point
  list_of k = core_frontier (view k (with_ceilings hs (core_of q)) ss)

  size : (k : ℕ) → length (list_of k) ≡ half_size k q ss
  size k =
      ap (λ u. length (core_frontier (view k u ss))) half_problem
      ∙ view_size (core_of q) ss core_side core_free k
      ∙ ap length (core_half_list k ss q (weighable q rules))

  half_told : (k : ℕ) {row : ℕ} {before after : List ℕ} {f : Option ℕ}
      → KeptSays p n (list_of k) row before after f → ltb max_points (half_size k q ss) ≡ is_full f
  half_told k h = ap (ltb max_points) (sym (size k)) ∙ sym h.full

  -- costs of a half are sums of the core, of which two can be added
  half_small : (k : ℕ) → All SmallCosts (list_of k)
  half_small k =
      let light =
      core_light q.tables
      (all_map _ (λ t. All Word t.costs) (λ t r. r.words) q.tables rules.table_rules) in
      let part = with_ceilings hs (core_of q) in
      all_in SmallCosts (list_of k) (λ t m.
      view_sums part ss k (omega (arith, rules.few_tables, core_many q.tables)) light t
      ((frontier_best (view k part ss)).listed.sound t m))

  -- the first half's list is kept
  module _ {one : List ℕ} {f : Option ℕ} (first : KeptSays p n (list_of 0) first_row was one f) where
    pub first_full : is_full f ≡ true → CutFound q ss room was one None
    first_full t = cut_full q ss room was one (rw (half_told 0 first, t)) first.long

    -- and the second half's
    module _ (t : is_full f ≡ false) {two : List ℕ} {j : Option ℕ}
        (second : KeptSays p n (list_of 1) second_row one two j) where
      kept_long : length two ≡ length was
      kept_long = second.long ∙ first.long

      pub second_full : is_full j ≡ true → CutFound q ss room was two None
      second_full u = cut_full q ss room was two (rw (half_told 0 first, t, half_told 1 second, u)) kept_long

      module _ (u : is_full j ≡ false) where
        first_is : first_in p n two (count_of f) ≡ list_of 0
        first_is = first_same p n one two (second.behind (omega arith)) (count_of f) ∙ first.list t

        second_is : second_in p n two (count_of j) ≡ list_of 1
        second_is = second.list u

        -- the sums of the two
        pub cut_halved : Halved p n 0 (count_of f) (count_of j) two
        cut_halved =
            record {
              long = omega (arith, kept_long, memory);
              objectives = a.few_objectives.1;
              variables = a.few_variables.1;
              count = omega arith;
              first_count = kept_few first;
              second_count = kept_few second;
              first_small = rw first_is (half_small 0);
              second_small = rw second_is (half_small 1);
              values = rw (first_is, second_is) (sums_bytes (with_ceilings hs (core_of q)) ss (domains_small s g a));
            }

        module _ {three : List ℕ} {m : Option ℕ}
            (merged : FoundSays p n (best (sums_in p n wide two (count_of f) (count_of j))) room two three m) where
          sums_are : best (sums_in p n wide two (count_of f) (count_of j)) ≡ frontier q
          sums_are =
              rw (first_is, second_is, ceilings_same)
              (sums_best (core_of q) ss core_side core_free (core_of q).ceilings (λ c under. under))
              ∙ core_frontier_lem q (weighable q rules)

          merged_told : ltb room (length (frontier q)) ≡ is_full m
          merged_told = ap (λ ps. ltb room (length ps)) (sym sums_are) ∙ sym merged.full

          pub merged_full : is_full m ≡ true → CutFound q ss room was three None
          merged_full v =
              cut_full q ss room was three (rw (half_told 0 first, t, half_told 1 second, u, merged_told, v))
              (merged.long ∙ kept_long)

          pub cut_end : is_full m ≡ false → CutFound q ss room was three
              (Some (record { count = count_of m; first = count_of f; second = count_of j }))
          cut_end v =
              record {
                full = rw (half_told 0 first, t, half_told 1 second, u, merged_told, v) refl;
                lists =
                    record {
                      count = rw v at merged.count ∙ ap length sums_are;
                      first = rw t at first.count ∙ size 0;
                      second = rw u at second.count ∙ size 1;
                      list = sym (rows_read s g a three (count_of m)) ∙ merged.list v ∙ sums_are;
                    };
                long = merged.long ∙ kept_long;
              }
