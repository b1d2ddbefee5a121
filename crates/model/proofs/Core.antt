-- The core's form of a problem: what is used of weights, and that the core's list is the frontier list.
use mathlib.Core.Path.{◌≡◌, refl, ap, ap₂, sym, ◌∙◌, subst}
use mathlib.Core.Logic.{⊎_elim}
use mathlib.Core.Bool.{Bool, true, false, ◌&&◌, not}
use mathlib.Core.List.Memᴰ.{head as here}
use mathlib.Core.List.Memᴰ.{tail as there}
use mathlib.Core.List.{List, [], ◌∷◌, Memᴰ as In}
use mathlib.Core.List.Memᴰ.{cases_cons as in-cases}
use mathlib.Core.List.Memᴰ.{not-nil as in-none}
use Prim.Native.Nat.{ℕ, zero, suc, ◌+◌, ◌-◌, ◌*◌, ◌≤◌, ◌<◌, min}
use native.Mathlib.Omega.{arith}
use lib.Dec.{eqb, ltb, leb}
use lib.ListN.{length, get_or, take}
use borrow.Author.Tests.{ltb-true, ltb-false, leb-true, leb-false, lt-ltb, le-ltb}
use Rattle.model.specs.Basics.{when, keep_if, All}
use Rattle.model.specs.Limits.{word_end, max_tables}
use Rattle.model.specs.Problems.{Table, Problem, Word, RecordRules}
use Rattle.model.specs.Vectors.{at_most}
use Rattle.model.specs.Costs.{entry_from, cost_of, total, totals_from, totals, forbidden, costs_of}
use Rattle.model.specs.Frontiers.{consistent, Point, frontier}
use Rattle.model.specs.Bounds.{least_to, least_from, least_of}
use Rattle.model.specs.Cuts.{sides_ok, crosses, uncrossed, in_half, half_table, half_tables, half}
use Rattle.model.specs.Views.{narrowed, within, kept, view}
use Rattle.model.specs.Core.{entry_end, core_sum_end, WordCeiling, forbidden_rise, entry, plain, weighed, core_table}
use Rattle.model.specs.Core.{core_tables, core_ceiling, core_ceilings, core_of, under, core_consistent, core_frontier}
use Rattle.model.specs.Core.{CoreReached}
use Rattle.model.proofs.Bits.{not_true_false, and_left, and_right}
use Rattle.model.proofs.Elements.{all_at, all_has, all_map}
use Rattle.model.proofs.Sums.{under_at}
use Rattle.model.proofs.Totals.{totals_from_length, totals_at, total_limit}
use Rattle.model.proofs.Forbidden.{meets_in, meets_none, total_in}
use Rattle.model.proofs.Frontier.{frontier_agrees, Meets, consistent_free}
use Rattle.model.proofs.Kept.{kept_all, kept_few}

-- ## entries and ceilings: what a change of `entry` or `core_ceiling` proves again

pub entry_zero : entry 0 ≡ 0
unfolding entry
entry_zero = refl

pub entry_same : (x : ℕ) → x < forbidden → entry x ≡ x
unfolding entry
entry_same x h = rw (lt-ltb x forbidden h) refl

pub entry_rises : (x : ℕ) → forbidden ≤ x → entry x ≡ x + forbidden_rise
unfolding entry
entry_rises x h = rw (le-ltb x forbidden h) refl

pub entry_grows : (x y : ℕ) → x ≤ y → entry x ≤ entry y
entry_grows x y h = go (ltb x forbidden) (ltb y forbidden) refl refl
  where
    go : (b c : Bool) → ltb x forbidden ≡ b → ltb y forbidden ≡ c → entry x ≤ entry y
    go true true e f =
        omega (arith, entry_same x (ltb-true x forbidden e), entry_same y (ltb-true y forbidden f))
    go true false e f =
        omega (arith, entry_same x (ltb-true x forbidden e), entry_rises y (ltb-false y forbidden f))
    go false true e f = absurd (omega (arith, ltb-false x forbidden e, ltb-true y forbidden f))
    go false false e f =
        omega (arith, entry_rises x (ltb-false x forbidden e), entry_rises y (ltb-false y forbidden f))

pub entry_limit : (x : ℕ) → x < word_end → entry x < entry_end
entry_limit x h = go (ltb x forbidden) refl
  where
    go : (b : Bool) → ltb x forbidden ≡ b → entry x < entry_end
    go true e = omega (arith, entry_same x (ltb-true x forbidden e))
    go false e = omega (arith, entry_rises x (ltb-false x forbidden e))

pub plain_entry : (x : ℕ) → x < word_end → plain (entry x) ≡ x
unfolding plain
plain_entry x h = go (ltb x forbidden) refl
  where
    go : (b : Bool) → ltb x forbidden ≡ b → min (entry x) forbidden ≡ x
    go true e = let l = ltb-true x forbidden e in omega (arith, entry_same x l)
    go false e = let l = ltb-false x forbidden e in omega (arith, entry_rises x l)

-- a cost stays below the core's ceiling where it is at most the problem's
pub below_suc : (x c : ℕ) → ltb x (suc c) ≡ leb x c
below_suc x c = go (leb x c) refl
  where
    go : (b : Bool) → leb x c ≡ b → ltb x (suc c) ≡ b
    go true e = lt-ltb x (suc c) (omega (arith, leb-true x c e))
    go false e = le-ltb x (suc c) (omega (arith, leb-false x c e))

under_core : (xs cs : List ℕ) → under xs (core_ceilings cs) ≡ at_most xs cs
unfolding under at_most core_ceilings core_ceiling
under_core [] cs = refl
under_core (x ∷ xs) [] = refl
under_core (x ∷ xs) (c ∷ cs) = ap₂ ◌&&◌ (below_suc x c) (under_core xs cs)

-- ## the core's test of a choice is the problem's, and the core's list its frontier list

-- what weights ask of a problem: each record has an objective with a ceiling, and all numbers have four bytes
pub record Weighable (q : Problem) : Type 0 where
  pub ceiling_each : length q.ceilings ≡ q.objectives
  pub ceiling_words : All Word q.ceilings
  pub records : All (λ t. (t.objective < q.objectives) × All Word t.costs) q.tables

pub weighable : (q : Problem) → RecordRules q → Weighable q
weighable q rules =
    record {
      ceiling_each = rules.ceiling_each;
      ceiling_words = rules.ceiling_words;
      records = all_map _ _ (λ t r. (r.owner, r.words)) q.tables rules.table_rules;
    }

pub weighed_length : (xs : List ℕ) → length (weighed xs) ≡ length xs
unfolding weighed
weighed_length [] = refl
weighed_length (x ∷ xs) = ap suc (weighed_length xs)

-- an entry that is missing reads as 0 on both sides
pub weighed_at : (xs : List ℕ) (i : ℕ) → get_or (weighed xs) i 0 ≡ entry (get_or xs i 0)
unfolding weighed
weighed_at [] i = sym entry_zero
weighed_at (x ∷ xs) zero = refl
weighed_at (x ∷ xs) (suc i) = weighed_at xs i

core_cost : (ds x : List ℕ) (t : Table) → cost_of ds x (core_table t) ≡ entry (cost_of ds x t)
unfolding cost_of
core_cost ds x t = weighed_at t.costs (entry_from 0 ds t.scope x)

cost_word : (ds x : List ℕ) (t : Table) → All Word t.costs → cost_of ds x t < word_end
unfolding cost_of
cost_word ds x t h = all_at Word t.costs h (entry_from 0 ds t.scope x) 0 (omega arith)

-- the records' own part: a choice that meets no forbidden entry costs the same in the core
core_total : (ds x : List ℕ) (o : ℕ) (ts : List Table) → All (λ t. All Word t.costs) ts
    → All (λ t. cost_of ds x t ≡ forbidden → ⊥) ts → total o (cost_of ds x) (core_tables ts) ≡ total o (cost_of ds x) ts
unfolding total core_tables
core_total ds x o [] words none = refl
core_total ds x o (t ∷ ts) words none =
    ap₂ (λ (c : ℕ) (rest : ℕ). when (eqb t.objective o) c + rest)
    (core_cost ds x t ∙ entry_same (cost_of ds x t) (omega (arith, cost_word ds x t words.0, none.0)))
    (core_total ds x o ts words.1 none.1)

core_totals : (ds x : List ℕ) (p o : ℕ) (ts : List Table) → All (λ t. All Word t.costs) ts
    → All (λ t. cost_of ds x t ≡ forbidden → ⊥) ts
    → totals_from p o (cost_of ds x) (core_tables ts) ≡ totals_from p o (cost_of ds x) ts
unfolding totals_from
core_totals ds x zero o ts words none = refl
core_totals ds x (suc p) o ts words none =
    ap₂ ◌∷◌ (core_total ds x o ts words none) (core_totals ds x p (suc o) ts words none)

in_core : (t : Table) (ts : List Table) → In t ts → In (core_table t) (core_tables ts)
unfolding core_tables
in_core t [] m = absurd (in-none m)
in_core t (u ∷ ts) m =
    ⊎_elim (λ (e : t ≡ u). here (ap core_table e)) (λ n. there (in_core t ts n)) (in-cases m)

-- ceilings of four bytes become at most one more than a number of four bytes
pub core_ceiling_words : (cs : List ℕ) → All Word cs → All WordCeiling (core_ceilings cs)
unfolding core_ceilings core_ceiling
core_ceiling_words [] h = tt
core_ceiling_words (c ∷ cs) h = (omega (arith, h.0), core_ceiling_words cs h.1)

core_ceilings_length : (cs : List ℕ) → length (core_ceilings cs) ≡ length cs
unfolding core_ceilings
core_ceilings_length [] = refl
core_ceilings_length (c ∷ cs) = ap suc (core_ceilings_length cs)

module _ (q : Problem) (w : Weighable q) (x : List ℕ) where
  abbrev given : Table → ℕ
  given = cost_of q.domains x

  words : All (λ t. All Word t.costs) q.tables
  words = all_map _ _ (λ t r. r.1) q.tables w.records

  free_costs : Meets q x ≡ false → costs_of (core_of q) x ≡ costs_of q x
  unfolding costs_of totals
  free_costs e = core_totals q.domains x q.objectives 0 q.tables words (meets_none given q.tables e)

  -- a record that gives a forbidden entry alone reaches every ceiling
  met_over : Meets q x ≡ true → under (costs_of (core_of q) x) (core_of q).ceilings ≡ true → ⊥
  unfolding costs_of totals
  met_over e u =
      let (t, m, is) = meets_in given q.tables e in
      let o = t.objective in
      let owned : o < q.objectives = (all_has _ q.tables w.records t m).0 in
      let sums = totals_from q.objectives 0 given (core_tables q.tables) in
      let wide = totals_from_length q.objectives 0 given (core_tables q.tables) in
      let long = core_ceilings_length q.ceilings in
      let below = under_at sums (core_ceilings q.ceilings) o (omega (arith, wide, owned))
      (omega (arith, long, w.ceiling_each, owned)) u in
      let start : 0 + o ≡ o = omega arith in
      let sum : get_or sums o 0 ≡ total o given (core_tables q.tables) =
      totals_at given (core_tables q.tables) q.objectives 0 o owned
      ∙ ap (λ (k : ℕ). total k given (core_tables q.tables)) start in
      let part : given (core_table t) ≤ total o given (core_tables q.tables) =
      total_in given (core_table t) (core_tables q.tables) (in_core t q.tables m) in
      let weight : given (core_table t) ≡ forbidden + forbidden_rise =
      core_cost q.domains x t ∙ ap entry is ∙ entry_rises forbidden (omega arith) in
      let ceiling = all_at WordCeiling (core_ceilings q.ceilings)
      (core_ceiling_words q.ceilings w.ceiling_words) o 0 (omega arith) in
      omega (arith, below, sum, part, weight, ceiling)

  -- the core's test is the problem's
  pub core_consistent_lem : core_consistent (core_of q) x ≡ consistent q x
  unfolding core_consistent consistent
  core_consistent_lem = go (Meets q x) refl
    where
      go : (b : Bool) → Meets q x ≡ b
          → under (costs_of (core_of q) x) (core_of q).ceilings
          ≡ (not (Meets q x) && at_most (costs_of q x) q.ceilings)
      go true e = rw e (not_true_false _ (met_over e))
      go false e =
          rw e (ap (λ (c : List ℕ). under c (core_ceilings q.ceilings)) (free_costs e)
          ∙ under_core (costs_of q x) q.ceilings)

  -- a consistent choice costs the same in the core
  pub core_costs : consistent q x ≡ true → costs_of (core_of q) x ≡ costs_of q x
  core_costs h = free_costs (consistent_free q x h)

-- the one way back for lists
pub core_frontier_lem : (q : Problem) → Weighable q → core_frontier (core_of q) ≡ frontier q
core_frontier_lem q w =
    frontier_agrees (core_consistent (core_of q)) (consistent q) (core_of q) q refl
    (λ x c. core_consistent_lem q w x)
    (λ x c h. core_costs q w x (sym (core_consistent_lem q w x) ∙ h))

-- ## tables

-- entries grow with what is weighed, so that the least is the least's weight
least_entry : (x y : ℕ) → min (entry x) (entry y) ≡ entry (min x y)
least_entry x y = go (leb x y) refl
  where
    go : (b : Bool) → leb x y ≡ b → min (entry x) (entry y) ≡ entry (min x y)
    go true e =
        let l : x ≤ y = leb-true x y e in
        let m : min x y ≡ x = omega arith in
        rw m (omega (arith, entry_grows x y l))
    go false e =
        let l : y < x = leb-false x y e in
        let m : min x y ≡ y = omega arith in
        rw m (omega (arith, entry_grows y x (omega arith)))

least_to_entry : (n : ℕ) (f g : ℕ → ℕ) → ((a : ℕ) → f a ≡ entry (g a)) → least_to n f ≡ entry (least_to n g)
unfolding least_to
least_to_entry zero f g h = h 0
least_to_entry (suc n) f g h = ap₂ min (least_to_entry n f g h) (h (suc n)) ∙ least_entry (least_to n g) (g (suc n))

module _ (ds pre : List ℕ) (f g : ℕ → ℕ) (h : (i : ℕ) → f i ≡ entry (g i)) where
  least_from_entry : (i : ℕ) (vs : List ℕ) → least_from ds pre f i vs ≡ entry (least_from ds pre g i vs)
  unfolding least_from
  least_from_entry i [] = h i
  least_from_entry i (v ∷ vs) = go (ltb v (length pre)) refl (λ j. least_from_entry j vs)
    where
      go : (b : Bool) → ltb v (length pre) ≡ b
          → ((j : ℕ) → least_from ds pre f j vs ≡ entry (least_from ds pre g j vs))
          → least_from ds pre f i (v ∷ vs) ≡ entry (least_from ds pre g i (v ∷ vs))
      go true e next = rw e (next (i * get_or ds v 0 + get_or pre v 0))
      go false e next =
          rw e (least_to_entry (get_or ds v 0 - 1)
          (λ a. least_from ds pre f (i * get_or ds v 0 + a) vs) (λ a. least_from ds pre g (i * get_or ds v 0 + a) vs)
          (λ a. next (i * get_or ds v 0 + a)))

pub core_least : (ds pre : List ℕ) (t : Table) → least_of ds pre (core_table t) ≡ entry (least_of ds pre t)
unfolding least_of
core_least ds pre t =
    least_from_entry ds pre (λ i. get_or (weighed t.costs) i 0) (λ i. get_or t.costs i 0)
    (weighed_at t.costs) 0 t.scope

-- numbers of four bytes weigh less than the limit, as do missing ones
pub weighed_limit : (xs : List ℕ) → All Word xs → (i : ℕ) → get_or (weighed xs) i 0 < entry_end
weighed_limit xs h i = rw (weighed_at xs i) (entry_limit (get_or xs i 0) (all_at Word xs h i 0 (omega arith)))

-- so that every sum over a problem's records stays below the sums' limit
pub core_sum : (o : ℕ) (f : Table → ℕ) (ts : List Table) → length ts ≤ max_tables → All (λ t. f t < entry_end) ts
    → total o f ts < core_sum_end
core_sum o f ts few each = omega (arith, total_limit o entry_end f ts each)

pub core_sums : (p o : ℕ) (f : Table → ℕ) (ts : List Table) → length ts ≤ max_tables → All (λ t. f t < entry_end) ts
    → All (λ c. c < core_sum_end) (totals_from p o f ts)
unfolding totals_from
core_sums zero o f ts few each = tt
core_sums (suc p) o f ts few each = (core_sum o f ts few each, core_sums p (suc o) f ts few each)

-- ## ceilings

pub take_ceilings : (p : ℕ) (cs : List ℕ) → take p (core_ceilings cs) ≡ core_ceilings (take p cs)
unfolding core_ceilings
take_ceilings zero cs = refl
take_ceilings (suc p) [] = refl
take_ceilings (suc p) (c ∷ cs) = ap (◌∷◌ (core_ceiling c)) (take_ceilings p cs)

-- what is reached in the core is below the core's ceilings
pub core_under : (q : Problem) (p : Point) → CoreReached q p → under p.costs q.ceilings ≡ true
unfolding core_consistent
core_under q p h = subst (λ (c : List ℕ). under c q.ceilings ≡ true) (sym h.exact) h.allowed

-- what is below ceilings of the second form has four bytes
pub under_ceilings : (xs cs : List ℕ) → length xs ≡ length cs → under xs cs ≡ true → All WordCeiling cs
    → All Word xs
unfolding under
under_ceilings [] cs e u w = tt
under_ceilings (x ∷ xs) [] e u w = absurd (omega arith)
under_ceilings (x ∷ xs) (c ∷ cs) e u w = (
  omega (arith, ltb-true x c (and_left (ltb x c) (under xs cs) u), w.0),
  under_ceilings xs cs (omega arith) (and_right (ltb x c) (under xs cs) u) w.1,
)

-- ## halves: the core's form of a half is the half of the core's form

module _ (k : ℕ) (ss : List ℕ) where
  half_tables_lem : (ts : List Table) → half_tables k ss (core_tables ts) ≡ core_tables (half_tables k ss ts)
  unfolding half_tables core_tables
  half_tables_lem [] = refl
  half_tables_lem (t ∷ ts) = go (in_half k ss t.scope) refl (half_tables_lem ts)
    where
      go : (b : Bool) → in_half k ss t.scope ≡ b → half_tables k ss (core_tables ts) ≡ core_tables (half_tables k ss ts)
          → half_tables k ss (core_tables (t ∷ ts)) ≡ core_tables (half_tables k ss (t ∷ ts))
      go true e rest = rw e (ap (◌∷◌ (core_table (half_table k ss t))) rest)
      go false e rest = rw e rest

  pub core_half : (q : Problem) → half k (core_of q) ss ≡ core_of (half k q ss)
  unfolding half
  core_half q =
      ap (λ (ts : List Table). record {
        objectives = q.objectives;
        ceilings = core_ceilings q.ceilings;
        domains = (half k q ss).domains;
        tables = ts;
      }) (half_tables_lem q.tables)

  records_half : (p : ℕ) (ts : List Table) → All (λ t. (t.objective < p) × All Word t.costs) ts
      → All (λ t. (t.objective < p) × All Word t.costs) (half_tables k ss ts)
  unfolding half_tables
  records_half p [] h = tt
  records_half p (t ∷ ts) h = go (in_half k ss t.scope) (records_half p ts h.1)
    where
      go : (b : Bool) → All (λ t. (t.objective < p) × All Word t.costs) (half_tables k ss ts)
          → All (λ t. (t.objective < p) × All Word t.costs) (keep_if b (half_table k ss t) (half_tables k ss ts))
      go true rest = (h.0, rest)
      go false rest = rest

  weighable_half : (q : Problem) → Weighable q → Weighable (half k q ss)
  unfolding half
  weighable_half q w =
      record {
        ceiling_each = w.ceiling_each;
        ceiling_words = w.ceiling_words;
        records = records_half q.objectives q.tables w.records;
      }

  -- so that the core's list of a half is the half's list
  pub core_half_list : (q : Problem) → Weighable q → core_frontier (half k (core_of q) ss) ≡ frontier (half k q ss)
  core_half_list q w = ap core_frontier (core_half q) ∙ core_frontier_lem (half k q ss) (weighable_half q w)

pub core_uncrossed : (ss : List ℕ) (ts : List Table) → uncrossed ss (core_tables ts) ≡ uncrossed ss ts
unfolding uncrossed core_tables crosses
core_uncrossed ss [] = refl
core_uncrossed ss (t ∷ ts) = rw (core_uncrossed ss ts) refl

pub core_sides : (q : Problem) (ss : List ℕ) → sides_ok (core_of q) ss ≡ sides_ok q ss
unfolding sides_ok
core_sides q ss = refl

-- ## the costs of a view

-- a table whose entries are below the limit
abbrev pub Light : Table → Type 0
Light t = (i : ℕ) → get_or t.costs i 0 < entry_end

-- sums over the records of a part stay below the limit as those over all records do
pub view_sums : (q : Problem) (ss : List ℕ) (k : ℕ) → length q.tables ≤ max_tables → All Light q.tables
    → (t : Point) → CoreReached (view k q ss) t → All (λ c. c < core_sum_end) t.costs
unfolding view costs_of totals cost_of
view_sums q ss k few light t m =
    let records = kept (λ u. within k ss u.scope) q.tables in
    let ds = narrowed k ss q.domains in
    let each =
    all_map Light (λ u. cost_of ds t.choice u < entry_end) (λ u l. l _) records (kept_all Light _ q.tables light) in
    subst (All (λ c. c < core_sum_end)) (sym m.exact)
    (core_sums q.objectives 0 (cost_of ds t.choice) records
    (omega (arith, few, kept_few (λ u. within k ss u.scope) q.tables)) each)
