-- What a reading hands on to the search: accepted records, which make the problem that was read.
use Rattle.std.proofs.Common.{◌≡◌, ℕ, ◌+◌, ◌-◌, ◌≤◌, List, length, take, drop, sym, ap, ◌∙◌, subst, arith, length-drop}
use Rattle.std.proofs.Common.{length-take-le}
use Rattle.model.specs.Basics.{All}
use Rattle.model.specs.Problems.{Problem}
use Rattle.model.specs.Encoding.{Byte}
use Rattle.model.specs.Reading.{places_at, problem_of}
use Rattle.model.specs.Frontiers.{Point}
use Rattle.model.specs.Core.{core_of, with_ceilings, core_frontier}
use Rattle.model.specs.Views.{view}
use Rattle.model.specs.Calls.{over as filled}
use Rattle.model.proofs.Reading.{accepted_rules}
use Rattle.model.proofs.Core.{Weighable, weighable, core_frontier_lem}
use Rattle.layout.specs.Layout.{search_end}
use Rattle.problem.specs.declared.Problem as DQ
use Rattle.problem.specs.Says.{start_of}
use Rattle.problem.proofs.Accepted.{AcceptedReading}
use Rattle.problem.proofs.Readings.{sized, objectives_are, domains_are, ceilings_are, tables_are}
use Rattle.std.specs.Prelude.{Option}
use Rattle.pass_list.specs.Says.{FoundSays, FoundFor}
use Rattle.listing.specs.Says.{problem_at, Accepted}
use Rattle.listing.proofs.PlacesKept.{behind_at}

-- the records of a reading
abbrev pub RecordsRead : List ℕ → DQ.Problem → List ℕ → Type 0
RecordsRead s g w =
    let h = g.head in
    Accepted h.objectives h.tables (start_of h) (take h.variables g.sizes) s w

-- places for r records behind `from`
pub places_fit : (r from : ℕ) (work : List ℕ) → from + r ≤ length work → r ≤ length (behind_at work from)
places_fit r from work h =
    let part = length-take-le (length work - from) (drop from work) (omega (arith, length-drop from work)) in
    omega (arith, part)

-- they are kept from a place on, or from one that is the same
pub places_at_lem : (r : ℕ) (ds s rest : List ℕ) {at at' : ℕ} {kept : List ℕ} → at ≡ at'
    → kept ≡ filled (places_at r ds s at) rest → kept ≡ filled (places_at r ds s at') rest
places_at_lem r ds s rest e says = says ∙ ap (λ k. filled (places_at r ds s k) rest) e

module _ (s : List ℕ) (g : DQ.Problem) (a : AcceptedReading s g) where
  abbrev p : ℕ
  p = g.head.objectives

  abbrev n : ℕ
  n = g.head.variables

  abbrev pub sizes_of : List ℕ
  sizes_of = take n g.sizes

  abbrev searched : Problem
  searched = problem_at p g.head.ceilings sizes_of s (start_of g.head) g.head.tables

  -- what is searched is the problem that was read
  same_problem : searched ≡ problem_of s
  unfolding problem_of
  same_problem =
      λ i. record {
        objectives = objectives_are s g a i;
        ceilings = ceilings_are s g a i;
        domains = domains_are s g a i;
        tables = tables_are s g a i;
      }

  pub records_read : (w : List ℕ) → search_end ≤ length w → RecordsRead s g w
  records_read w memory =
      record {
        whole = a.whole;
        small = a.small;
        variables = omega (arith, sized s g a, a.few_variables);
        objectives = a.few_objectives.1;
        tables = a.few_tables;
        bytes = a.short;
        memory = memory;
      }

  -- the core's list is the frontier list
  pub list_found : All Byte s → {room : ℕ} {w w1 : List ℕ} {f : Option ℕ}
      → FoundSays p (length sizes_of) (core_frontier (core_of searched)) room w w1 f
      → FoundFor (problem_of s) room w w1 f
  list_found bytes {room} {w} {w1} {f} says =
      let rules = accepted_rules s bytes a.none in
      let weighs = subst Weighable (sym same_problem) (weighable (problem_of s) rules) in
      subst (λ (q : Problem). FoundFor q room w w1 f) same_problem
      (subst (λ (fs : List Point). FoundSays p (length sizes_of) fs room w w1 f) (core_frontier_lem searched weighs)
      says)

  -- a half's is that of the core, under ceilings of its own
  module _ (side : ℕ) (ss ceilings : List ℕ) where
    abbrev half_of : Problem → List Point
    half_of q = core_frontier (view side (with_ceilings (take p ceilings) (core_of q)) ss)

    pub half_found : {room : ℕ} {w w1 : List ℕ} {f : Option ℕ}
        → FoundSays p (length sizes_of) (half_of searched) room w w1 f
        → FoundSays p n (half_of (problem_of s)) room w w1 f
    half_found {room} {w} {w1} {f} says =
        subst (λ (q : Problem). FoundSays p n (half_of q) room w w1 f) same_problem
        (subst (λ (k : ℕ). FoundSays p k (half_of searched) room w w1 f) (sized s g a) says)

  pub sides_sized : (ss : List ℕ) → length (problem_of s).domains ≡ length ss → length ss ≡ length sizes_of
  sides_sized ss h = sym h ∙ (λ i. length (sym (domains_are s g a) i))
