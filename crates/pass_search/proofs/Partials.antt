-- A partial choice: its prefix, and its bound before and after the next variable has a value.
use mathlib.Core.Path.{◌≡◌, sym, ap, ◌∙◌, fun_ext}
use mathlib.Core.Bool.{true}
use mathlib.Core.List.{List, [], ◌∷◌, ◌++◌}
use Prim.Native.Nat.{ℕ, ◌+◌, ◌-◌, ◌≤◌, ◌<◌}
use native.Mathlib.Omega.{arith}
use native.Mathlib.Numerals.{add-one}
use lib.ListN.{length, get_or, take, set, length-set}
use lib.Seq.{length-take-le, take-suc-set}
use mir.Syntax.{w64}
use mir.Val.{Val, Fits}
use denote.Laws.{Is}
use denote.Struct.Declared.{row}
use Rattle.model.specs.Basics.{All}
use Rattle.model.specs.Limits.{max_variables, max_objectives, byte_end}
use Rattle.model.specs.Core.{core_sum_end}
use Rattle.model.specs.Costs.{total, totals_from}
use Rattle.model.specs.Bounds.{prefix_ok, least_of}
use Rattle.groups.specs.Groups.{group_of, tables_over, places_in, Grouped}
use Rattle.pass_search.specs.States.{tables_in, prefix_of, Stands, untouched, rest_of, Branching}
use Rattle.pass_search.specs.declared.Partial as DP
use Rattle.pass_search.specs.declared.Branch as DC
use Rattle.pass_search.specs.contracts.Partial.{the_type}
use Rattle.pass_search.specs.contracts.Branch as branch
use Rattle.vectors.proofs.Fours.{listed, at_listed}
use Rattle.pass_search.proofs.FourTotals.{totals_listed}
use Rattle.groups.proofs.SumLimits.{total_fits}
use Rattle.pass_search.proofs.Touched.{split_before, split_after}
use Rattle.pass_search.proofs.PrefixSteps.{prefix_more}

-- a partial choice that is a parameter, over grouped records
pub record Standing (r : ℕ) (ds s work : List ℕ) (x : DP.Partial) : Type 0 where
  pub grouped : Grouped ds s work r
  pub stands : Stands r ds s work x
  pub long : length x.values ≡ max_variables
  pub four : length x.bound ≡ max_objectives

-- the bound of any partial choice has four numbers
pub bound_four : (x : DP.Partial) (vs : List Val) → Is (row the_type) x vs → length x.bound ≡ max_objectives
bound_four x vs h = h.1.1.1.1.0.1.0.1

pub standing : {r : ℕ} {ds s work : List ℕ} {x : DP.Partial} → Grouped ds s work r → Stands r ds s work x
    → (vs : List Val) → Is (row the_type) x vs → Standing r ds s work x
standing {x = x} g st vs h = record {
  grouped = g;
  stands = st;
  long = h.1.1.1.0.1.0.1;
  four = bound_four x vs h;
}

-- that of a branch
pub standing_branch : {r : ℕ} {ds s work : List ℕ} {b : DC.Branch} → Grouped ds s work r → Branching r ds s work b
    → (vs : List Val) → Is (row branch.the_type) b vs → Standing r ds s work b.partial
standing_branch g st vs h = standing g st.stands _ h.1.1.0

-- what the tables that a variable v touches add to the bound of a prefix
abbrev pub touched_by : (v r : ℕ) (ds s work pre : List ℕ) → List ℕ
touched_by v r ds s work pre =
    totals_from max_objectives 0 (least_of ds pre) (tables_over ds s (group_of s v (places_in work r)))

-- the prefix with one value more
abbrev pub next : DP.Partial → ℕ → List ℕ
next x v = take (x.len + 1) (set x.values x.len v)

module _ {r : ℕ} {ds s work : List ℕ} {x : DP.Partial} (a : Standing r ds s work x) where
  abbrev own : List ℕ → ℕ → ℕ
  own pre o = total o (least_of ds pre) (tables_over ds s (group_of s x.len (places_in work r)))

  abbrev whole : List ℕ → ℕ → ℕ
  whole pre o = total o (least_of ds pre) (tables_in r ds s work)

  abbrev others : ℕ → ℕ
  others o = total o (untouched x.len ds (prefix_of x)) (tables_in r ds s work)

  pub prefix_room : x.len ≤ length x.values
  prefix_room = omega (arith, a.long, a.stands.short, a.grouped.placed.variables)

  pub prefix_length : length (prefix_of x) ≡ x.len
  prefix_length = length-take-le x.len x.values prefix_room

  bound_is : x.bound ≡ listed (whole (prefix_of x))
  bound_is = a.stands.exact ∙ totals_listed (least_of ds (prefix_of x)) (tables_in r ds s work)

  pub bound_fits : ((i : ℕ) → get_or s i 0 < byte_end) → All (λ b. b ≤ core_sum_end) x.bound
  bound_fits bytes =
      let fits : (o : ℕ) → whole (prefix_of x) o ≤ core_sum_end = λ o.
      total_fits ds s work (prefix_of x) r o a.grouped.placed.few bytes in
      rw bound_is (fits 0, (fits 1, (fits 2, (fits 3, tt))))

  -- before the next variable has a value: what is left of the bound without the tables that it touches
  module _ (touched : List ℕ) (t : touched ≡ touched_by x.len r ds s work (prefix_of x)) where
    split : (o : ℕ) → whole (prefix_of x) o ≡ others o + own (prefix_of x) o
    split o = split_before ds s (prefix_of x) (places_in work r) x.len o

    touched_is : touched ≡ listed (own (prefix_of x))
    touched_is = t ∙ totals_listed (least_of ds (prefix_of x)) (tables_over ds s (group_of s x.len (places_in work r)))

    pub touched_less : (o : ℕ) → o < max_objectives → get_or touched o 0 ≤ get_or x.bound o 0
    touched_less o l =
        rw (touched_is, bound_is, at_listed (own (prefix_of x)) o l, at_listed (whole (prefix_of x)) o l)
        (omega (arith, split o))

    pub rest_left : listed (λ o. get_or x.bound o 0 - get_or touched o 0) ≡ rest_of r ds s work x
    rest_left =
        let e : ◌≡◌ {A = ℕ → ℕ} (λ o. whole (prefix_of x) o - own (prefix_of x) o) others =
        fun_ext (λ o. omega (arith, split o)) in
        rw (touched_is, bound_is, totals_listed (untouched x.len ds (prefix_of x)) (tables_in r ds s work))
        (ap listed e)

  -- after: it has the value v
  module _ (more : x.len < length ds) (v : ℕ) where
    pub next_room : x.len + 1 ≤ length (set x.values x.len v)
    next_room = omega (arith, a.long, a.grouped.placed.variables, length-set x.values x.len v)

    pub next_prefix : next x v ≡ prefix_of x ++ (v ∷ [])
    next_prefix =
        rw add-one (take-suc-set x.values x.len v (omega (arith, a.long, a.grouped.placed.variables)))

    pub next_good : v < get_or ds x.len 0 → prefix_ok ds (next x v) ≡ true
    next_good low = rw next_prefix (prefix_more ds (prefix_of x) v a.stands.good (rw prefix_length low))

    module _ (rest : List ℕ) (left : rest ≡ rest_of r ds s work x) (touched : List ℕ)
        (t : touched ≡ touched_by x.len r ds s work (next x v)) where
      split_next : (o : ℕ) → whole (next x v) o ≡ others o + own (next x v) o
      split_next o = rw next_prefix (split_after ds s (prefix_of x) (places_in work r) x.len o prefix_length v)

      rest_is : rest ≡ listed others
      rest_is = left ∙ totals_listed (untouched x.len ds (prefix_of x)) (tables_in r ds s work)

      next_is : touched ≡ listed (own (next x v))
      next_is = t ∙ totals_listed (least_of ds (next x v)) (tables_over ds s (group_of s x.len (places_in work r)))

      pub next_sum : (o : ℕ) → o < max_objectives → get_or rest o 0 + get_or touched o 0 ≡ whole (next x v) o
      next_sum o l = rw (rest_is, next_is, at_listed others o l, at_listed (own (next x v)) o l) (sym (split_next o))

      pub sum_fits : ((i : ℕ) → get_or s i 0 < byte_end) → (o : ℕ) → o < max_objectives
          → Fits w64 (get_or rest o 0 + get_or touched o 0)
      sum_fits bytes o l =
          omega (arith, next_sum o l, total_fits ds s work (next x v) r o a.grouped.placed.few bytes)

      pub next_bound_lem :
          listed (λ o. get_or rest o 0 + get_or touched o 0)
          ≡ totals_from max_objectives 0 (least_of ds (next x v)) (tables_in r ds s work)
      next_bound_lem =
          rw (rest_is, next_is, totals_listed (least_of ds (next x v)) (tables_in r ds s work))
          (ap listed (fun_ext (λ o. sym (split_next o))))
