-- A tuple's values that are read one after another: what is left of them gives the index.
use mathlib.Core.Path.{◌≡◌, ap, subst, ◌∙◌}
use mathlib.Core.List.{List, [], ◌∷◌}
use Prim.Native.Nat.{ℕ, suc, ◌+◌, ◌*◌, ◌≤◌, ◌<◌}
use native.Mathlib.Numerals.{add-one}
use native.Mathlib.Omega.{arith}
use native.Mathlib.Nat.{mul-le-mul_left, mul-le-mul_right}
use lib.ListN.{length, get_or, take, drop, drop_of_length-le}
use lib.Seq.{length-take-le, drop-cons, get_or-take}
use Rattle.model.specs.Basics.{All}
use Rattle.model.specs.Problems.{DomainSize}
use Rattle.text_words.specs.Reads.{words_at, NumberSays, cap_end}
use Rattle.text_words.specs.declared.Number as DN
use Rattle.text_networks.specs.Findings.{Words, value_at, values_in}
use Rattle.text_networks.specs.Networks.{index_from}
use Rattle.text_networks.proofs.Lists.{drop_one}
use Rattle.text_networks.proofs.Entries.{product, Values, index_below}
use Rattle.text_networks.proofs.FineWords.{tuple_fine}
use Rattle.text_tuples.specs.Entries.{TupleAt, EntrySays}

-- ## sizes

product_step : (d p n : ℕ) → DomainSize d → p ≤ n → d * p ≤ 8 * n
product_step d p n h l = omega (arith, mul-le-mul_right p h.1)

pub product_few : (ds : List ℕ) → All DomainSize ds → length ds ≤ 3 → product ds ≤ 512
product_few [] h l = omega arith
product_few (a ∷ []) h l = omega arith
product_few (a ∷ b ∷ []) h l = omega (arith, product_step a (b * 1) 8 h.0 (omega arith))
product_few (a ∷ b ∷ c ∷ []) h l =
    product_step a (b * (c * 1)) 64 h.0 (product_step b (c * 1) 8 h.1.0 (omega arith))
product_few (a ∷ b ∷ c ∷ d ∷ ds) h l = absurd (omega arith)

-- reading more makes the index no smaller
index_grows : (i : ℕ) (ds xs : List ℕ) → All DomainSize ds → i ≤ index_from i ds xs
unfolding index_from
index_grows i [] xs h = omega arith
index_grows i (d ∷ ds) [] h = omega arith
index_grows i (d ∷ ds) (x ∷ xs) h =
    omega (arith, index_grows (i * d + x) ds xs h.1, mul-le-mul_left i h.0.0)

-- ## a number that is small is read exactly

pub exact : (s : List ℕ) (at : ℕ) (r : DN.Number) → NumberSays s at r → value_at 0 (words_at s at) < cap_end
    → r.value ≡ value_at 0 (words_at s at)
exact s at r says h = omega (arith, says.value)

-- ## values that are left

-- over the sizes ds, behind an index; what is read makes the index `whole`, and `behind` follows
pub record Left (s ds : List ℕ) (index end whole : ℕ) (behind : Words) : Type 0 where
  pub within : end ≤ length s
  pub small : All DomainSize ds
  pub values : Values ds (values_in (length ds) (words_at s end))
  pub sum : index_from index ds (values_in (length ds) (words_at s end)) ≡ whole
  pub room : whole < 512
  pub rest : drop (length ds) (words_at s end) ≡ behind

pub left_all : (s : List ℕ) (at arity : ℕ) (sizes : List ℕ) → length sizes ≡ 3 → TupleAt s at arity sizes
    → let ws = words_at s at in
    Left s (take arity sizes) 0 at (index_from 0 (take arity sizes) (values_in arity ws)) (drop arity ws)
left_all s at arity sizes e h =
    let ds = take arity sizes in
    let ws = words_at s at in
    let long : length ds ≡ arity = length-take-le arity sizes (omega (arith, h.few)) in
    let values = (tuple_fine ds ws h.right).0 in
    record {
      within = h.within;
      small = h.small;
      values = values;
      sum = rw long;
      room = omega (
        arith,
        index_below ds (values_in (length ds) ws) values,
        product_few ds h.small (omega (arith, h.few)),
        ap (λ (n : ℕ). index_from 0 ds (values_in n ws)) long,
      );
      rest = rw long;
    }

-- one is due
pub left_due : {s : List ℕ} {index end whole : ℕ} {behind : Words} (arity i : ℕ) (sizes : List ℕ) → length sizes ≡ 3
    → arity ≤ 3 → i < arity → Left s (drop i (take arity sizes)) index end whole behind
    → Left s (get_or sizes i 0 ∷ drop (i + 1) (take arity sizes)) index end whole behind
left_due {s} {index} {end} {whole} {behind} arity i sizes e few h l =
    let ds = take arity sizes in
    let long : length ds ≡ arity = length-take-le arity sizes (omega arith) in
    let first : drop i ds ≡ get_or sizes i 0 ∷ drop (i + 1) ds =
    rw add-one
    (drop-cons ds i 0 (omega arith) ∙ ap (λ (d : ℕ). d ∷ drop (suc i) ds) (get_or-take arity sizes i 0 h)) in
    subst (λ (es : List ℕ). Left s es index end whole behind) first l

-- none is left
pub left_none : (s : List ℕ) (at index end arity i : ℕ) (sizes : List ℕ) → length sizes ≡ 3 → arity ≤ 3 → arity ≤ i
    → let ws = words_at s at in
    let whole = index_from 0 (take arity sizes) (values_in arity ws) in
    Left s (drop i (take arity sizes)) index end whole (drop arity ws)
    → EntrySays s at arity sizes (record { index = index; end = end })
unfolding index_from
left_none s at index end arity i sizes e few h l =
    let ds = take arity sizes in
    let long : length ds ≡ arity = length-take-le arity sizes (omega arith) in
    let none : drop i ds ≡ [] = drop_of_length-le ds {i = i} (omega arith) in
    let ws = words_at s at in
    let whole = index_from 0 ds (values_in arity ws) in
    let m : Left s [] index end whole (drop arity ws) =
    subst (λ (es : List ℕ). Left s es index end whole (drop arity ws)) none l in
    record { index = m.sum; below = omega (arith, m.sum, m.room); within = m.within; rest = m.rest }

module _ {s : List ℕ} {d : ℕ} {ds : List ℕ} {index end whole : ℕ} {behind : Words}
    (l : Left s (d ∷ ds) index end whole behind) where
  low : index ≤ whole
  low = omega (arith, index_grows index (d ∷ ds) (values_in (length (d ∷ ds)) (words_at s end)) l.small, l.sum)

  pub fits : index * d ≤ 4096
  fits = omega (arith, low, l.room, mul-le-mul_left index l.small.0.1)

  module _ (r : DN.Number) (says : NumberSays s end r) where
    value_small : r.value ≡ value_at 0 (words_at s end)
    unfolding values_in
    value_small = exact s end r says (omega (arith, l.values.0, l.small.0.1))

    pub value_below : r.value < 8
    unfolding values_in
    value_below = omega (arith, value_small, l.values.0, l.small.0.1)

    pub left_less : Left s ds (index * d + r.value) r.end whole behind
    unfolding values_in index_from
    left_less =
        let words = says.rest in
        record {
          within = says.within;
          small = l.small.1;
          values = rw words l.values.1;
          sum = rw (words, value_small) l.sum;
          room = l.room;
          rest = rw (words, ← drop_one (length ds) (words_at s end)) l.rest;
        }
