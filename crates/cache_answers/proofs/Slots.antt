-- A form and its answer as a slot holds them; that filling a slot makes it hold them, and leaves the rest of the store.
use mathlib.Core.Path.{◌≡◌, refl, ◌∙◌}
use mathlib.Core.Logic.{inl, inr}
use mathlib.Core.List.{List}
use Prim.Native.Nat.{ℕ, ◌+◌, ◌*◌, ◌≤◌}
use native.Mathlib.Omega.{arith}
use lib.ListN.{length, take, drop}
use Rattle.model.specs.Limits.{max_points}
use Rattle.model.specs.Encoding.{two_bytes, four_bytes, word_bytes}
use Rattle.model.proofs.Words.{length_word_bytes}
use Rattle.form_canonical.specs.Places.{over_at}
use Rattle.form_canonical.proofs.Places.{Apart, over_length, over_at_lem, over_apart}
use Rattle.cache_answers.specs.Stores.{costs_at, choices_at, length_at, count_at, next_at, Answer, filled}

-- bytes that stand at a place of the store
abbrev pub Stands : List ℕ → ℕ → List ℕ → Type 0
Stands bytes at store = take (length bytes) (drop at store) ≡ bytes

-- a form and an answer that fit a slot's parts
pub record Fits (form : List ℕ) (a : Answer) : Type 0 where
  pub short_form : length form ≤ costs_at
  pub few_costs : costs_at + 4 * length a.costs ≤ choices_at
  pub few_choices : choices_at + length a.choices ≤ length_at
  pub few_points : a.count ≤ max_points

-- the slot at a place of the store holds them
pub record Holds (store : List ℕ) (at : ℕ) (form : List ℕ) (a : Answer) : Type 0 where
  pub fits : Fits form a
  pub bytes : Stands form at store
  pub costs : Stands (word_bytes a.costs) (at + costs_at) store
  pub choices : Stands a.choices (at + choices_at) store
  pub long : Stands (four_bytes (length form)) (at + length_at) store
  pub count : Stands (four_bytes a.count) (at + count_at) store

pub length_four : (x : ℕ) → length (four_bytes x) ≡ 4
unfolding four_bytes two_bytes
length_four x = refl

-- two stores that are the same where the slot at a place has its parts
abbrev pub SameSlot : ℕ → List ℕ → List ℕ → Type 0
SameSlot at store store' = (n from : ℕ) → at ≤ from → from + n ≤ at + next_at
    → take n (drop from store') ≡ take n (drop from store)

pub holds_kept : (store store' : List ℕ) (at : ℕ) (form : List ℕ) (a : Answer) → SameSlot at store store'
    → Holds store at form a → Holds store' at form a
holds_kept store store' at form a same h =
    let costs_long = length_word_bytes a.costs in
    let f = h.fits in
    record {
      fits = f;
      bytes = same (length form) at (omega arith) (omega (arith, f.short_form)) ∙ h.bytes;
      costs =
          same (length (word_bytes a.costs)) (at + costs_at) (omega arith) (omega (arith, costs_long, f.few_costs))
          ∙ h.costs;
      choices =
          same (length a.choices) (at + choices_at) (omega arith) (omega (arith, f.few_choices)) ∙ h.choices;
      long =
          same (length (four_bytes (length form))) (at + length_at) (omega arith)
          (omega (arith, length_four (length form)))
          ∙ h.long;
      count =
          same (length (four_bytes a.count)) (at + count_at) (omega arith) (omega (arith, length_four a.count))
          ∙ h.count;
    }

-- a part of a slot is apart from what the whole slot is apart from
apart_part : (n from at p m : ℕ) → p + m ≤ next_at → Apart n from next_at at → Apart n from m (at + p)
apart_part n from at p m h (inl k) = inl (omega arith)
apart_part n from at p m h (inr k) = inr (omega arith)

module _ (at : ℕ) (form : List ℕ) (a : Answer) (store : List ℕ) (fits : Fits form a)
    (room : at + next_at ≤ length store) where
  -- the store with the form, then with the costs, the choices, the length, the count
  abbrev one : List ℕ
  one = over_at at form store

  abbrev two : List ℕ
  two = over_at (at + costs_at) (word_bytes a.costs) one

  abbrev three : List ℕ
  three = over_at (at + choices_at) a.choices two

  abbrev four : List ℕ
  four = over_at (at + length_at) (four_bytes (length form)) three

  abbrev five : List ℕ
  five = over_at (at + count_at) (four_bytes a.count) four

  costs_end : costs_at + length (word_bytes a.costs) ≤ choices_at
  costs_end = omega (arith, length_word_bytes a.costs, fits.few_costs)

  one_long : length one ≡ length store
  one_long = over_length at form store (omega (arith, fits.short_form))

  two_long : length two ≡ length store
  two_long = over_length (at + costs_at) (word_bytes a.costs) one (omega (arith, one_long, costs_end)) ∙ one_long

  three_long : length three ≡ length store
  three_long =
      over_length (at + choices_at) a.choices two (omega (arith, two_long, fits.few_choices)) ∙ two_long

  four_long : length four ≡ length store
  four_long =
      over_length (at + length_at) (four_bytes (length form)) three
      (omega (arith, three_long, length_four (length form)))
      ∙ three_long

  five_long : length five ≡ length store
  five_long =
      over_length (at + count_at) (four_bytes a.count) four (omega (arith, four_long, length_four a.count))
      ∙ four_long

  pub filled_length : length (filled at form a store) ≡ length store
  unfolding filled
  filled_length = five_long

  -- each of them leaves what is apart from it
  module _ (n from : ℕ) where
    kept_two : Apart n from (length (word_bytes a.costs)) (at + costs_at)
        → take n (drop from two) ≡ take n (drop from one)
    kept_two h = over_apart (at + costs_at) (word_bytes a.costs) one n from h (omega (arith, one_long))

    kept_three : Apart n from (length a.choices) (at + choices_at) → take n (drop from three) ≡ take n (drop from two)
    kept_three h = over_apart (at + choices_at) a.choices two n from h (omega (arith, two_long))

    kept_four : Apart n from 4 (at + length_at) → take n (drop from four) ≡ take n (drop from three)
    kept_four h =
        over_apart (at + length_at) (four_bytes (length form)) three n from (rw (length_four (length form)) h)
        (omega (arith, three_long))

    kept_five : Apart n from 4 (at + count_at) → take n (drop from five) ≡ take n (drop from four)
    kept_five h =
        over_apart (at + count_at) (four_bytes a.count) four n from (rw (length_four a.count) h)
        (omega (arith, four_long))

    pub filled_apart : Apart n from next_at at → take n (drop from (filled at form a store)) ≡ take n (drop from store)
    unfolding filled
    filled_apart h =
        kept_five (apart_part n from at count_at 4 (omega arith) h)
        ∙ kept_four (apart_part n from at length_at 4 (omega arith) h)
        ∙ kept_three (apart_part n from at choices_at (length a.choices) (omega (arith, fits.few_choices)) h)
        ∙ kept_two (apart_part n from at costs_at (length (word_bytes a.costs)) (omega (arith, costs_end)) h)
        ∙ over_apart at form store n from (first h) (omega arith)
      where
        first : Apart n from next_at at → Apart n from (length form) at
        first (inl k) = inl k
        first (inr k) = inr (omega (arith, k, fits.short_form))

  pub filled_holds : Holds (filled at form a store) at form a
  unfolding filled
  filled_holds =
      let w = word_bytes a.costs in
      let l = length (four_bytes (length form)) in
      record {
        fits = fits;
        bytes =
            kept_five (length form) at (inl (omega (arith, fits.short_form)))
            ∙ kept_four (length form) at (inl (omega (arith, fits.short_form)))
            ∙ kept_three (length form) at (inl (omega (arith, fits.short_form)))
            ∙ kept_two (length form) at (inl (omega (arith, fits.short_form)))
            ∙ over_at_lem at form store (omega arith);
        costs =
            kept_five (length w) (at + costs_at) (inl (omega (arith, costs_end)))
            ∙ kept_four (length w) (at + costs_at) (inl (omega (arith, costs_end)))
            ∙ kept_three (length w) (at + costs_at) (inl (omega (arith, costs_end)))
            ∙ over_at_lem (at + costs_at) w one (omega (arith, one_long));
        choices =
            kept_five (length a.choices) (at + choices_at) (inl (omega (arith, fits.few_choices)))
            ∙ kept_four (length a.choices) (at + choices_at) (inl (omega (arith, fits.few_choices)))
            ∙ over_at_lem (at + choices_at) a.choices two (omega (arith, two_long));
        long =
            kept_five l (at + length_at) (inl (omega (arith, length_four (length form))))
            ∙ over_at_lem (at + length_at) (four_bytes (length form)) three (omega (arith, three_long));
        count = over_at_lem (at + count_at) (four_bytes a.count) four (omega (arith, four_long));
      }
