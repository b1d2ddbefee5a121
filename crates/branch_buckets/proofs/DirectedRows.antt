-- Totals in every direction: four of them to a value, those of the first p objectives counted.
use mathlib.Core.Path.{◌≡◌, refl, ap, sym, ◌∙◌}
use mathlib.Core.Logic.{inl, inr, ⊎_elim}
use mathlib.Core.List.{List, [], ◌∷◌, ◌++◌}
use Prim.Native.Nat.{ℕ, zero, suc, ◌+◌, ◌-◌, ◌*◌, ◌≤◌, ◌<◌}
use native.Mathlib.Omega.{arith}
use native.Mathlib.Nat.{add-zero, zero-add}
use borrow.Author.Tests.{ltb-true, ltb-false}
use lib.Dec.{ltb}
use lib.ListN.{length, get_or, take, drop, set, length-append, get_or-append}
use lib.ListN.{get_or-eq_default}
use lib.Seq.{get_or-append-add, length-take-le, take-take}
use Rattle.model.specs.Basics.{All, when}
use Rattle.model.specs.Limits.{max_objectives}
use Rattle.model.specs.Core.{core_sum_end}
use Rattle.model.specs.Problems.{Table}
use Rattle.model.specs.Costs.{total, totals_from}
use Rattle.model.specs.Archive.{weighted}
use Rattle.model.proofs.Bits.{test}
use Rattle.model.proofs.Lists.{four_read}
use Rattle.model.proofs.Elements.{all_take}
use Rattle.model.proofs.Totals.{take_totals}
use Rattle.model.proofs.Zeros.{behind_zeros}
use Rattle.branch_directions.specs.Directions.{max_sums, weights_of, sums_from, directions_of}
use Rattle.branch_directions.specs.declared.Directions as DD
use Rattle.branch_directions.proofs.SumsOf.{sums_length, sums_at}
use Rattle.branch_buckets.specs.Adding.{PartFilled, RowFilled, four_sum}
use Rattle.branch_buckets.specs.declared.Totals as DT
use Rattle.branch_buckets.proofs.RowSteps.{Filling, filling_start, filling_next}

-- the four totals of value a
module _ (totals : List ℕ) (a : ℕ) where
  abbrev pub four : List ℕ
  four =
      get_or totals (4 * a) 0 ∷ get_or totals (4 * a + 1) 0 ∷ get_or totals (4 * a + 2) 0 ∷ get_or totals (4 * a + 3) 0
      ∷ []

  pub four_small : (p : ℕ) → ((o : ℕ) → o < 4 → get_or totals (4 * a + o) 0 < core_sum_end)
      → All (λ c. c < core_sum_end) (take p four)
  four_small p h =
      all_take (λ c. c < core_sum_end) p four
      (rw add-zero at (h 0 (omega arith)), (h 1 (omega arith), (h 2 (omega arith), (h 3 (omega arith), tt))))

  -- they are the totals of the first p objectives
  pub four_totals : (f : Table → ℕ) (ts : List Table) (p : ℕ) → p ≤ max_objectives → 4 * a + 4 ≤ length totals
      → ((o : ℕ) → o < 4 → get_or totals (4 * a + o) 0 ≡ total o f ts)
      → take p (take 4 (drop (4 * a) totals)) ≡ totals_from p 0 f ts
  unfolding totals_from
  four_totals f ts p few inside is =
      let none : get_or totals (4 * a) 0 ≡ total 0 f ts = rw add-zero at (is 0 (omega arith)) in
      let all : take 4 (drop (4 * a) totals)
      ≡ totals_from max_objectives 0 f ts = sym (four_read 0 totals (4 * a) inside)
      ∙ rw (none, is 1 (omega arith), is 2 (omega arith), is 3 (omega arith)) refl in
      rw all (take_totals f ts p max_objectives 0 few)

-- four costs, of which the first p are counted
module _ (x y z u : ℕ) where
  abbrev pub counted_four : ℕ → List ℕ
  counted_four p = when (ltb 0 p) x ∷ when (ltb 1 p) y ∷ when (ltb 2 p) z ∷ when (ltb 3 p) u ∷ []

  abbrev fore : ℕ → List ℕ
  fore p = take p (x ∷ y ∷ z ∷ u ∷ [])

  pub counted_at : (p : ℕ) → p ≤ 4 → (j : ℕ) → get_or (counted_four p) j 0 ≡ get_or (fore p) j 0
  counted_at zero h j = behind_zeros [] 4 j
  counted_at (suc zero) h j = behind_zeros (x ∷ []) 3 j
  counted_at (suc (suc zero)) h j = behind_zeros (x ∷ y ∷ []) 2 j
  counted_at (suc (suc (suc zero))) h j = behind_zeros (x ∷ y ∷ z ∷ []) 1 j
  counted_at (suc (suc (suc (suc zero)))) h j = refl
  counted_at (suc (suc (suc (suc (suc p))))) h j = absurd (omega arith)

  counted_sum : (p : ℕ) → p ≤ 4 → (a b c e : ℕ)
      → a * when (ltb 0 p) x + b * when (ltb 1 p) y + c * when (ltb 2 p) z + e * when (ltb 3 p) u
      ≡ weighted (take p (a ∷ b ∷ c ∷ e ∷ [])) (fore p)
  unfolding weighted
  counted_sum zero h a b c e = omega arith
  counted_sum (suc zero) h a b c e = omega arith
  counted_sum (suc (suc zero)) h a b c e = omega arith
  counted_sum (suc (suc (suc zero))) h a b c e = omega arith
  counted_sum (suc (suc (suc (suc zero)))) h a b c e = omega arith
  counted_sum (suc (suc (suc (suc (suc p))))) h a b c e = absurd (omega arith)

  pub sum_counted :
      (p : ℕ) → p ≤ 4 → (ws : List ℕ) (i : ℕ) → 4 * i + 4 ≤ length ws
      → four_sum ws
      (record { one = when (ltb 0 p) x; two = when (ltb 1 p) y; three = when (ltb 2 p) z; four = when (ltb 3 p) u })
      i ≡ weighted (take p (drop (4 * i) ws)) (fore p)
  sum_counted p h ws i l =
      let row : take p
      (get_or ws (4 * i) 0 ∷ get_or ws (4 * i + 1) 0 ∷ get_or ws (4 * i + 2) 0 ∷ get_or ws (4 * i + 3) 0 ∷ [])
      ≡ take p (drop (4 * i) ws) =
      rw (four_read 0 ws (4 * i) l) (take-take p 4 (drop (4 * i) ws) h) in
      rw (← row)
      (counted_sum p h (get_or ws (4 * i) 0) (get_or ws (4 * i + 1) 0) (get_or ws (4 * i + 2) 0)
      (get_or ws (4 * i + 3) 0))

-- a row with the costs in front and the sums behind them
module _ (d : DD.Directions) (v : List ℕ) (all : length v ≡ d.objectives) (few : d.objectives ≤ 4)
    (few_sums : d.sums ≤ max_sums) where
  directions_at : (j x : ℕ) → (j < d.objectives → x ≡ get_or v j 0)
      → ((k : ℕ) → k < d.sums → j ≡ d.objectives + k → x ≡ weighted (weights_of d k) v)
      → (d.objectives + d.sums ≤ j → x ≡ 0) → x ≡ get_or (directions_of d v) j 0
  unfolding directions_of
  directions_at j x cost sum none =
      let p = d.objectives in
      let sums = sums_from d d.sums 0 v in
      ⊎_elim
      (λ h. let l = ltb-true j p h in cost l ∙ sym (get_or-append v sums 0 j (omega arith)))
      (λ h. let l = ltb-false j p h in
      ⊎_elim
      (λ g.
      let k = ltb-true j (p + d.sums) g in
      let place : j ≡ length v + (j - p) = omega arith in
      sum (j - p) (omega arith) (omega arith)
      ∙ sym (ap (λ (n : ℕ). get_or (v ++ sums) n 0) place
      ∙ get_or-append-add v sums (j - p) 0
      ∙ (rw zero-add at (sums_at d d.sums 0 v (j - p) (omega arith)))))
      (λ g. let k = ltb-false j (p + d.sums) g in
      none k
      ∙ sym (get_or-eq_default (v ++ sums) 0 (omega (arith, length-append v sums, sums_length d d.sums 0 v))))
      (test (ltb j (p + d.sums))))
      (test (ltb j p))

  pub row_directed : (costs : List ℕ) (f : ℕ → ℕ) (at : ℕ) (before mid after : List ℕ)
      → ((i : ℕ) → at ≤ i → get_or before i 0 ≡ 0) → ((j : ℕ) → get_or costs j 0 ≡ get_or v j 0)
      → ((k : ℕ) → k < d.sums → f k ≡ weighted (weights_of d k) v) → Filling (λ j. get_or costs j 0) at 4 before 4 mid
      → PartFilled f (at + d.objectives) d.sums mid after
      → RowFilled (λ j. get_or (directions_of d v) j 0) at before after
  row_directed costs f at before mid after blank same sum u w =
      let p = d.objectives in
      let past : (j : ℕ) → p ≤ j → ◌≡◌ {A = ℕ} (get_or v j 0) 0 = λ j h. get_or-eq_default v 0 (omega arith) in
      let mid_at : (j : ℕ) → get_or mid (at + j) 0 ≡ get_or v j 0 = λ j. ⊎_elim
      (λ h. let l = ltb-true j 4 h in u.done j l ∙ same j)
      (λ h. let l = ltb-false j 4 h in
      u.rest (at + j) (inr (omega arith)) ∙ blank (at + j) (omega arith) ∙ sym (past j (omega arith)))
      (test (ltb j 4)) in
      record {
        part = λ j l.
            directions_at j (get_or after (at + j) 0)
            (λ h. w.lower (at + j) (omega arith) ∙ mid_at j)
            (λ k h e. let place : at + j ≡ at + p + k = omega arith in
            ap (λ (n : ℕ). get_or after n 0) place ∙ w.part k h ∙ sum k h)
            (λ h. w.higher (at + j) (omega arith) ∙ mid_at j ∙ past j (omega arith));
        lower = λ i l. w.lower i (omega arith) ∙ u.rest i (inl l);
        higher = λ i l. w.higher i (omega arith) ∙ u.rest i (inr (omega arith));
      }

-- four numbers, one after the other
four_put : (costs rows : List ℕ) (at : ℕ) → at + 4 ≤ length rows
    → Filling (λ j. get_or costs j 0) at 4 rows 4
    (set (set (set (set rows at (get_or costs 0 0)) (at + 1) (get_or costs 1 0)) (at + 2) (get_or costs 2 0)) (at + 3)
    (get_or costs 3 0))
four_put costs rows at room =
    let one = filling_next (filling_start (λ j. get_or costs j 0) at 4 rows) room (omega arith) _ refl
    at (sym (add-zero at)) in
    let two = filling_next one room (omega arith) _ refl (at + 1) refl in
    let three = filling_next two room (omega arith) _ refl (at + 2) refl in
    filling_next three room (omega arith) _ refl (at + 3) refl

-- the row of value a, once its costs and then its sums are written
pub value_directed :
    (p sums : ℕ) (ws totals : List ℕ) (a : ℕ) (rows rows' : List ℕ) (t : DT.Totals)
    → p ≤ 4 → sums ≤ max_sums → 16 ≤ length ws → 4 * a + 4 ≤ length totals → 8 * a + 8 ≤ length rows
    → ((i : ℕ) → 8 * a ≤ i → get_or rows i 0 ≡ 0)
    → t.one ≡ when (ltb 0 p) (get_or totals (4 * a) 0) → t.two ≡ when (ltb 1 p) (get_or totals (4 * a + 1) 0)
    → t.three ≡ when (ltb 2 p) (get_or totals (4 * a + 2) 0) → t.four ≡ when (ltb 3 p) (get_or totals (4 * a + 3) 0)
    → PartFilled (four_sum ws t) (8 * a + p) sums
    (set (set (set (set rows (8 * a) t.one) (8 * a + 1) t.two) (8 * a + 2) t.three) (8 * a + 3) t.four)
    rows'
    → RowFilled (λ j. get_or (directions_of (record { objectives = p; sums = sums; weights = ws })
    (take p (take 4 (drop (4 * a) totals)))) j 0) (8 * a) rows rows'
value_directed p sums ws totals a rows rows' t few few_sums table inside room blank e f g h put =
    let d : DD.Directions = record { objectives = p; sums = sums; weights = ws } in
    let x = get_or totals (4 * a) 0 in
    let y = get_or totals (4 * a + 1) 0 in
    let z = get_or totals (4 * a + 2) 0 in
    let u = get_or totals (4 * a + 3) 0 in
    let row : List ℕ = t.one ∷ t.two ∷ t.three ∷ t.four ∷ [] in
    let costs : t.one ∷ t.two ∷ t.three ∷ t.four ∷ [] ≡ counted_four x y z u p = rw (e, f, g, h) refl in
    let directed =
    row_directed d (take p (four totals a)) (length-take-le p (four totals a) few) few few_sums row (four_sum ws t)
    (8 * a) rows _ rows' blank
    (λ j. ap (λ (l : List ℕ). get_or l j 0) costs ∙ counted_at x y z u p few j)
    (λ k l. rw (e, f, g, h) (sum_counted x y z u p few ws k (omega arith)))
    (four_put row rows (8 * a) (omega arith)) put in
    rw (← four_read 0 totals (4 * a) inside) directed
