-- Numbers of a text that are read one after another.
use mathlib.Core.Path.{◌≡◌, refl, ap, sym, ◌∙◌}
use mathlib.Core.List.{List, [], ◌∷◌, ◌++◌}
use Prim.Native.Nat.{ℕ, zero, suc, ◌+◌, ◌≤◌, ◌<◌}
use native.Mathlib.Numerals.{add-one}
use native.Mathlib.Omega.{arith}
use lib.ListN.{length, get_or, take, drop, set}
use lib.Seq.{drop-drop, take-suc-set}
use Rattle.model.specs.Basics.{All}
use Rattle.model.proofs.Elements.{all_below}
use Rattle.model.proofs.Lists.{get_d_first}
use Rattle.text_words.specs.Texts.{term_of, value_of}
use Rattle.text_words.specs.Reads.{words_at, cap_end, NumberSays}
use Rattle.text_words.specs.declared.Number as DN
use Rattle.text_networks.specs.Findings.{Words, value_at, values_in}
use Rattle.text_networks.proofs.Lists.{get_d_one}
use Rattle.text_networks.proofs.FineTables.{values_count}
use Rattle.text_tuples.proofs.Reading.{exact}

-- ## values

values_suc : (i : ℕ) (ws : Words) → values_in (suc i) ws ≡ values_in i ws ++ (value_at i ws ∷ [])
unfolding values_in
values_suc zero ws = refl
values_suc (suc i) ws =
    ap (λ (vs : List ℕ). value_at 0 ws ∷ vs)
    (values_suc i (drop 1 ws)
    ∙ ap (λ (w : List ℕ). values_in i (drop 1 ws) ++ (value_of (term_of w) ∷ [])) (sym (get_d_one [] i ws)))

-- one more value
pub values_more : (i : ℕ) (ws : Words) → values_in (i + 1) ws ≡ values_in i ws ++ (value_at i ws ∷ [])
values_more i ws = ap (λ (n : ℕ). values_in n ws) (add-one i) ∙ values_suc i ws

value_in : (n : ℕ) (ws : Words) (i : ℕ) → i < n → get_or (values_in n ws) i 0 ≡ value_at i ws
unfolding values_in
value_in zero ws i h = absurd (omega arith)
value_in (suc n) ws zero h = refl
value_in (suc n) ws (suc i) h =
    value_in n (drop 1 ws) i (omega arith) ∙ ap (λ (w : List ℕ). value_of (term_of w)) (sym (get_d_one [] i ws))

-- what all values have, each has, and so have the first ones
module _ (P : ℕ → Type 0) (n : ℕ) (ws : Words) (h : All P (values_in n ws)) where
  pub value_has : (i : ℕ) → i < n → P (value_at i ws)
  value_has i l = rw (value_in n ws i l) at (all_below P (values_in n ws) h i 0 (omega (arith, values_count n ws)))

pub first_have : (P : ℕ → Type 0) (n : ℕ) (ws : Words) → All P (values_in n ws) → (i : ℕ) → i ≤ n
    → All P (values_in i ws)
unfolding values_in
first_have P n ws h zero l = tt
first_have P zero ws h (suc i) l = absurd (omega arith)
first_have P (suc n) ws h (suc i) l = (h.0, first_have P n (drop 1 ws) h.1 i (omega arith))

-- a value that is stored behind those before
pub value_stored : (xs : List ℕ) (ws : Words) (i x : ℕ) → take i xs ≡ values_in i ws → i < length xs → x ≡ value_at i ws
    → take (i + 1) (set xs i x) ≡ values_in (i + 1) ws
value_stored xs ws i x e h v =
    ap (λ (n : ℕ). take n (set xs i x)) (add-one i)
    ∙ take-suc-set xs i x h
    ∙ (λ j. e j ++ (v j ∷ []))
    ∙ sym (values_more i ws)

-- ## places

-- i words are read
pub record Passed (s : List ℕ) (at i end : ℕ) : Type 0 where
  pub within : end ≤ length s
  pub words : words_at s end ≡ drop i (words_at s at)

pub none_passed : (s : List ℕ) (at : ℕ) → at ≤ length s → Passed s at 0 at
none_passed s at h = record { within = h; words = refl }

module _ {s : List ℕ} {at i end : ℕ} (p : Passed s at i end) (r : DN.Number) (says : NumberSays s end r) where
  pub one_passed : Passed s at (i + 1) r.end
  one_passed =
      record {
        within = says.within;
        words = says.rest ∙ ap (drop 1) p.words ∙ drop-drop 1 i (words_at s at);
      }

  -- the number that is read, where it is below the cap
  pub passed_value : value_at i (words_at s at) < cap_end → r.value ≡ value_at i (words_at s at)
  passed_value h =
      let same : value_at 0 (words_at s end) ≡ value_at i (words_at s at) =
      ap (λ (w : List ℕ). value_of (term_of w))
      (ap (λ (ws : Words). get_or ws 0 []) p.words ∙ get_d_first [] i (words_at s at)) in
      exact s end r says (rw same h) ∙ same
