-- The values of a tuple, one after another: what is found of those that are left is what is found of all.
use mathlib.Core.Path.{◌≡◌, refl, sym, ap, ◌∙◌}
use mathlib.Core.Logic.{◌⊎◌, inl, inr, ⊎_elim}
use mathlib.Core.Bool.{Bool, true, false, not}
use mathlib.Core.List.{List}
use Prim.Native.Nat.{ℕ, suc, ◌+◌, ◌≤◌, ◌<◌}
use native.Mathlib.Omega.{arith}
use native.Mathlib.Numerals.{add-one}
use lib.Dec.{ltb}
use lib.ListN.{length, get_or, drop, drop_of_length-le}
use lib.Seq.{drop-cons, drop-drop}
use Rattle.text_words.specs.Texts.{Term, number, negative, other}
use Rattle.text_words.specs.Reads.{words_at}
use Rattle.text_networks.specs.Findings.{Words, fault, field, find_if, term_at}
use Rattle.text_networks.specs.Networks.{declared_finding, values_finding}
use Rattle.text_checking.specs.declared.Found.{Found}
use Rattle.text_checking.specs.declared.Found.TheVariants.{Nothing, Fault}
use Rattle.text_checking.specs.Codes.{rank, found_of, both}
use Rattle.text_checking.specs.Steps.{Checked}
use Rattle.text_checking.specs.declared.Step as DS
use Rattle.text_checking.proofs.Codes.{both_heavy, both_none, found_both}

-- what is declared or not is nothing or a fault
pub declared_plain : (n : ℕ) (t : Term)
    → (found_of (declared_finding n t) ≡ Nothing) ⊎ (found_of (declared_finding n t) ≡ Fault)
unfolding field found_of
declared_plain n (number x) = go (ltb x n)
  where
    go : (t : Bool) → (found_of (find_if (not t) fault) ≡ Nothing) ⊎ (found_of (find_if (not t) fault) ≡ Fault)
    go true = inl refl
    go false = inr refl
declared_plain n negative = inr refl
declared_plain n other = inr refl

pub declared_some : (n : ℕ) (t : Term) (k : Found) → k ≡ found_of (declared_finding n t) → (k ≡ Nothing → ⊥) → k ≡ Fault
declared_some n t k e h =
    ⊎_elim (λ (z : found_of (declared_finding n t) ≡ Nothing). absurd (h (e ∙ z)))
    (λ (z : found_of (declared_finding n t) ≡ Fault). e ∙ z) (declared_plain n t)

-- the first of the values that are left
pub values_next : (es : List ℕ) (i : ℕ) (ws : Words) → i < length es
    → found_of (values_finding (drop i es) ws)
    ≡ both (found_of (declared_finding (get_or es i 0) (term_at 0 ws)))
    (found_of (values_finding (drop (i + 1) es) (drop 1 ws)))
unfolding values_finding
values_next es i ws h =
    rw (add-one, drop-cons es i 0)
    (found_both (declared_finding (get_or es i 0) (term_at 0 ws)) (values_finding (drop (suc i) es) (drop 1 ws)))

-- i values are read up to `next`, and nothing is found
pub record ValuesRead (s : List ℕ) (es : List ℕ) (at i next : ℕ) : Type 0 where
  pub few : i ≤ length es
  pub left : found_of (values_finding es (words_at s at)) ≡ found_of (values_finding (drop i es) (words_at s next))
  pub within : next ≤ length s
  pub words : words_at s next ≡ drop i (words_at s at)

module _ (s es : List ℕ) (at : ℕ) where
  pub values_begin : at ≤ length s → ValuesRead s es at 0 at
  values_begin h = record { few = omega arith; left = refl; within = h; words = refl }

  pub values_done : (i next : ℕ) → length es ≤ i → ValuesRead s es at i next
      → Checked s (found_of (values_finding es (words_at s at))) (length es) at
      (record { finding = Nothing; next = next })
  unfolding values_finding found_of
  values_done i next h r =
      let all : i ≡ length es = omega (arith, r.few) in
      record {
        finding = sym (r.left ∙ rw (drop_of_length-le es {i = i} h));
        within = r.within;
        words = λ _. rw (← all) r.words;
      }

  module _ (i next : ℕ) (h : i < length es) (r : ValuesRead s es at i next) (step : DS.Step)
      (one : Checked s (found_of (declared_finding (get_or es i 0) (term_at 0 (words_at s next)))) 1 next step) where
    pub values_stop : (step.finding ≡ Nothing → ⊥)
        → Checked s (found_of (values_finding es (words_at s at))) (length es) at step
    values_stop n =
        let three : step.finding ≡ Fault = declared_some _ _ step.finding one.finding n in
        record {
          finding =
              sym (r.left
              ∙ values_next es i (words_at s next) h
              ∙ rw (← one.finding) (both_heavy step.finding _ (omega (arith, ap rank three))));
          within = one.within;
          words = λ l. absurd (omega (arith, ap rank three));
        }

    pub values_on : step.finding ≡ Nothing → ValuesRead s es at (i + 1) step.next
    values_on z =
        let more : words_at s step.next ≡ drop 1 (words_at s next) = one.words (omega (arith, ap rank z)) in
        record {
          few = omega arith;
          left =
              r.left
              ∙ values_next es i (words_at s next) h
              ∙ rw (← one.finding, z, more) (both_none _);
          within = one.within;
          words = more ∙ rw r.words (drop-drop 1 i (words_at s at));
        }
