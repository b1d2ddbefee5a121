-- What is found step by step: a step that decides, and a step behind another.
use mathlib.Core.Path.{◌≡◌, sym, ap, subst, ◌∙◌}
use mathlib.Core.Logic.{⊎_elim}
use mathlib.Core.List.{List}
use Prim.Native.Nat.{ℕ, ◌+◌, ◌≤◌, ◌<◌}
use native.Mathlib.Omega.{arith}
use lib.ListN.{drop}
use lib.Seq.{drop-drop}
use Rattle.text_words.specs.Reads.{words_at}
use Rattle.text_networks.specs.Findings.{Words}
use Rattle.text_checking.specs.declared.Found.{Found}
use Rattle.text_checking.specs.declared.Found.TheVariants.{Nothing}
use Rattle.text_checking.specs.Codes.{rank, both}
use Rattle.text_checking.specs.Steps.{Checked}
use Rattle.text_checking.specs.declared.Step as DS
use Rattle.text_checking.proofs.Codes.{lt_or_ge, both_heavy, both_none}

pub as_wide : {s : List ℕ} {code : Found} {v w at : ℕ} {r : DS.Step} → v ≡ w → Checked s code v at r
    → Checked s code w at r
as_wide {s} {code} {v} {w} {at} {r} e c = subst (λ (n : ℕ). Checked s code n at r) e c

pub as_found : {s : List ℕ} {a b : Found} {w at : ℕ} {r : DS.Step} → a ≡ b → Checked s a w at r → Checked s b w at r
as_found {s} {a} {b} {w} {at} {r} e c = subst (λ (n : Found). Checked s n w at r) e c

module _ {s : List ℕ} {a : Found} {v at : ℕ} {r : DS.Step} (first : Checked s a v at r) where
  -- it decides
  pub stops : (b : Found) (w : ℕ) → 2 ≤ rank r.finding → Checked s (both a b) w at r
  stops b w h =
      record {
        finding = first.finding ∙ sym (both_heavy a b (omega (arith, ap rank first.finding)));
        within = first.within;
        words = λ l. absurd (omega arith);
      }

  -- nothing is found, and another follows
  pub then : {b : Found} {w : ℕ} {q : DS.Step} → r.finding ≡ Nothing → Checked s b w r.next q
      → Checked s (both a b) (v + w) at q
  then {b} {w} {q} z second =
      let none : a ≡ Nothing = sym first.finding ∙ z in
      record {
        finding = second.finding ∙ sym (ap (λ n. both n b) none ∙ both_none b);
        within = second.within;
        words = λ l. second.words l ∙ rw (first.words (omega (arith, ap rank z))) (drop-drop w v (words_at s at));
      }

  -- what is found in the words that follow, by all words
  pub behind : (g : Words → Found) → both r.finding (g (words_at s r.next)) ≡ both a (g (drop v (words_at s at)))
  behind g =
      ⊎_elim (λ (h : rank r.finding < 2).
      ap (λ (ws : Words). both r.finding (g ws)) (first.words h)
      ∙ ap (λ n. both n (g (drop v (words_at s at)))) first.finding)
      (λ (h : 2 ≤ rank r.finding).
      both_heavy r.finding (g (words_at s r.next)) h
      ∙ first.finding
      ∙ sym (both_heavy a (g (drop v (words_at s at))) (omega (arith, ap rank first.finding))))
      (lt_or_ge (rank r.finding) 2)
