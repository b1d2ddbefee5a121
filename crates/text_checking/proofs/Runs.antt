-- Items one after another: what is found of those that are left, behind what was found before.
use mathlib.Core.Path.{◌≡◌, sym, ap, ◌∙◌}
use mathlib.Core.List.{List, []}
use Prim.Native.Nat.{ℕ, suc, ◌+◌, ◌-◌, ◌*◌, ◌≤◌, ◌<◌}
use native.Mathlib.Omega.{arith}
use native.Mathlib.Nat.{zero-mul, suc-mul, mul-one}
use native.Mathlib.Numerals.{add-one}
use lib.ListN.{length, drop}
use lib.Seq.{drop-drop}
use Rattle.model.proofs.Lists.{get_d_first}
use Rattle.text_words.specs.Texts.{term_of, value_of}
use Rattle.text_words.specs.Reads.{words_at}
use Rattle.text_networks.specs.Findings.{Words, Finding, runs, value_at}
use Rattle.text_checking.specs.declared.Found.{Found}
use Rattle.text_checking.specs.declared.Found.TheVariants.{Nothing, Fault}
use Rattle.text_checking.specs.Codes.{rank, found_of, both}
use Rattle.text_checking.specs.Steps.{Checked}
use Rattle.text_checking.specs.declared.Step as DS
use Rattle.text_checking.proofs.Codes.{both_none, both_last, both_heavy, both_assoc, both_second}
use Rattle.text_checking.proofs.Codes.{found_both}

pub runs_next : (f : Words → Finding) (w n i : ℕ) (ws : Words) → i < n
    → found_of (runs (n - i) f w ws) ≡ both (found_of (f ws)) (found_of (runs (n - (i + 1)) f w (drop w ws)))
unfolding runs
runs_next f w n i ws h =
    let one : n - i ≡ suc (n - (i + 1)) = omega arith in
    rw one (found_both (f ws) (runs (n - (i + 1)) f w (drop w ws)))

-- i of n items are read up to `next`, and what is found does not decide
pub record RunRead (s : List ℕ) (f : Words → Finding) (w n at i : ℕ) (finding : Found) (next : ℕ) : Type 0 where
  pub few : i ≤ n
  pub left : found_of (runs n f w (words_at s at)) ≡ both finding (found_of (runs (n - i) f w (words_at s next)))
  pub light : rank finding < 2
  pub within : next ≤ length s
  pub words : words_at s next ≡ drop (i * w) (words_at s at)

module _ (s : List ℕ) (f : Words → Finding) (w n at : ℕ) where
  pub run_begin : at ≤ length s → RunRead s f w n at 0 Nothing at
  run_begin h =
      let all : n - 0 ≡ n = omega arith in
      record {
        few = omega arith;
        left = rw all (sym (both_none _));
        light = omega arith;
        within = h;
        words = rw zero-mul;
      }

  pub run_done : (i : ℕ) (finding : Found) (next : ℕ) → n ≤ i → RunRead s f w n at i finding next
      → Checked s (found_of (runs n f w (words_at s at))) (n * w) at (record { finding = finding; next = next })
  unfolding runs found_of
  run_done i finding next h r =
      let all : i ≡ n = omega (arith, r.few) in
      let none : n - i ≡ 0 = omega arith in
      record {
        finding = sym (r.left ∙ rw none (both_last finding));
        within = r.within;
        words = λ _. rw (← all) r.words;
      }

  module _ (i : ℕ) (finding : Found) (next : ℕ) (h : i < n) (r : RunRead s f w n at i finding next) (step : DS.Step)
      (one : Checked s (found_of (f (words_at s next))) w next step) (total : Found)
      (sum : total ≡ both finding step.finding)
    where
      all_left : found_of (runs n f w (words_at s at))
          ≡ both total (found_of (runs (n - (i + 1)) f w (drop w (words_at s next))))
      all_left =
          r.left
          ∙ ap (both finding) (runs_next f w n i (words_at s next) h)
          ∙ rw (← one.finding, sum) (sym (both_assoc finding step.finding _))

      pub run_stop : (k : ℕ) → 2 ≤ rank total
          → Checked s (found_of (runs n f w (words_at s at))) k at (record { finding = total; next = step.next })
      run_stop k d =
          record {
            finding = sym (all_left ∙ both_heavy _ _ d);
            within = one.within;
            words = λ l. absurd (omega arith);
          }

      pub run_on : rank total < 2 → RunRead s f w n at (i + 1) total step.next
      run_on l =
          let more : words_at s step.next ≡ drop w (words_at s next) =
          one.words (both_second finding step.finding (rw sum at l)) in
          let far : i * w + w ≡ (i + 1) * w = sym (rw add-one (suc-mul i w)) in
          record {
            few = omega arith;
            left = rw more all_left;
            light = l;
            within = one.within;
            words = more ∙ rw (r.words, ← far) (drop-drop w (i * w) (words_at s at));
          }

  -- an item that is read at once
  module _ (i next : ℕ) (h : i < n) (r : RunRead s f w n at i Nothing next) where
    pub run_fault : (k : ℕ) → found_of (f (words_at s next)) ≡ Fault
        → Checked s (found_of (runs n f w (words_at s at))) k at (record { finding = Fault; next = next })
    run_fault k e =
        run_stop i Nothing next h r (record { finding = Fault; next = next })
        (record { finding = sym e; within = r.within; words = λ l. absurd (omega arith) }) Fault
        (sym (both_none Fault)) k
        (omega arith)

    pub run_fine : (end : ℕ) → found_of (f (words_at s next)) ≡ Nothing → end ≤ length s
        → words_at s end ≡ drop w (words_at s next) → RunRead s f w n at (i + 1) Nothing end
    run_fine end e in-s more =
        run_on i Nothing next h r (record { finding = Nothing; next = end })
        (record { finding = sym e; within = in-s; words = λ _. more }) Nothing (sym (both_none Nothing)) (omega arith)

-- items of one word: the number that the next one is
pub run_number : (s : List ℕ) (f : Words → Finding) (n at i : ℕ) (finding : Found) (next : ℕ)
    → RunRead s f 1 n at i finding next
    → value_at 0 (words_at s next) ≡ value_at i (words_at s at)
run_number s f n at i finding next r =
    let here : words_at s next ≡ drop i (words_at s at) = rw mul-one at r.words in
    ap (λ (ws : Words). value_at 0 ws) here
    ∙ ap (λ w. value_of (term_of w)) (get_d_first [] i (words_at s at))
