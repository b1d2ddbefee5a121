-- The two ways through the batch call: it is refused as a whole, or its problems are solved in turn.
use mathlib.Core.Path.{◌≡◌, refl, sym, ap, ◌∙◌}
use mathlib.Core.List.{List}
use Rattle.std.specs.Prelude.{Ok, Err}
use Prim.Native.Nat.{ℕ}
use lib.ListN.{length}
use borrow.Author.Tests.{eq-eqb, ne_eqb}
use Rattle.model.specs.Refusals.{Verdict, accepted}
use Rattle.model.specs.Calls.{work_verdict}
use Rattle.model.specs.Reasons.{number_of}
use Rattle.model.specs.declared.Reason.{Reason}
use Rattle.model.specs.declared.Refusal.{Refusal}
use Rattle.model.proofs.Reasons.{number_positive}
use Rattle.batch_frames.specs.Batches.{batch_of}
use Rattle.batch_frames.specs.Outcomes.{BatchOutcome, unchanged, in_turn, batch_verdict, batch_outcome}
use Rattle.batch_frames.specs.Statements.{Taken}
use Rattle.batch_frames.specs.Says.{judgement, JudgedSays}
use Rattle.batch_frames.proofs.InTurn.{turn_accepted, turn_count}
use Rattle.batch_frames.proofs.Accepted.{numbers, taken_is}
use Rattle.batch_call.specs.Says.{BatchSays}
use Rattle.batch_call.specs.Steps.{LeftBy}

module _ (s c x r w : List ℕ) where
  abbrev v : Verdict
  v = batch_verdict s c x r w

  abbrev outcome : BatchOutcome
  outcome = batch_outcome s c x r w

  abbrev turn : BatchOutcome
  turn = in_turn (batch_of s) c x r w

  -- what was judged by lengths is the verdict
  judged_is : judgement s (length c) (length x) (length r) (length w) ≡ v
  unfolding judgement batch_verdict work_verdict
  judged_is = refl

  module _ (q : Reason) (judged : JudgedSays s (length c) (length x) (length r) (length w) (Err q)) where
    number_is : number_of q ≡ v.number
    number_is = rw judged_is at judged.number

    outcome_is : outcome ≡ unchanged v c x r w
    unfolding batch_outcome
    outcome_is = rw (ne_eqb v.number 0 (λ e. number_positive q (number_is ∙ e))) refl

    pub refused_says : (f : Refusal) → f.reason ≡ q → f.place ≡ 0 → BatchSays outcome c x r w (Err f)
    refused_says f why here =
        let nowhere : v.place ≡ 0 = rw outcome_is at (numbers s c x r w).0 in
        rw outcome_is (record {
          verdict = rw (why, here, number_is, nowhere) refl;
          count = refl;
          costs = refl;
          choices = refl;
          results = refl;
          work = refl;
        })

  module _ (k : ℕ) (judged : JudgedSays s (length c) (length x) (length r) (length w) (Ok k)) where
    outcome_turn : outcome ≡ turn
    unfolding batch_outcome
    outcome_turn = rw (eq-eqb v.number 0 (sym (rw judged_is at judged.number))) refl

    accepts : outcome.verdict ≡ accepted
    accepts = ap (λ (o : BatchOutcome). o.verdict) outcome_turn ∙ turn_accepted (batch_of s) c x r w

    pub taken_all : Taken s c x r w
    taken_all = taken_is s c x r w (ap (λ (a : Verdict). a.number) accepts)

    pub taken_says : {c' x' r' w' : List ℕ} → LeftBy turn c' x' r' w' → BatchSays outcome c' x' r' w' (Ok k)
    taken_says left =
        rw outcome_turn (record {
          verdict = sym (turn_accepted (batch_of s) c x r w);
          count = judged.count.0 ∙ sym (turn_count (batch_of s) c x r w);
          costs = left.costs;
          choices = left.choices;
          results = left.results;
          work = left.work;
        })
