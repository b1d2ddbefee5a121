-- Demand 3 of the cut call, by its promise alone: with number 0 the list is the uncut problem's frontier, which the
-- plain call gives too, also with the sides exchanged; and the sizes are those of the halves' frontiers.
use mathlib.Core.Path.{◌≡◌, sym, ap, ◌∙◌}
use mathlib.Core.List.{List}
use Prim.Native.Nat.{ℕ}
use Rattle.model.specs.Refusals.{Verdict, accepted}
use Rattle.model.specs.Reading.{problem_of}
use Rattle.model.specs.Calls.{room_of, solve_outcome, cut_outcome}
use Rattle.model.specs.Cuts.{exchanged}
use Rattle.model.specs.Demands.{Cuttable}
use Rattle.model.proofs.Reading.{accepted_place}
use Rattle.model.proofs.Calls.{accepts_solve}
use Rattle.model.proofs.Demands.{buffers, demand_3}
use Rattle.frontier.specs.Says.{SolveExports, CutExports}
use Rattle.frontier.specs.Demands.{cut, CutAnswer, Cuts}
use Rattle.frontier.proofs.Demand1.{none}
use Rattle.frontier.proofs.Demand2.{demand_2_solve}

-- what can be cut the plain call answers
solve_accepted : (s c x w : List ℕ) {sides : List ℕ} → Cuttable s sides w (room_of (problem_of s) c x)
    → (solve_outcome s c x w).verdict ≡ accepted
unfolding solve_outcome
solve_accepted s c x w can =
    accepts_solve s w (room_of (problem_of s) c x) (accepted_place s can.read) can.work_enough can.fits

module _ (s sides c x w : List ℕ) {c' x' w' : List ℕ} {n at k half-0 half-1 : ℕ}
    (e : CutExports s (cut_outcome s sides c x w) c' x' w' n at k half-0 half-1) where
  abbrev room : ℕ
  room = room_of (problem_of s) c x

  pub demand_3_cuts : Cuts s sides w room n at
  demand_3_cuts = record {
    answered = λ can. none e.number e.place (demand_3.answered s sides c x w can);
    nothing_else = λ h. demand_3.nothing_else s sides c x w (sym e.number ∙ h);
  }

  -- what the plain call promises for the same buffers
  pub cut_as_solve : n ≡ 0 → SolveExports s (solve_outcome s c x w) c' x' w' n at k
  cut_as_solve h =
      let can = demand_3_cuts.nothing_else h in
      let same = demand_3.as_uncut s sides c x w can in
      let plain : (solve_outcome s c x w).verdict ≡ accepted = solve_accepted s c x w can in
      let cleared = (buffers.cut s sides c x w).work_cleared.answered (sym e.number ∙ h) in
      let cleared-too = (buffers.solve s c x w).work_cleared.answered (ap (λ (v : Verdict). v.number) plain) in
      record {
        bytes = e.bytes;
        number = h ∙ ap (λ (v : Verdict). v.number) (sym plain);
        place = (demand_3_cuts.answered can).1 ∙ ap (λ (v : Verdict). v.place) (sym plain);
        count = e.count ∙ same.2;
        costs = e.costs ∙ same.0;
        choices = e.choices ∙ same.1;
        work = e.work ∙ cleared ∙ sym cleared-too;
      }

  pub demand_3_cut : n ≡ 0 → CutAnswer s sides c x (cut n at k half-0 half-1 c' x' w')
  demand_3_cut h =
      let sizes = demand_3.sizes s sides c x w (sym e.number ∙ h) in
      record {
        answer = demand_2_solve s c x w (cut_as_solve h) h;
        first_size = e.first_half ∙ sizes.0;
        second_size = e.second_half ∙ sizes.1;
      }

-- with the sides exchanged, where neither call is refused: no listed point changes
pub demand_3_exchanged : (s sides c x w : List ℕ) {c' x' w' c'' x'' w'' : List ℕ}
    {n at k half-0 half-1 n' at' k' half-0' half-1' : ℕ}
    → CutExports s (cut_outcome s sides c x w) c' x' w' n at k half-0 half-1
    → CutExports s (cut_outcome s (exchanged sides) c x w) c'' x'' w'' n' at' k' half-0' half-1'
    → n ≡ 0 → n' ≡ 0 → (c' ≡ c'') × (x' ≡ x'') × (k ≡ k')
demand_3_exchanged s sides c x w e f h h' =
    let one = cut_as_solve s sides c x w e h in
    let other = cut_as_solve s (exchanged sides) c x w f h' in
    (one.costs ∙ sym other.costs, one.choices ∙ sym other.choices, one.count ∙ sym other.count)
