-- What the cut call refuses before it searches: each of its tests in their order, and the numbers and places that it
-- may give.
use mathlib.Core.Path.{◌≡◌, refl, sym, ap, ◌∙◌}
use mathlib.Core.Bool.{Bool, true, false, ◌&&◌}
use mathlib.Core.List.{List, [], ◌∷◌}
use Prim.Native.Nat.{ℕ, ◌≤◌}
use native.Mathlib.Omega.{arith}
use lib.Dec.{eqb}
use lib.ListN.{length, get_or, take, drop}
use Rattle.model.specs.Basics.{All}
use Rattle.model.specs.Limits.{max_bytes, work_need}
use Rattle.model.specs.Refusals.{bad_sides, Verdict, verdict, accepted, first}
use Rattle.model.specs.Problems.{Table}
use Rattle.model.specs.Reading.{head_tables, domains_of, tables_start, tables_at, places_at}
use Rattle.model.specs.Reading.{verdict_of, problem_of, places_of}
use Rattle.model.specs.Cuts.{all_sides, sides_ok, crosses, linked_verdict, uncrossed}
use Rattle.model.specs.Calls.{work_verdict, sides_verdict, cut_room_verdict, cut_verdict}
use Rattle.model.proofs.Bits.{pick_both}
use Rattle.model.proofs.Elements.{all_map, all_drop}
use Rattle.model.proofs.Verdicts.{first_has, first_assoc, first_accepts}
use Rattle.model.proofs.Reading.{accepted_parts}
use Rattle.model.proofs.Places.{refused_number, place_limit}
use Rattle.model.proofs.Calls.{sides_accept, linked_accepts}
use Rattle.model.proofs.Cut.{sides_long}
use Rattle.model.specs.Reasons.{number_of}
use Rattle.model.specs.declared.Refusal.{Refusal}
use Rattle.model.proofs.Reasons.{number_refuses}
use Rattle.problem.specs.declared.Problem as DQ
use Rattle.problem.specs.Records.{Whole}
use Rattle.problem.specs.Says.{start_of}
use Rattle.problem.proofs.Accepted.{accepted_whole, AcceptedReading}
use Rattle.problem.proofs.Readings.{sized, variables_are}
use Rattle.problem.proofs.RecordPlaces.{places_whole}
use Rattle.answers.specs.Early.{short_of, early_of}
use Rattle.answers.specs.Cuts.{cut_refusal}
use Rattle.answers.proofs.Early.{Early, short_limits, short_open}

first_place : (ps : List ℕ) → All (λ at. at ≤ max_bytes) ps → get_or ps 0 0 ≤ max_bytes
first_place [] h = omega arith
first_place (at ∷ ps) h = h.0

linked_early : (ss : List ℕ) (ts : List Table) (ps : List ℕ) → All (λ at. at ≤ max_bytes) ps
    → Early (linked_verdict ss ts ps)
unfolding linked_verdict
linked_early ss [] ps h = (omega arith, omega arith)
linked_early ss (t ∷ ts) ps h =
    pick_both Early (crosses ss t) (omega arith, first_place ps h)
    (linked_early ss ts (drop 1 ps) (all_drop (λ at. at ≤ max_bytes) 1 ps h))

places_early : (s : List ℕ) → (verdict_of s).number ≡ 0 → All (λ at. at ≤ max_bytes) (places_of s)
unfolding places_of
places_early s e =
    let short : length s ≤ max_bytes = (accepted_parts s e).short in
    all_map (Whole (domains_of s) s) (λ at. at ≤ max_bytes) (λ at w. omega (arith, w.long)) (places_of s)
    (places_whole (domains_of s) s (head_tables s) (tables_start s) (accepted_whole s e))

module _ (s ss : List ℕ) (k : ℕ) where
  abbrev sided : Verdict
  sided = first (sides_verdict (problem_of s) ss) (linked_verdict ss (problem_of s).tables (places_of s))

  -- what all calls refuse, and then sides and linked records
  pub cut_early : cut_refusal s ss k ≡ first (early_of s k) sided
  unfolding cut_refusal
  cut_early = sym (first_assoc (verdict_of s) (short_of k) sided)

  pub cut_limits : Early (cut_refusal s ss k)
  unfolding cut_refusal sides_verdict
  cut_limits =
      let q = problem_of s in
      let linked = linked_verdict ss q.tables (places_of s) in
      first_has Early (verdict_of s) _ (omega (arith, refused_number s), place_limit s)
      (λ e. first_has Early (short_of k) _ (short_limits k)
      (λ _. first_has Early (sides_verdict q ss) linked (pick_both Early (sides_ok q ss) (omega arith) (omega arith))
      (λ _. linked_early ss q.tables (places_of s) (places_early s e))))

  -- what all calls refuse is refused
  pub early_cut : (r : Refusal) → verdict (number_of r.reason) r.place ≡ early_of s k
      → verdict (number_of r.reason) r.place ≡ cut_refusal s ss k
  early_cut r says = says ∙ sym (cut_early ∙ rw (← says, number_refuses r.reason) refl)

  module _ (none : accepted ≡ early_of s k) where
    -- a side list that is none
    pub sides_cut : sides_ok (problem_of s) ss ≡ false → verdict bad_sides 0 ≡ cut_refusal s ss k
    unfolding sides_verdict
    sides_cut h = sym (rw (cut_early, ← none, h) refl)

    -- else the linked records decide
    pub linked_cut : sides_ok (problem_of s) ss ≡ true → (v : Verdict)
        → v ≡ linked_verdict ss (problem_of s).tables (places_of s) → v ≡ cut_refusal s ss k
    unfolding sides_verdict
    linked_cut h v says = says ∙ sym (rw (cut_early, ← none, h) refl)

  -- what is not refused
  pub cut_open : (cut_refusal s ss k).number ≡ 0 → ((verdict_of s).number ≡ 0) × (work_need ≤ k)
      × (sides_ok (problem_of s) ss ≡ true) × (uncrossed ss (problem_of s).tables ≡ true)
  unfolding cut_refusal
  cut_open h =
      let q = problem_of s in
      let read = first_accepts (verdict_of s) _ h in
      let work = first_accepts (short_of k) _ read.1 in
      let both = first_accepts (sides_verdict q ss) _ work.1 in
      let free = linked_accepts ss q.tables (places_of s) both.1 in
      (read.0, short_open k work.0, sides_accept q ss both.0, free)

-- the whole verdict: this one, and then the room
pub cut_verdict_lem : (s ss w : List ℕ) (room : ℕ) → cut_verdict s ss w room
    ≡ first (cut_refusal s ss (length w)) (cut_room_verdict (problem_of s) ss room)
unfolding cut_verdict cut_refusal work_verdict
cut_verdict_lem s ss w room =
    let q = problem_of s in
    let linked = linked_verdict ss q.tables (places_of s) in
    let sided = first (sides_verdict q ss) linked in
    let last = cut_room_verdict q ss room in
    rw (
      first_assoc (verdict_of s) (first (work_verdict w) sided) last,
      first_assoc (work_verdict w) sided last,
      first_assoc (sides_verdict q ss) linked last,
    )

-- the tests of the sides and of the linked records, by the fields of what was read
module _ (s : List ℕ) (r : DQ.Problem) (a : AcceptedReading s r) (ss : List ℕ) where
  abbrev n : ℕ
  n = r.head.variables

  abbrev ds : List ℕ
  ds = take n r.sizes

  abbrev start : ℕ
  start = start_of r.head

  pub sides_told : (t : Bool) → t ≡ (eqb (length ss) n && all_sides ss) → t ≡ sides_ok (problem_of s) ss
  unfolding sides_ok
  sides_told t e = e ∙ ap (λ k. eqb (length ss) k && all_sides ss) (variables_are s r a)

  pub sides_sized : sides_ok (problem_of s) ss ≡ true → length ss ≡ length ds
  sides_sized h = sym (sides_long (problem_of s) ss h) ∙ sym (variables_are s r a) ∙ sym (sized s r a)

  pub linked_told : (v : Verdict)
      → v ≡ linked_verdict ss (tables_at r.head.tables ds s start) (places_at r.head.tables ds s start)
      → v ≡ linked_verdict ss (problem_of s).tables (places_of s)
  unfolding problem_of places_of
  linked_told v says = rw (a.domains, a.tables, a.objectives, a.variables) at says
