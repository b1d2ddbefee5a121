-- Parts: what holds at the choices that are looked at holds at every choice; part after part, a bucket's messages are
-- at most what it holds.
use mathlib.Core.Path.{◌≡◌, refl, ap, sym, ◌∙◌}
use mathlib.Core.Logic.{◌⊎◌, inl, inr, ⊎_elim}
use mathlib.Core.List.{List}
use Prim.Native.Nat.{ℕ, zero, suc, ◌+◌, ◌*◌, ◌≤◌, ◌<◌}
use native.Mathlib.Omega.{arith}
use lib.ListN.{length, get_or, set, replicate, length-set, length-replicate, get_or-eq_default}
use Rattle.model.specs.Basics.{All}
use Rattle.model.specs.Problems.{DomainSize}
use Rattle.model.proofs.Lists.{set_toward}
use Rattle.model.proofs.Choices.{choice_length}
use Rattle.costs.proofs.ScopeVariables.{value_below}
use Rattle.branch_directions.specs.Directions.{width_of}
use Rattle.branch_directions.specs.declared.Directions as DD
use Rattle.layout.specs.Places.{max_messages, order_in, record_end, child_end, message_end, field_in}
use Rattle.branch_buckets.specs.Messages.{message_entry, message_at, sent_over}
use Rattle.branch_buckets.specs.Bounds.{content_over}
use Rattle.branch_buckets.specs.Content.{Ranged, Filled, Summed}
use Rattle.branch_buckets.specs.declared.Span as DS
use Rattle.branch_buckets.specs.Sound.{Ends}
use Rattle.branch_buckets.proofs.Sums.{sent_split}
use Rattle.branch_buckets.proofs.Ranges.{sent_one, sent_none}
use Rattle.branch_buckets.proofs.Reading.{message_reads, content_reads, content_split, content_grows}
use Rattle.plan_test.specs.declared.Part as DP
use Rattle.plan_test.specs.declared.Held as DH
use Rattle.plan_test.specs.Parts.{rest_end, rest_base, Rows, RowLeft, one_of, two_of, three_of}
use Rattle.plan_test.specs.Parts.{MessageReads, PartReads, Fits, ChoiceLeaves, ValuesLeave, PairLeaves}
use Rattle.plan_test.specs.Parts.{PartLeaves, taken_span, Holding, Kept, HoldsAt}
use Rattle.plan_test.proofs.PartChoices.{part_choice, value_small}

same_at : (n x i : ℕ) → get_or (replicate n x) i 0 ≤ x
same_at zero x i = omega arith
same_at (suc n) x zero = omega arith
same_at (suc n) x (suc i) = same_at n x i

-- one more variable has its value in y
toward : (P : ℕ → Type 0) (x y : List ℕ) → length x ≡ length y → (u : ℕ)
    → ((a : ℕ) → P a → get_or x a 0 ≡ get_or y a 0) → (a : ℕ) → P a ⊎ (a ≡ u)
    → get_or (set x u (get_or y u 0)) a 0 ≡ get_or y a 0
toward P x y long u h a =
    ⊎_elim
    (λ (q : P a). set_toward 0 x y long u a (inr (h a q)))
    (λ (q : a ≡ u). set_toward 0 x y long u a (inl q))

module _ (d : DD.Directions) (ds s plan : List ℕ) (p : DP.Part) where
  -- the rows of a choice
  pub choice_leaves :
      (x left rows number : List ℕ) → Filled d ds s plan p.span p.own x rows
      → Summed (width_of d) plan p.message (p.message + 1) x number
      → ((a : ℕ) → a < get_or ds p.own 0 → RowLeft (width_of d) (8 * a) number p.rest rows left)
      → ChoiceLeaves d ds s plan p left x
  choice_leaves x left rows number filled summed h a j l m =
      omega (arith, h a l j m, (filled a j l m).0, (summed j m).0, sent_one (width_of d) plan p.message x j)

  -- a choice that has the values i, j and l of the message's variables has, but for its own variable, all that the part
  -- reads as the choice x has it
  pub values_leave :
      (i j l : ℕ) (x left : List ℕ) → p.own < length ds → Fits s plan p → x ≡ part_choice (length ds) plan p i j l
      → ChoiceLeaves d ds s plan p left x → ValuesLeave d ds s plan p i j l left
  values_leave i j l x left own fits is h y c e f g k m =
      let u = one_of plan p in
      let v = two_of plan p in
      let w = three_of plan p in
      let zeros = replicate {A = ℕ} (length ds) 0 in
      let first = set zeros u (get_or y u 0) in
      let second = set first v (get_or y v 0) in
      let third = set second w (get_or y w 0) in
      let long : length zeros ≡ length y = length-replicate (length ds) 0 ∙ sym (choice_length ds y c) in
      let long' : length first ≡ length y = length-set zeros u (get_or y u 0) ∙ long in
      let long'' : length second ≡ length y = length-set first v (get_or y v 0) ∙ long' in
      let long''' : length third ≡ length y = length-set second w (get_or y w 0) ∙ long'' in
      let at_first : (a : ℕ) → a ≡ u → get_or first a 0 ≡ get_or y a 0 = λ a q. set_toward 0 zeros y long u a (inl q) in
      let at_second = toward (λ a. a ≡ u) first y long' v at_first in
      let at-third = toward (λ a. (a ≡ u) ⊎ (a ≡ v)) second y long'' w at_second in
      let at_own = toward (MessageReads plan p) third y long''' p.own at-third in
      let x-is : x ≡ third = rw (e, f, g) is in
      let number : message_at (width_of d) plan x k p.message ≡ message_at (width_of d) plan y k p.message = rw x-is
      (message_reads (MessageReads plan p) third y at-third (width_of d) plan k p.message
      (inr (inl (inl refl)), inr (inl (inr refl)), inr (inr refl))) in
      let all_read =
      content_reads (PartReads plan p) (set third p.own (get_or y p.own 0)) y at_own d ds s plan p.span
      fits.records fits.children k in
      let held :
      content_over d ds s plan p.span (set x p.own (get_or y p.own 0)) k
      ≡ content_over d ds s plan p.span y k = rw x-is all_read in
      omega (arith, h (get_or y p.own 0) k (value_below ds y c p.own own) m, number, held)

-- the first c pairs of values are done, eight to each value of the first variable
pub record PartSteps (d : DD.Directions) (ds s plan : List ℕ) (p : DP.Part) (c : ℕ) (left : List ℕ) : Type 0 where
  pub few : c ≤ 64
  pub rows : Rows left
  pub pairs : (i j : ℕ) → j < 8 → 8 * i + j < c → PairLeaves d ds s plan p i j left

module _ {d : DD.Directions} {ds s plan : List ℕ} {p : DP.Part} where
  pub part_start_lem : PartSteps d ds s plan p 0 (replicate 64 rest_end)
  part_start_lem = record {
    few = omega arith;
    rows = record { long = refl; small = λ i. same_at 64 rest_end i };
    pairs = λ i j l h. absurd (omega arith);
  }

  module _ {c : ℕ} {left : List ℕ} (t : PartSteps d ds s plan p c left) where
    pub part_end :
        All DomainSize ds → 64 ≤ c → (h : DH.Held) → h.span ≡ p.span → h.rest ≡ left → PartLeaves d ds s plan p h
    part_end sizes all h span is =
        record {
          rows = rw is t.rows;
          span = span;
          leaves = λ y c k l.
              let u = one_of plan p in
              let v = two_of plan p in
              let small = value_small ds y sizes c in
              rw is
              (t.pairs (get_or y u 0) (get_or y v 0) (small v) (omega (arith, small u, small v))
              (get_or y (three_of plan p) 0) y c refl refl refl k l);
        }

-- a message whose numbers lie outside the plan is worth nothing
pub message_outside : (w : ℕ) (plan y : List ℕ) (j g : ℕ) → length plan ≤ field_in plan g 0
    → message_at w plan y j g ≡ 0
message_outside w plan y j g h =
    let out : length plan ≤ field_in plan g 0 + w * message_entry plan g y + j = omega arith in
    get_or-eq_default plan 0 out

module _ (d : DD.Directions) (ds s plan : List ℕ) (k : ℕ) where
  -- nothing is sent yet
  pub holding_start :
      (r : ℕ) (h : DH.Held) → Ends (length ds) r plan → k < length ds → h.span.to ≡ record_end plan (k + 1)
      → h.span.last ≡ child_end plan (k + 1) → h.rest ≡ replicate 64 rest_base
      → Holding d ds s plan k (message_end plan (k + 1)) h
  holding_start r h e less to last same =
      let base : (i : ℕ) → get_or h.rest i 0 ≤ rest_base = λ i. rw same (same_at 64 rest_base i) in
      record {
        records = (omega (arith, to), omega (arith, to, e.records k less));
        children = (omega (arith, last), omega (arith, last, e.children k less));
        rows = record { long = rw same refl; small = λ i. omega (arith, base i) };
        sum = λ y c j l.
            let end = message_end plan (k + 1) in
            let none = sent_none (width_of d) plan end end y j (omega arith) in
            omega (arith, none, base (8 * get_or y (order_in plan k) 0 + j));
      }

  module _ (g : ℕ) (more : message_end plan (k + 1) ≤ g) (h : DH.Held) (t : Holding d ds s plan k g h) where
    next : (y : List ℕ) (j : ℕ)
        → sent_over (width_of d) plan (message_end plan (k + 1)) (g + 1) y j
        ≡ sent_over (width_of d) plan (message_end plan (k + 1)) g y j + message_at (width_of d) plan y j g
    next y j =
        omega (
          arith,
          sent_split (width_of d) plan (message_end plan (k + 1)) g (g + 1) more (omega arith) y j,
          sent_one (width_of d) plan g y j,
        )

    -- a message that is worth nothing
    pub holding_skip : length plan ≤ field_in plan g 0 → Holding d ds s plan k (g + 1) h
    holding_skip out =
        record {
          records = t.records;
          children = t.children;
          rows = t.rows;
          sum = λ y c j l. omega (arith, next y j, message_outside (width_of d) plan y j g out, t.sum y c j l);
        }

    -- the next part and its message
    pub holding_next :
        (p : DP.Part) (h' : DH.Held) → p.message ≡ g → p.own ≡ order_in plan k → p.rest ≡ h.rest
        → p.span.from ≡ h.span.to → p.span.first ≡ h.span.last → Ranged p.span
        → p.span.to ≤ record_end plan k → p.span.last ≤ child_end plan k → PartLeaves d ds s plan p h'
        → Holding d ds s plan k (g + 1) h'
    holding_next p h' m own rest from first ranged top top' w =
        let to_is : h'.span.to ≡ p.span.to = ap (λ (u : DS.Span). u.to) w.span in
        let last-is : h'.span.last ≡ p.span.last = ap (λ (u : DS.Span). u.last) w.span in
        let taken : Ranged (taken_span plan k h.span) =
        record {
          records = t.records.0;
          children = t.children.0;
          children_end = omega (arith, ranged.children, ranged.children_end);
        } in
        record {
          records = (omega (arith, t.records.0, ranged.records), omega arith);
          children = (omega (arith, t.children.0, ranged.children), omega arith);
          rows = w.rows;
          sum = λ y c j l.
              let part :
              message_at (width_of d) plan y j g + get_or h'.rest (8 * get_or y (order_in plan k) 0 + j) 0
              ≤ get_or h.rest (8 * get_or y (order_in plan k) 0 + j) 0 + content_over d ds s plan p.span y j =
              rw (m, own, rest) at (w.leaves y c j l) in
              let both =
              content_split d ds s plan (taken_span plan k h.span) p.span taken ranged (sym from) (sym first) y
              j in
              let all :
              content_over d ds s plan (taken_span plan k h'.span) y j
              ≡ content_over d ds s plan (taken_span plan k p.span) y j =
              ap (λ (u : DS.Span). content_over d ds s plan (taken_span plan k u) y j) w.span in
              omega (arith, part, next y j, t.sum y c j l, both, all);
        }

  -- all is sent, and nothing is missing
  pub holding_end :
      (h : DH.Held) → All DomainSize ds → width_of d ≤ 8 → child_end plan k ≤ max_messages
      → Holding d ds s plan k (message_end plan k) h → Kept h.rest → HoldsAt d ds s plan k
  holding_end h sizes wide few t kept y c j l =
      let taken : Ranged (taken_span plan k h.span) =
      record { records = t.records.0; children = t.children.0; children_end = omega (arith, t.children.1) } in
      let more =
      content_grows d ds s plan (taken_span plan k h.span) (record_end plan k) (child_end plan k) taken
      t.records.1 t.children.1 y j in
      let own = get_or y (order_in plan k) 0 in
      let inside : 8 * own + j < 64 = omega (arith, value_small ds y sizes c (order_in plan k)) in
      omega (arith, t.sum y c j l, kept (8 * own + j) inside, more)
