-- Opening a position: the partial choice with each value of its variable, its bound, and its completions by that value.
use Rattle.std.proofs.Common.{◌≡◌, ℕ, ◌+◌, ◌*◌, ◌<◌, ◌≤◌, true, false, ltb, List, length, get_or, set, sym, ap, ◌∙◌}
use Rattle.std.proofs.Common.{subst, ⊎_elim, arith, length-set, get_or-set_other, get_or-set_same, ltb-false, ltb-true}
use Rattle.model.specs.Limits.{byte_end}
use Rattle.model.specs.Costs.{is_choice}
use Rattle.model.proofs.Bits.{test}
use Rattle.model.proofs.Choices.{choice_length}
use Rattle.model.proofs.Prefixes.{choice_prefix, prefix_below, set_choice}
use Rattle.branch_directions.specs.Directions.{width_of}
use Rattle.branch_directions.specs.declared.Directions as DD
use Rattle.layout.specs.Places.{order_in, position_in}
use Rattle.branch_buckets.specs.Bounds.{Agree, bound_at, sent_at}
use Rattle.branch_buckets.specs.Content.{Planned}
use Rattle.branch_buckets.specs.Sound.{Tested, Sound}
use Rattle.branch_buckets.proofs.Bounds.{sent_local, bound_local, bound_step, bound_limit}
use Rattle.branch_search.specs.States.{Partial}
use Rattle.branch_values.specs.Rows.{Holding, next_bound, Bucket, Away}

module _ {d : DD.Directions} {r : ℕ} {ds s source plan : List ℕ} (w : Sound d r ds s source plan) {k : ℕ}
    {x acc : List ℕ} (h : Partial d r ds s plan k x acc) (inside : k < length ds) where
  abbrev tested : Tested d r ds s plan
  tested = w.tested

  abbrev variable : ℕ
  variable = order_in plan k

  long : length x ≡ length ds
  long = choice_length ds x h.choice

  pub variable_inside : order_in plan k < length ds
  variable_inside = tested.ordered.variable k inside

  -- a variable at another position is another variable
  other : (u : ℕ) → (position_in plan u ≡ k → ⊥) → u ≡ variable → ⊥
  other u n e = n (ap (λ (i : ℕ). position_in plan i) e ∙ tested.ordered.place k inside)

  pub with_choice : (a : ℕ) → a < get_or ds (order_in plan k) 0 → is_choice ds (set x (order_in plan k) a) ≡ true
  with_choice a l = set_choice ds x variable a h.choice l

  with_agree : (a : ℕ) → Agree plan k x (set x variable a)
  with_agree a u i p = sym (get_or-set_other x variable u a 0 (other u (λ e. omega arith)))

  -- a completion has one of the values
  pub value_inside : (y : List ℕ) → is_choice ds y ≡ true → get_or y (order_in plan k) 0 < get_or ds (order_in plan k) 0
  value_inside y c =
      prefix_below ds y (choice_prefix ds y c) variable (omega (arith, choice_length ds y c, variable_inside))

  pub value_agree : (y : List ℕ) → is_choice ds y ≡ true → Agree plan k x y
      → Agree plan (k + 1) (set x (order_in plan k) (get_or y (order_in plan k) 0)) y
  value_agree y c g u i p =
      ⊎_elim
      (λ (t : ltb (position_in plan u) k ≡ true).
      let l : position_in plan u < k = ltb-true (position_in plan u) k t in
      get_or-set_other x variable u (get_or y variable 0) 0 (other u (λ e. omega arith))
      ∙ g u (omega (arith, length-set x variable (get_or y variable 0))) l)
      (λ (t : ltb (position_in plan u) k ≡ false).
      let e : position_in plan u ≡ k = omega (arith, ltb-false (position_in plan u) k t) in
      let is : variable ≡ u = ap (λ (j : ℕ). order_in plan j) (sym e)
      ∙ tested.ordered.back u (omega (arith, length-set x variable (get_or y variable 0), long)) in
      subst (λ (j : ℕ). get_or (set x variable (get_or y variable 0)) j 0 ≡ get_or y j 0) is
      (get_or-set_same x variable (get_or y variable 0) 0 (omega (arith, long, variable_inside))))
      (test (ltb (position_in plan u) k))

  -- the bound with each value
  module _ (rows away : List ℕ) (bucket : Bucket d ds s plan k (order_in plan k) x rows)
      (sends : Away d plan k x away) where
    sent_same : (a j : ℕ) → sent_at d plan k x j ≡ sent_at d plan k (set x variable a) j
    sent_same a j =
        sent_local tested k inside x (set x variable a) long (length-set x variable a ∙ long) (with_agree a) j

    less : (a j : ℕ) → a < get_or ds variable 0 → j < width_of d → get_or away j 0 ≤ get_or rows (8 * a + j) 0
    less a j l m =
        omega (
          arith,
          (sends j m).0,
          sent_same a j,
          tested.holds k inside (set x variable a) (with_choice a l) j m,
          (bucket a j l m).0,
        )

    pub next_holding : (a : ℕ) → a < get_or ds (order_in plan k) 0 → Holding (width_of d) acc away rows a
    next_holding a l j m = (less a j l m, omega (arith, h.small j m, (bucket a j l m).1))

    pub next_exact : (a : ℕ) → a < get_or ds (order_in plan k) 0 → (j : ℕ) → j < width_of d
        → next_bound acc away rows a j ≡ bound_at d ds s plan r (k + 1) (set x (order_in plan k) a) j
    next_exact a l j m =
        omega (
          arith,
          less a j l m,
          (sends j m).0,
          sent_same a j,
          (bucket a j l m).0,
          h.exact j m,
          bound_local tested k h.short x (set x variable a) h.choice (with_choice a l) (with_agree a) j,
          bound_step tested k inside (set x variable a) (with_choice a l) j m,
        )

    pub next_partial : Planned d r ds s plan → ((at : ℕ) → get_or s at 0 < byte_end) → (a : ℕ)
        → a < get_or ds (order_in plan k) 0 → (b : List ℕ)
        → ((j : ℕ) → j < width_of d → get_or b j 0 ≡ next_bound acc away rows a j)
        → Partial d r ds s plan (k + 1) (set x (order_in plan k) a) b
    next_partial planned bytes a l b read =
        record {
          short = omega arith;
          choice = with_choice a l;
          unset = λ u i p. get_or-set_other x variable u a 0 (other u (λ e. omega arith)) ∙ h.unset u i (omega arith);
          exact = λ j m. read j m ∙ next_exact a l j m;
          small =
              λ j m. omega (
                arith,
                read j m,
                next_exact a l j m,
                bound_limit w (set x variable a) (with_choice a l) j m planned bytes (k + 1) (omega arith),
              );
        }
