-- The least entry of a table that agrees with a prefix: it never falls as the prefix grows, and it is the least over
-- all completions.
use mathlib.Core.Path.{◌≡◌, refl, ◌∙◌}
use mathlib.Core.Logic.{⊎_elim}
use mathlib.Core.Bool.{true, false}
use mathlib.Core.List.{List, [], ◌∷◌}
use Prim.Native.Nat.{ℕ, zero, suc, ◌+◌, ◌-◌, ◌*◌, ◌≤◌, ◌<◌}
use native.Mathlib.Omega.{arith}
use lib.Dec.{ltb, leb}
use lib.ListN.{length, get_or, set, get_or-eq_default}
use lib.Seq.{get_or-set_same, get_or-set_other}
use borrow.Author.Tests.{ltb-true, ltb-false, lt-ltb, leb-true, leb-false}
use Rattle.model.specs.Basics.{All}
use Rattle.model.specs.Problems.{Table, scope_rule}
use Rattle.model.specs.Costs.{is_choice, entry_from, cost_of}
use Rattle.model.specs.Bounds.{prefix_ok, agrees, least_to, least_from, least_of}
use Rattle.model.proofs.Bits.{test, pick_both}
use Rattle.model.proofs.Elements.{all_below, all_map}
use Rattle.model.proofs.Scopes.{Apart, Distinct, scope_distinct}
use Rattle.model.proofs.Choices.{choice_length}
use Rattle.model.proofs.Prefixes.{choice_prefix, prefix_below, agrees_length, agrees_at, set_choice, set_agrees}
use Rattle.model.proofs.Prefixes.{some_completion}

-- the least of f 0 to f n
least_to_below : (n : ℕ) (f : ℕ → ℕ) (a : ℕ) → a ≤ n → least_to n f ≤ f a
unfolding least_to
least_to_below zero f a l =
    let e : a ≡ 0 = omega arith in
    rw e (omega arith)
least_to_below (suc n) f a l =
    ⊎_elim
    (λ (h : leb a n ≡ true). omega (arith, least_to_below n f a (leb-true a n h)))
    (λ (h : leb a n ≡ false). let e : a ≡ suc n = omega (arith, leb-false a n h) in rw e (omega arith))
    (test (leb a n))

least_to_reached : (n : ℕ) (f : ℕ → ℕ) → (a : ℕ) × (a ≤ n) × (least_to n f ≡ f a)
unfolding least_to
least_to_reached zero f = (0, omega arith, refl)
least_to_reached (suc n) f =
    let (a, l, e) = least_to_reached n f in
    ⊎_elim
    (λ (h : leb (least_to n f) (f (suc n)) ≡ true). (
      a,
      omega arith,
      omega (arith, leb-true (least_to n f) (f (suc n)) h),
    ))
    (λ (h : leb (least_to n f) (f (suc n)) ≡ false). (
      suc n,
      omega arith,
      omega (arith, leb-false (least_to n f) (f (suc n)) h),
    ))
    (test (leb (least_to n f) (f (suc n))))

least_to_grows : (n : ℕ) (f g : ℕ → ℕ) → ((a : ℕ) → f a ≤ g a) → least_to n f ≤ least_to n g
unfolding least_to
least_to_grows zero f g h = h 0
least_to_grows (suc n) f g h = omega (arith, least_to_grows n f g h, h (suc n))

-- a longer prefix fixes more variables, so its least is over fewer entries
module _ (ds : List ℕ) (entry : ℕ → ℕ) (pre longer : List ℕ) (ok : prefix_ok ds longer ≡ true)
    (ag : agrees pre longer ≡ true) where
  from_grows : (i : ℕ) (vs : List ℕ) → least_from ds pre entry i vs ≤ least_from ds longer entry i vs
  unfolding least_from
  from_grows i [] = omega arith
  from_grows i (v ∷ vs) =
      let next : (a : ℕ)
      → least_from ds pre entry (i * get_or ds v 0 + a) vs ≤ least_from ds longer entry (i * get_or ds v 0 + a) vs =
      λ a. from_grows (i * get_or ds v 0 + a) vs in
      ⊎_elim
      (λ (h : ltb v (length pre) ≡ true).
      let l : v < length pre = ltb-true _ _ h in
      rw (h, lt-ltb v (length longer) (omega (arith, agrees_length pre longer ag)), agrees_at pre longer ag v l)
      (next _))
      (λ (h : ltb v (length pre) ≡ false). rw h (⊎_elim
      (λ (k : ltb v (length longer) ≡ true). rw k (omega (
        arith,
        least_to_below (get_or ds v 0 - 1) (λ a. least_from ds pre entry (i * get_or ds v 0 + a) vs) (get_or longer v 0)
            (omega (arith, prefix_below ds longer ok v (ltb-true _ _ k))),
        next (get_or longer v 0),
      )))
      (λ (k : ltb v (length longer) ≡ false). rw k (least_to_grows _ _ _ next))
      (test (ltb v (length longer)))))
      (test (ltb v (length pre)))

pub least_grows : (ds pre longer : List ℕ) (t : Table) → prefix_ok ds longer ≡ true → agrees pre longer ≡ true
    → least_of ds pre t ≤ least_of ds longer t
unfolding least_of
least_grows ds pre longer t ok ag = from_grows ds (λ i. get_or t.costs i 0) pre longer ok ag 0 t.scope

-- a choice fixes all variables; one that does not exist reads as 0 on both sides
module _ (ds : List ℕ) (entry : ℕ → ℕ) (x : List ℕ) (c : is_choice ds x ≡ true) where
  from_whole : (i : ℕ) (vs : List ℕ) → least_from ds x entry i vs ≡ entry (entry_from i ds vs x)
  unfolding least_from least_to entry_from
  from_whole i [] = refl
  from_whole i (v ∷ vs) =
      let next : (j : ℕ) → least_from ds x entry j vs ≡ entry (entry_from j ds vs x) = λ j. from_whole j vs in
      ⊎_elim
      (λ (h : ltb v (length x) ≡ true). rw h (next _))
      (λ (h : ltb v (length x) ≡ false).
      let l : length x ≤ v = ltb-false _ _ h in
      let k : length ds ≤ v = omega (arith, choice_length ds x c) in
      rw (h, get_or-eq_default x 0 l, get_or-eq_default ds 0 k) (next _))
      (test (ltb v (length x)))

pub least_whole : (ds x : List ℕ) (t : Table) → is_choice ds x ≡ true → least_of ds x t ≡ cost_of ds x t
unfolding least_of cost_of
least_whole ds x t c = from_whole ds (λ i. get_or t.costs i 0) x c 0 t.scope

pub least_below : (ds pre : List ℕ) (t : Table) (x : List ℕ) → is_choice ds x ≡ true → agrees pre x ≡ true
    → least_of ds pre t ≤ cost_of ds x t
least_below ds pre t x c ag = rw (← least_whole ds x t c) (least_grows ds pre x t (choice_prefix ds x c) ag)

-- only the sizes and values of a scope's variables matter to its entry
pub entry_same : (ds es x y : List ℕ) (i : ℕ) (vs : List ℕ)
    → All (λ v. (get_or ds v 0 ≡ get_or es v 0) × (get_or x v 0 ≡ get_or y v 0)) vs
    → entry_from i ds vs x ≡ entry_from i es vs y
unfolding entry_from
entry_same ds es x y i [] h = refl
entry_same ds es x y i (v ∷ vs) h =
    rw (h.0.0, h.0.1) (entry_same ds es x y (i * get_or es v 0 + get_or y v 0) vs h.1)

entry_apart : (ds x : List ℕ) (v a i : ℕ) (vs : List ℕ) → Apart v vs
    → entry_from i ds vs (set x v a) ≡ entry_from i ds vs x
entry_apart ds x v a i vs h =
    entry_same ds ds (set x v a) x i vs
    (all_map (λ w. w ≡ v → ⊥) (λ w. (get_or ds w 0 ≡ get_or ds w 0) × (get_or (set x v a) w 0 ≡ get_or x w 0))
    (λ w n. (refl, get_or-set_other x v w a 0 n)) vs h)

-- a free variable v takes the value a of its least in a choice that reaches the least of the variables after it: they
-- are apart from v
module _ (ds pre : List ℕ) (entry : ℕ → ℕ) (low : All (λ d. 1 ≤ d) ds) (ok : prefix_ok ds pre ≡ true) where
  from_reached : (i : ℕ) (vs : List ℕ) → Distinct (length ds) vs
      → (x : List ℕ) × (is_choice ds x ≡ true) × (agrees pre x ≡ true)
      × (least_from ds pre entry i vs ≡ entry (entry_from i ds vs x))
  unfolding least_from entry_from
  from_reached i [] h =
      let (x, c, ag) = some_completion ds pre low ok in
      (x, c, ag, refl)
  from_reached i (v ∷ vs) s =
      let (below, apart, others) = s in
      let (a, l, e) = least_to_reached (get_or ds v 0 - 1) (λ a. least_from ds pre entry (i * get_or ds v 0 + a) vs) in
      let m : a < get_or ds v 0 = omega (arith, all_below (λ d. 1 ≤ d) ds low v 0 below) in
      let (x, c, ag, f) = from_reached (i * get_or ds v 0 + get_or pre v 0) vs others in
      let (y, d, bg, g) = from_reached (i * get_or ds v 0 + a) vs others in
      let k : v < length y = omega (arith, choice_length ds y d) in
      ⊎_elim
      (λ (h : ltb v (length pre) ≡ true). rw h (x, c, ag, rw (← agrees_at pre x ag v (ltb-true _ _ h)) f))
      (λ (h : ltb v (length pre) ≡ false). rw h (
        set y v a,
        set_choice ds y v a d m,
        set_agrees pre y v a bg (ltb-false _ _ h),
        rw (get_or-set_same y v a 0 k, entry_apart ds y v a (i * get_or ds v 0 + a) vs apart) (e ∙ g),
      ))
      (test (ltb v (length pre)))

pub least_reached : (ds pre : List ℕ) (t : Table) → All (λ d. 1 ≤ d) ds → prefix_ok ds pre ≡ true
    → scope_rule (length ds) t.scope ≡ true
    → (x : List ℕ) × (is_choice ds x ≡ true) × (agrees pre x ≡ true) × (least_of ds pre t ≡ cost_of ds x t)
unfolding least_of cost_of
least_reached ds pre t low ok s =
    from_reached ds pre (λ i. get_or t.costs i 0) low ok 0 t.scope (scope_distinct (length ds) t.scope s)

-- where every entry is below w, so is the least
module _ (w : ℕ) (ds pre : List ℕ) (entry : ℕ → ℕ) (h : (i : ℕ) → entry i < w) where
  from_limit : (i : ℕ) (vs : List ℕ) → least_from ds pre entry i vs < w
  unfolding least_from
  from_limit i [] = h i
  from_limit i (v ∷ vs) =
      let first : least_from ds pre entry (i * get_or ds v 0 + 0) vs < w = from_limit (i * get_or ds v 0 + 0) vs in
      pick_both (λ n. n < w) (ltb v (length pre)) (from_limit (i * get_or ds v 0 + get_or pre v 0) vs)
      (omega (
        arith,
        least_to_below (get_or ds v 0 - 1) (λ a. least_from ds pre entry (i * get_or ds v 0 + a) vs) 0 (omega arith),
      ))

pub least_limit : (w : ℕ) (ds pre : List ℕ) (t : Table) → ((i : ℕ) → get_or t.costs i 0 < w) → least_of ds pre t < w
unfolding least_of
least_limit w ds pre t h = from_limit w ds pre (λ i. get_or t.costs i 0) h 0 t.scope
