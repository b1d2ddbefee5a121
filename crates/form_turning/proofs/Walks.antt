-- The entries of a turned table are those of the table, read along the variables of the risen scope, each with its
-- stride.
use mathlib.Core.Path.{◌≡◌, refl, ap, sym, ◌∙◌}
use mathlib.Core.Bool.{Bool, true, false}
use mathlib.Core.List.{List, [], ◌∷◌, ◌++◌, map, append_assoc, append-nil, map-append, map_congr_left}
use Prim.Native.Nat.{ℕ, zero, suc, ◌+◌, ◌-◌, ◌*◌, ◌<◌}
use native.Mathlib.Omega.{arith}
use native.Mathlib.Nat.{one-mul}
use native.Mathlib.Numerals.{add-one}
use lib.ListN.{length, get_or, drop, length-append, get_or-map}
use lib.Seq.{append_snoc, drop-drop}
use Rattle.model.specs.Basics.{All, pick, keep_if}
use Rattle.model.specs.Problems.{DomainSize, size_of, has_variable, scope_rule}
use Rattle.model.specs.Costs.{entry_from}
use Rattle.model.specs.Frontiers.{with_first, firsts_from, choices}
use Rattle.model.specs.Encoding.{four_bytes, word_bytes}
use Rattle.model.proofs.Lists.{get_d_first}
use Rattle.model.proofs.Elements.{all_below, all_map}
use Rattle.problem.proofs.ScopeRule.{scope_range}
use Rattle.form_canonical.specs.Canonical.{risen, sizes_within}
use Rattle.form_turning.specs.Steps.{steps}
use Rattle.form_turning.specs.Strides.{stride_of, walk}
use Rattle.form_turning.proofs.Steps.{steps_one, steps_bytes, steps_each}
use Rattle.form_turning.proofs.Strides.{stride_none, entry_linear, entry_below}

-- how far the last entry is from the first
unfoldable pub reach : List ℕ → List ℕ → List ℕ → ℕ
reach ds scope [] = 0
reach ds scope (v ∷ vs) = (get_or ds v 0 - 1) * stride_of ds scope v + reach ds scope vs

-- ## all choices, by their first values

map_first : (g : List ℕ → ℕ) (x : ℕ) (cs : List (List ℕ)) → map g (with_first x cs) ≡ map (λ c. g (x ∷ c)) cs
unfolding with_first
map_first g x [] = refl
map_first g x (c ∷ cs) = ap (λ (l : List ℕ). g (x ∷ c) ∷ l) (map_first g x cs)

words_append : (xs ys : List ℕ) → word_bytes (xs ++ ys) ≡ word_bytes xs ++ word_bytes ys
unfolding word_bytes
words_append [] ys = refl
words_append (x ∷ xs) ys =
    ap (λ (l : List ℕ). four_bytes x ++ l) (words_append xs ys)
    ∙ sym (append_assoc (four_bytes x) (word_bytes xs) (word_bytes ys))

-- the entries of each value of a variable are a string in even steps
firsts_steps : (g : List ℕ → ℕ) (f : ℕ → List ℕ) (cs : List (List ℕ)) (from stride : ℕ)
    → ((x : ℕ) → word_bytes (map (λ c. g (x ∷ c)) cs) ≡ f (from + x * stride)) → (n x : ℕ)
    → word_bytes (map g (firsts_from n x cs)) ≡ steps n stride f (from + x * stride)
unfolding firsts_from steps word_bytes
firsts_steps g f cs from stride each zero x = refl
firsts_steps g f cs from stride each (suc n) x =
    let next : from + suc x * stride ≡ from + x * stride + stride = omega arith in
    let rest = firsts_steps g f cs from stride each n (suc x) in
    ap word_bytes (map-append g (with_first x cs) (firsts_from n (suc x) cs))
    ∙ words_append (map g (with_first x cs)) (map g (firsts_from n (suc x) cs))
    ∙ (λ k. (ap word_bytes (map_first g x cs) ∙ each x) k ++ (rest ∙ ap (steps n stride f) next) k)

module _ (ds scope : List ℕ) (rule : scope_rule (length ds) scope ≡ true) where
  abbrev place_of : List ℕ → ℕ
  place_of pre = entry_from 0 ds scope pre

  one_more : (pre : List ℕ) (v x : ℕ) → length pre ≡ v
      → place_of (pre ++ (x ∷ [])) ≡ place_of pre + x * stride_of ds scope v
  one_more pre v x e = rw (← e) (entry_linear ds pre x (length ds) scope 0 rule)

  place_none : (vs : List ℕ) → entry_from 0 ds vs [] ≡ 0
  unfolding entry_from
  place_none [] = refl
  place_none (v ∷ vs) =
      let first : 0 * get_or ds v 0 + 0 ≡ 0 = omega arith in
      rw first (place_none vs)

  -- what drop v ds starts with
  here : (v d : ℕ) (rest : List ℕ) → drop v ds ≡ d ∷ rest → get_or ds v 0 ≡ d
  here v d rest h = sym (get_d_first 0 v ds) ∙ ap (λ (l : List ℕ). get_or l 0 0) h

  behind : (v d : ℕ) (rest : List ℕ) → drop v ds ≡ d ∷ rest → drop (suc v) ds ≡ rest
  behind v d rest h = rw (← add-one v) (sym (drop-drop 1 v ds) ∙ ap (drop 1) h)

  longer : (pre : List ℕ) (v x : ℕ) → length pre ≡ v → length (pre ++ (x ∷ [])) ≡ suc v
  longer pre v x e = omega (arith, length-append pre (x ∷ []))

  -- ## the last value of each variable

  abbrev lasts : List ℕ → List ℕ
  lasts rest = map (λ d. d - 1) rest

  kept_reach : (b : Bool) (v d : ℕ) (vs : List ℕ) → has_variable v scope ≡ b → get_or ds v 0 ≡ d
      → (d - 1) * stride_of ds scope v + reach ds scope vs ≡ reach ds scope (keep_if b v vs)
  unfolding reach
  kept_reach true v d vs h e = rw e
  kept_reach false v d vs h e = rw (stride_none ds scope v h) (omega arith)

  walk_last : (rest pre : List ℕ) (v : ℕ) → length pre ≡ v → drop v ds ≡ rest
      → place_of (pre ++ lasts rest) ≡ place_of pre + reach ds scope (risen v rest scope)
  unfolding risen reach
  walk_last [] pre v e h = rw (append-nil pre) (omega arith)
  walk_last (d ∷ rest) pre v e h =
      let next = pre ++ ((d - 1) ∷ []) in
      ap place_of (sym (append_snoc pre (d - 1) (lasts rest)))
      ∙ walk_last rest next (suc v) (longer pre v (d - 1) e) (behind v d rest h)
      ∙ omega (
        arith,
        one_more pre v (d - 1) e,
        kept_reach (has_variable v scope) v d (risen (suc v) rest scope) refl (here v d rest h),
      )

  pub reach_below : All DomainSize ds → reach ds scope (risen 0 ds scope) < size_of ds scope
  reach_below sizes =
      let value : (v : ℕ) → v < length ds → get_or (lasts ds) v 0 < get_or ds v 0 =
      λ v h. rw (get_or-map (λ d. d - 1) ds v 0) (omega (arith, all_below DomainSize ds sizes v 0 h)) in
      let below = entry_below ds (lasts ds) scope 0
      (all_map (λ v. v < length ds) (λ v. get_or (lasts ds) v 0 < get_or ds v 0) value scope
      (scope_range (length ds) scope rule)) in
      omega (arith, below, walk_last ds [] 0 refl refl, place_none scope)

  -- ## the entries

  module _ (costs : List ℕ) where
    abbrev entry : ℕ → List ℕ
    entry i = four_bytes (get_or costs i 0)

    abbrev cost_at : List ℕ → ℕ
    cost_at xs = get_or costs (place_of xs) 0

    -- the variable v, where the scope has it, before those after it
    kept_walk : (b : Bool) (v d : ℕ) (vs : List ℕ) (i : ℕ) → get_or ds v 0 ≡ d
        → steps (pick b d 1) (stride_of ds scope v) (walk ds scope 1 vs entry) i
        ≡ walk ds scope 1 (keep_if b v vs) entry i
    unfolding walk
    kept_walk true v d vs i e = rw (one-mul (stride_of ds scope v), e)
    kept_walk false v d vs i e = steps_one (stride_of ds scope v) i (walk ds scope 1 vs entry)

    walk_costs : (rest pre : List ℕ) (v : ℕ) → length pre ≡ v → drop v ds ≡ rest
        → word_bytes (map (λ xs. cost_at (pre ++ xs)) (choices (sizes_within v rest scope)))
        ≡ walk ds scope 1 (risen v rest scope) entry (place_of pre)
    unfolding choices sizes_within risen walk word_bytes
    walk_costs [] pre v e h = append-nil _ ∙ ap (λ (l : List ℕ). entry (place_of l)) (append-nil pre)
    walk_costs (d ∷ rest) pre v e h =
        let stride = stride_of ds scope v in
        let cs = choices (sizes_within (suc v) rest scope) in
        let inner = walk ds scope 1 (risen (suc v) rest scope) entry in
        let start : place_of pre + 0 * stride ≡ place_of pre = omega arith in
        let each : (x : ℕ) → word_bytes (map (λ c. cost_at (pre ++ (x ∷ c))) cs) ≡ inner (place_of pre + x * stride) =
        λ x.
        let next = pre ++ (x ∷ []) in
        ap word_bytes (map_congr_left {f = λ c. cost_at (pre ++ (x ∷ c))} {g = λ c. cost_at (next ++ c)} {l = cs}
        (λ c _. ap cost_at (sym (append_snoc pre x c))))
        ∙ walk_costs rest next (suc v) (longer pre v x e) (behind v d rest h)
        ∙ ap inner (one_more pre v x e) in
        firsts_steps (λ xs. cost_at (pre ++ xs)) inner cs (place_of pre) stride each
        (pick (has_variable v scope) d 1) 0
        ∙ ap (steps (pick (has_variable v scope) d 1) stride inner) start
        ∙ kept_walk (has_variable v scope) v d (risen (suc v) rest scope) (place_of pre) (here v d rest h)

    pub walk_all : word_bytes (map cost_at (choices (sizes_within 0 ds scope)))
        ≡ walk ds scope 1 (risen 0 ds scope) entry 0
    walk_all = walk_costs ds [] 0 refl refl ∙ ap (walk ds scope 1 (risen 0 ds scope) entry) (place_none scope)

-- entries and bytes along the same variables
pub walk_bytes : (ds scope : List ℕ) (f g : ℕ → List ℕ) (end : ℕ) → ((i : ℕ) → i < end → f i ≡ g (4 * i))
    → (vs : List ℕ) (i : ℕ) → i + reach ds scope vs < end → walk ds scope 1 vs f i ≡ walk ds scope 4 vs g (4 * i)
unfolding walk reach
walk_bytes ds scope f g end same [] i h = same i (omega arith)
walk_bytes ds scope f g end same (v ∷ vs) i h =
    rw (one-mul (stride_of ds scope v))
    (steps_bytes (walk ds scope 1 vs f) (walk ds scope 4 vs g) (reach ds scope vs) end (get_or ds v 0)
    (stride_of ds scope v) i (λ j k. walk_bytes ds scope f g end same vs j k) h)

pub walk_length : (ds scope : List ℕ) (f : ℕ → List ℕ) → ((i : ℕ) → length (f i) ≡ 4) → (vs : List ℕ) (i : ℕ)
    → length (walk ds scope 1 vs f i) ≡ size_of ds vs * 4
unfolding walk size_of
walk_length ds scope f four [] i = four i
walk_length ds scope f four (v ∷ vs) i =
    let inner : (j : ℕ) → length (walk ds scope 1 vs f j) ≡ size_of ds vs * 4 = λ j. walk_length ds scope f four vs j in
    steps_each (walk ds scope 1 vs f) (size_of ds vs * 4) (get_or ds v 0) (1 * stride_of ds scope v) i inner
    ∙ omega arith
