-- The method gives the frontier list, or finds it longer than the room, with any sound rule to leave branches unopened.
use mathlib.Core.Path.{◌≡◌, refl, ap, sym, ◌∙◌, subst}
use mathlib.Core.Logic.{inl, inr, ⊎_elim}
use mathlib.Core.Bool.{Bool, true, false, not}
use mathlib.Core.List.{List, [], ◌∷◌, ◌++◌}
use Prim.Native.Nat.{ℕ, zero, suc, ◌+◌, ◌≤◌, ◌<◌}
use native.Mathlib.Omega.{arith}
use lib.ListN.{length, get_or, length-append}
use borrow.Author.Tests.{lt-ltb, not-true, le-leb, lt-leb}
use Rattle.model.specs.Basics.{pick}
use Rattle.model.specs.Problems.{Problem}
use Rattle.model.specs.Vectors.{earlier}
use Rattle.model.specs.Costs.{is_choice, costs_of}
use Rattle.model.specs.Frontiers.{Point, point}
use Rattle.model.specs.Core.{core_consistent, core_frontier, CoreReached}
use Rattle.model.specs.Search.{Held, nothing, just, matched, is_left, better, met, tries, opens, pass, done, full}
use Rattle.model.specs.Search.{passes, solved}
use Rattle.model.proofs.Bits.{true_false, and_left, and_right, and_both}
use Rattle.model.proofs.Vectors.{Earlier, earlier_true, not_earlier}
use Rattle.model.proofs.Points.{point_eq}
use Rattle.model.proofs.Frontier.{costs_width, reached_width, reached_choice}
use Rattle.model.proofs.Best.{Matched}
use Rattle.model.proofs.Passes.{NotAfter, not_after_trans, Unmatched, matched_in, unmatched_false, Prefix}
use Rattle.model.proofs.Passes.{prefix_none, next_point, none_left, found_count}
use Rattle.model.proofs.Tree.{Passed, From, Through, completes_refl, opened, tried, closed, leaf, start}
use Rattle.model.proofs.Held.{Beyond, Seen, Holds, holds_same, holds_skip, holds_take}

-- a prefix of a choice of ds, which leaves the domains `rest`
abbrev Partial : List ℕ → List ℕ → List ℕ → Type 0
Partial ds [] rest = ds ≡ rest
Partial [] (p ∷ pre) rest = ⊥
Partial (d ∷ ds) (p ∷ pre) rest = (p < d) × Partial ds pre rest

partial_whole : (ds pre : List ℕ) → Partial ds pre [] → is_choice ds pre ≡ true
unfolding is_choice
partial_whole ds [] h = rw h refl
partial_whole [] (p ∷ pre) h = absurd h
partial_whole (d ∷ ds) (p ∷ pre) h = and_both (lt-ltb p d h.0) (partial_whole ds pre h.1)

partial_more : (ds pre : List ℕ) (d : ℕ) (rest : List ℕ) (v : ℕ) → v < d → Partial ds pre (d ∷ rest)
    → Partial ds (pre ++ (v ∷ [])) rest
partial_more [] [] d rest v l h = let z : ◌≡◌ {A = ℕ} 0 1 = cc in absurd (omega arith)
partial_more (e ∷ ds) [] d rest v l h = let a : e ≡ d = cc in (omega arith, cc)
partial_more [] (p ∷ pre) d rest v l h = h
partial_more (e ∷ ds) (p ∷ pre) d rest v l h = (h.0, partial_more ds pre d rest v l h.1)

partial_next : (ds pre : List ℕ) (d : ℕ) (rest : List ℕ) → Partial ds pre (d ∷ rest)
    → (get_or ds (length pre) 0 ≡ d) × (length pre < length ds)
partial_next [] [] d rest h = let z : ◌≡◌ {A = ℕ} 0 1 = cc in absurd (omega arith)
partial_next (e ∷ ds) [] d rest h = (cc, omega arith)
partial_next [] (p ∷ pre) d rest h = absurd h
partial_next (e ∷ ds) (p ∷ pre) d rest h = let k = partial_next ds pre d rest h.1 in (k.0, omega arith)

-- one pass, over the points that the list ps does not match
module _ (q : Problem) (ps : List Point) where
  abbrev pub Left : Point → Type 0
  Left = Unmatched (CoreReached q) ps

  abbrev pub at : List ℕ → Point
  at x = point (costs_of q x) x

  -- what is held before and after the search of all that goes on from a prefix
  abbrev pub Before : List ℕ → Held → Type 0
  Before pre h = Holds Left (Passed q.domains pre) h

  abbrev pub After : List ℕ → Held → Type 0
  After pre h = Holds Left (Through q.domains pre) h

  -- nothing that goes on from the prefix comes before the one held
  abbrev pub Hopeless : List ℕ → Held → Type 0
  Hopeless pre h = (r : Point) → Seen Left (From q.domains pre) r → Beyond h r

  skip_holds : (pre : List ℕ) (h : Held) → Hopeless pre h → Before pre h → After pre h
  skip_holds pre h b k = holds_skip Left (Passed q.domains pre) (From q.domains pre) h b k

  -- a complete choice is met
  module _ (x : List ℕ) (c : is_choice q.domains x ≡ true) where
    left_true : is_left q ps x ≡ true → Left (at x)
    unfolding is_left
    left_true h = (
      reached_choice q x c (and_left (core_consistent q x) _ h),
      unmatched_false (at x) ps (not-true (matched (costs_of q x) ps) (and_right (core_consistent q x) _ h)),
    )

    -- what goes on from x is x
    only : (r : Point) → Seen Left (From q.domains x) r → at x ≡ r
    only r s =
        let e : x ≡ r.choice = leaf q.domains x r.choice c s.1 in
        point_eq (ap (costs_of q) e ∙ sym s.0.0.exact) e

    left_false : is_left q ps x ≡ false → (h : Held) → Hopeless x h
    unfolding is_left
    left_false f h r s =
        let e : at x ≡ r = only r s in
        let u : Left (at x) = subst Left (sym e) s.0 in
        absurd (true_false (and_both u.0.allowed (ap not (go (matched (costs_of q x) ps) refl u.1))) f)
      where
        go : (b : Bool) → matched (costs_of q x) ps ≡ b → (Matched ps (at x) → ⊥) → matched (costs_of q x) ps ≡ false
        go true e n = absurd (n (matched_in (at x) ps e))
        go false e n = e

    -- x is not earlier than the one held, and comes later
    kept : (w : Point) → earlier (costs_of q x) w.costs ≡ false → Left w → Earlier w.choice x → NotAfter w (at x)
    kept w e u l =
        ⊎_elim (λ k. inr (k, inr l)) (λ k. inl k)
        (not_earlier (costs_of q x) w.costs (costs_width q x ∙ sym (reached_width q w u.0)) e)

    take_holds : Left (at x) → ((r : Point) → Seen Left (Passed q.domains x) r → NotAfter (at x) r)
        → After x (just (at x))
    take_holds u b =
        holds_take Left (Passed q.domains x) (From q.domains x) (at x) (u, (c, completes_refl x)) only b

    better_holds : (h : Held) → Left (at x) → Before x h → After x (better (at x) h)
    unfolding better
    better_holds nothing u k = take_holds u (λ r s. absurd (k r s))
    better_holds (just w) u k = go (earlier (costs_of q x) w.costs) refl
      where
        go : (b : Bool) → earlier (costs_of q x) w.costs ≡ b → After x (pick b (just (at x)) (just w))
        go true e =
            take_holds u
            (λ r s. not_after_trans (at x) w r (inl (earlier_true (costs_of q x) w.costs e)) (k.least r s))
        go false e =
            skip_holds x (just w) (λ r s. subst (NotAfter w) (only r s) (kept w e k.inside.0 k.inside.1.1)) k

    met_holds : (h : Held) → Before x h → After x (met q ps x h)
    unfolding met
    met_holds h k = go (is_left q ps x) refl
      where
        go : (b : Bool) → is_left q ps x ≡ b → After x (pick b (better (at x) h) h)
        go true e = better_holds h (left_true e) k
        go false e = skip_holds x h (left_false e h) k

  -- the search below a prefix
  module _ (skip : List ℕ → Held → Bool) where
    module _ (sound : (pre : List ℕ) (h : Held) → skip pre h ≡ true → Before pre h → Hopeless pre h) where
      tries_hold : (pre : List ℕ) (f : ℕ → Held → Held) (d : ℕ)
          → ((v : ℕ) → v < d → (h : Held) → Before (pre ++ (v ∷ [])) h → After (pre ++ (v ∷ [])) (f v h)) → (n v : ℕ)
          → n + v ≡ d → (h : Held) → Before (pre ++ (v ∷ [])) h → Before (pre ++ (d ∷ [])) (tries n v f h)
      unfolding tries
      tries_hold pre f d step zero v e h k =
          let a : v ≡ d = omega arith in subst (λ (w : ℕ). Before (pre ++ (w ∷ [])) h) a k
      tries_hold pre f d step (suc n) v e h k =
          tries_hold pre f d step n (suc v) (omega arith) (f v h)
          (holds_same Left _ _ (f v h) (tried q.domains pre v) (step v (omega arith) h k))

      -- a variable is opened
      variable_holds : (pre : List ℕ) (d : ℕ) (f : ℕ → Held → Held) → get_or q.domains (length pre) 0 ≡ d
          → length pre < length q.domains
          → ((v : ℕ) → v < d → (h : Held) → Before (pre ++ (v ∷ [])) h → After (pre ++ (v ∷ [])) (f v h)) → (h : Held)
          → Before pre h → After pre (tries d 0 f h)
      variable_holds pre d f e l step h k =
          let ds = q.domains in
          let begun : Before (pre ++ (0 ∷ [])) h = holds_same Left (Passed ds pre) (Passed ds (pre ++ (0 ∷ []))) h
          (opened ds pre) k in
          let ended : Before (pre ++ (d ∷ [])) (tries d 0 f h) = tries_hold pre f d step d 0 (omega arith) h begun in
          holds_same Left (Passed ds (pre ++ (get_or ds (length pre) 0 ∷ []))) (Through ds pre) (tries d 0 f h)
          (closed ds pre l) (subst (λ (w : ℕ). Before (pre ++ (w ∷ [])) (tries d 0 f h)) (sym e) ended)

      opens_hold : (rest pre : List ℕ) → Partial q.domains pre rest → (h : Held) → Before pre h
          → After pre (opens q ps skip rest pre h)
      unfolding opens
      opens_hold [] pre p h k = met_holds pre (partial_whole q.domains pre p) h k
      opens_hold (d ∷ rest) pre p h k =
          let next = partial_next q.domains pre d rest p in
          go (skip pre h) refl
          (variable_holds pre d (λ v g. opens q ps skip rest (pre ++ (v ∷ [])) g) next.0 next.1
          (λ v l g. opens_hold rest (pre ++ (v ∷ [])) (partial_more q.domains pre d rest v l p) g) h k)
        where
          go : (b : Bool) → skip pre h ≡ b → After pre (tries d 0 (λ v g. opens q ps skip rest (pre ++ (v ∷ [])) g) h)
              → After pre (pick b h (tries d 0 (λ v g. opens q ps skip rest (pre ++ (v ∷ [])) g) h))
          go true e r = skip_holds pre h (sound pre h e k) k
          go false e r = r

      pub search_holds : After [] (opens q ps skip q.domains [] nothing)
      search_holds = opens_hold q.domains [] refl nothing (λ r s. start q.domains r.choice s.1)

  -- the end of a pass: all that is left has been seen
  seen_all : (r : Point) → Left r → Seen Left (Through q.domains []) r
  seen_all r u = (u, inr (u.0.complete, tt))

  pub pass_none : Prefix (CoreReached q) ps → After [] nothing → ps ≡ core_frontier q
  pass_none f k = none_left q ps f (λ r u. k r (seen_all r u))

  pub pass_some : (x : Point) → Prefix (CoreReached q) ps → After [] (just x) → Prefix (CoreReached q) (ps ++ (x ∷ []))
  pass_some x f k = next_point q ps f x (record { inside = k.inside.0; least = λ r u. k.least r (seen_all r u) })

-- a rule to leave branches unopened is sound, if what it leaves is hopeless
abbrev pub Sound : (q : Problem) → (List Point → List ℕ → Held → Bool) → Type 0
Sound q skip =
    (ps : List Point) → Prefix (CoreReached q) ps → (pre : List ℕ) (h : Held) → skip ps pre h ≡ true → Before q ps pre h
    → Hopeless q ps pre h

module _ (q : Problem) (skip : List Point → List ℕ → Held → Bool) where
  module _ (sound : Sound q skip) where
    pub pass_holds : (ps : List Point) → Prefix (CoreReached q) ps → After q ps [] (pass q skip ps)
    pass_holds ps f = search_holds q ps (skip ps) (sound ps f)

    done_solved : (room : ℕ) (ps : List Point) → Prefix (CoreReached q) ps → length ps ≤ room → After q ps [] nothing
        → done ps ≡ solved q room
    unfolding solved
    done_solved room ps f c k =
        let e : ps ≡ core_frontier q = pass_none q ps f k in
        rw (← e) (rw (le-leb (length ps) room c) refl)

    full_solved : (room : ℕ) (ps : List Point) → Prefix (CoreReached q) ps → room < length ps → full ≡ solved q room
    unfolding solved
    full_solved room ps f c = rw (lt-leb (length (core_frontier q)) room (omega (arith, found_count q ps f))) refl

    passes_solve : (n room : ℕ) (ps : List Point) → Prefix (CoreReached q) ps → n + length ps ≡ room
        → passes n q skip ps ≡ solved q room
    unfolding passes
    passes_solve zero room ps f c = go (pass q skip ps) refl (pass_holds ps f)
      where
        go : (h : Held) → pass q skip ps ≡ h → After q ps [] h → passes zero q skip ps ≡ solved q room
        go nothing e k = rw (e, passes) (done_solved room ps f (omega arith) k)
        go (just x) e k =
            rw (e, passes)
            (full_solved room (ps ++ (x ∷ [])) (pass_some q ps x f k) (omega (arith, length-append ps (x ∷ []))))
    passes_solve (suc n) room ps f c =
        go (pass q skip ps) refl (pass_holds ps f)
        (λ x k. passes_solve n room (ps ++ (x ∷ [])) (pass_some q ps x f k) (omega (arith, length-append ps (x ∷ []))))
      where
        go : (h : Held) → pass q skip ps ≡ h → After q ps [] h
            → ((x : Point) → After q ps [] (just x) → passes n q skip (ps ++ (x ∷ [])) ≡ solved q room)
            → passes (suc n) q skip ps ≡ solved q room
        go nothing e k r = rw (e, passes) (done_solved room ps f (omega arith) k)
        go (just x) e k r = rw (e, passes) (r x k)

    -- a sound rule changes nothing: with room for any number of points, the frontier or the finding that it is longer
    pub search_right : (room : ℕ) → passes room q skip [] ≡ solved q room
    search_right room = passes_solve room room [] (prefix_none (CoreReached q)) (omega arith)
