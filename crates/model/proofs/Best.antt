-- The best points of a pool P : Point → Type: unbeaten, each once, in rising order, each with its earliest choice.
use mathlib.Core.Path.{◌≡◌, sym, ◌∙◌, subst}
use mathlib.Core.List.{List, Memᴰ as In}
use Prim.Native.Nat.{ℕ, ◌≤◌}
use lib.ListN.{length}
use Rattle.model.specs.Frontiers.{Point}
use Rattle.model.proofs.Vectors.{AtMost, NotLater, at_most_trans, at_most_antisym, not_later_trans}
use Rattle.model.proofs.Vectors.{not_later_antisym}
use Rattle.model.proofs.Points.{point_eq, Rising, Within, rising_count, rising_unique}

abbrev pub Pool : Type 1
Pool = Point → Type 0

-- some of the best points
pub record Listed (P : Pool) (ps : List Point) : Type 0 where
  pub sound : (p : Point) → In p ps → P p
  pub unbeaten : (p r : Point) → In p ps → P r → AtMost r.costs p.costs → r.costs ≡ p.costs
  pub order : Rising ps
  pub earliest : (p r : Point) → In p ps → P r → r.costs ≡ p.costs → NotLater p.choice r.choice

-- a list that has a point at most as large in each objective
abbrev pub Matched : List Point → Point → Type 0
Matched ps r = (p : Point) × In p ps × AtMost p.costs r.costs

-- all of them
pub record Best (P : Pool) (ps : List Point) : Type 0 where
  pub listed : Listed P ps
  pub matched : (r : Point) → P r → Matched ps r

-- a listed point stands in every list of all
pub listed_in : (P : Pool) (ps fs : List Point) → Listed P ps → Best P fs → Within ps fs
listed_in P ps fs l b p m =
    let (f, n, h) = b.matched p (l.sound p m) in
    let e : f.costs ≡ p.costs = l.unbeaten p f m (b.listed.sound f n) h in
    let c : p.choice ≡ f.choice = not_later_antisym p.choice f.choice
    (l.earliest p f m (b.listed.sound f n) e) (b.listed.earliest f p n (l.sound p m) (sym e)) in
    rw (point_eq (sym e) c) n

pub listed_count : (P : Pool) (ps fs : List Point) → Listed P ps → Best P fs → length ps ≤ length fs
listed_count P ps fs l b = rising_count fs ps b.listed.order l.order (listed_in P ps fs l b)

pub best_unique : (P : Pool) (ps fs : List Point) → Best P ps → Best P fs → ps ≡ fs
best_unique P ps fs a b =
    rising_unique ps fs a.listed.order b.listed.order (listed_in P ps fs a.listed b)
    (listed_in P fs ps b.listed a)

-- r does as well as p: matches its costs, and at equal costs its choice is not later
abbrev pub AsGood : Point → Point → Type 0
AsGood r p = AtMost r.costs p.costs × (r.costs ≡ p.costs → NotLater r.choice p.choice)

-- a part P of a pool Q that has a point as good as any of Q has the same best points
pub best_cover : (n : ℕ) (P Q : Pool) (ps : List Point) → ((p : Point) → Q p → length p.costs ≡ n)
    → ((p : Point) → P p → Q p) → ((p : Point) → Q p → (r : Point) × P r × AsGood r p) → Best P ps → Best Q ps
best_cover n P Q ps wide part cover b = record {
  listed = record { sound = sound; unbeaten = unbeaten; order = b.listed.order; earliest = earliest };
  matched = matched;
}
  where
    sound : (p : Point) → In p ps → Q p
    sound p m = part p (b.listed.sound p m)

    long : (p : Point) → P p → length p.costs ≡ n
    long p h = wide p (part p h)

    unbeaten : (p r : Point) → In p ps → Q r → AtMost r.costs p.costs → r.costs ≡ p.costs
    unbeaten p r m h k =
        let (s, t, g) = cover r h in
        let e : s.costs ≡ p.costs = b.listed.unbeaten p s m t
        (at_most_trans s.costs r.costs p.costs (long s t ∙ sym (wide r h)) g.0 k) in
        at_most_antisym r.costs p.costs (wide r h ∙ sym (wide p (sound p m))) k
        (subst (λ (v : List ℕ). AtMost v r.costs) e g.0)

    earliest : (p r : Point) → In p ps → Q r → r.costs ≡ p.costs → NotLater p.choice r.choice
    earliest p r m h e =
        let (s, t, g) = cover r h in
        let d : s.costs ≡ p.costs = b.listed.unbeaten p s m t (subst (AtMost s.costs) e g.0) in
        not_later_trans p.choice s.choice r.choice (b.listed.earliest p s m t d) (g.1 (d ∙ sym e))

    matched : (r : Point) → Q r → Matched ps r
    matched r h =
        let (s, t, g) = cover r h in
        let (p, m, k) = b.matched s t in
        (p, m, at_most_trans p.costs s.costs r.costs (long p (b.listed.sound p m) ∙ sym (long s t)) k g.0)

-- every point of the pool has one as good on the list
pub best_good : (P : Pool) (ps : List Point) → Best P ps → (r : Point) → P r → (p : Point) × In p ps × AsGood p r
best_good P ps b r h =
    let (p, m, a) = b.matched r h in
    (p, m, (a, λ e. b.listed.earliest p r m h (sym e)))
