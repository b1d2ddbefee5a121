-- Demand 3 with the sides exchanged: numbers 13 and 14 stay, and the list is the same.
use mathlib.Core.Path.{◌≡◌, refl, ap, ◌∙◌, subst, ap₂}
use mathlib.Core.Logic.{⊎_elim}
use mathlib.Core.Bool.{Bool, true, false, ◌&&◌, ◌||◌, not}
use mathlib.Core.List.{List, [], ◌∷◌}
use Prim.Native.Nat.{ℕ, zero, suc, ◌-◌, ◌≤◌, ◌<◌}
use native.Mathlib.Omega.{arith}
use lib.Dec.{eqb, leb}
use lib.ListN.{length, get_or, drop}
use Rattle.model.specs.Basics.{pick}
use Rattle.model.specs.Refusals.{linked, verdict}
use Rattle.model.specs.Problems.{Table, Problem, InRange, AllInRange}
use Rattle.model.specs.Frontiers.{frontier}
use Rattle.model.specs.Cuts.{all_sides, sides_ok, has_side, crosses, linked_verdict, uncrossed, cut_list, other_side}
use Rattle.model.specs.Cuts.{exchanged}
use Rattle.model.proofs.Sides.{side_cases, sides_tail}
use Rattle.model.proofs.Cut.{cut_frontier, sides_long, sides_all}

-- number 13 stays
exchanged_length : (ss : List ℕ) → length (exchanged ss) ≡ length ss
unfolding exchanged
exchanged_length [] = refl
exchanged_length (s ∷ ss) = ap suc (exchanged_length ss)

exchanged_sides : (ss : List ℕ) → all_sides (exchanged ss) ≡ all_sides ss
unfolding exchanged other_side all_sides
exchanged_sides [] = refl
exchanged_sides (zero ∷ ss) = exchanged_sides ss
exchanged_sides (suc zero ∷ ss) = exchanged_sides ss
exchanged_sides (suc (suc s) ∷ ss) = ap (◌&&◌ (leb (suc (suc s)) 1)) (exchanged_sides ss)

pub exchanged_ok : (q : Problem) (ss : List ℕ) → sides_ok q (exchanged ss) ≡ sides_ok q ss
unfolding sides_ok
exchanged_ok q ss = ap₂ ◌&&◌ (ap (λ (n : ℕ). eqb n (length q.domains)) (exchanged_length ss)) (exchanged_sides ss)

-- a variable in range has side k after the exchange exactly if it had the other side before
exchanged_at : (k : ℕ) → k ≤ 1 → (ss : List ℕ) → all_sides ss ≡ true → (v : ℕ) → v < length ss
    → eqb (get_or (exchanged ss) v 0) k ≡ eqb (get_or ss v 0) (1 - k)
unfolding exchanged other_side
exchanged_at k h [] a v m = absurd (omega arith)
exchanged_at zero h (zero ∷ ss) a zero m = refl
exchanged_at (suc zero) h (zero ∷ ss) a zero m = refl
exchanged_at (suc (suc k)) h (zero ∷ ss) a zero m = absurd (omega arith)
exchanged_at zero h (suc zero ∷ ss) a zero m = refl
exchanged_at (suc zero) h (suc zero ∷ ss) a zero m = refl
exchanged_at (suc (suc k)) h (suc zero ∷ ss) a zero m = absurd (omega arith)
exchanged_at k h (suc (suc s) ∷ ss) a zero m =
    absurd (⊎_elim (λ e. omega arith) (λ e. omega arith) (side_cases (suc (suc s)) ss a))
exchanged_at k h (s ∷ ss) a (suc v) m = exchanged_at k h ss (sides_tail s ss a) v (omega arith)

exchanged_has : (k : ℕ) → k ≤ 1 → (ss : List ℕ) → all_sides ss ≡ true → (vs : List ℕ) → InRange (length ss) vs
    → has_side k (exchanged ss) vs ≡ has_side (1 - k) ss vs
unfolding has_side
exchanged_has k h ss a [] r = refl
exchanged_has k h ss a (v ∷ vs) r = ap₂ ◌||◌ (exchanged_at k h ss a v r.0) (exchanged_has k h ss a vs r.1)

and_swap : (a b : Bool) → (a && b) ≡ (b && a)
and_swap true true = refl
and_swap true false = refl
and_swap false true = refl
and_swap false false = refl

exchanged_crosses : (ss : List ℕ) → all_sides ss ≡ true → (t : Table) → InRange (length ss) t.scope
    → crosses (exchanged ss) t ≡ crosses ss t
unfolding crosses
exchanged_crosses ss a t r =
    ap₂ ◌&&◌ (exchanged_has 0 (omega arith) ss a t.scope r) (exchanged_has 1 (omega arith) ss a t.scope r)
    ∙ and_swap (has_side 1 ss t.scope) (has_side 0 ss t.scope)

-- number 14 stays, with its place
pub exchanged_linked : (ss : List ℕ) → all_sides ss ≡ true → (ts : List Table) (ps : List ℕ) → AllInRange (length ss) ts
    → linked_verdict (exchanged ss) ts ps ≡ linked_verdict ss ts ps
unfolding linked_verdict
exchanged_linked ss a [] ps r = refl
exchanged_linked ss a (t ∷ ts) ps r =
    ap₂ (λ b v. pick b (verdict linked (get_or ps 0 0)) v) (exchanged_crosses ss a t r.0)
    (exchanged_linked ss a ts (drop 1 ps) r.1)

exchanged_free : (ss : List ℕ) → all_sides ss ≡ true → (ts : List Table) → AllInRange (length ss) ts
    → uncrossed (exchanged ss) ts ≡ uncrossed ss ts
unfolding uncrossed
exchanged_free ss a [] r = refl
exchanged_free ss a (t ∷ ts) r =
    ap₂ (λ b c. not b && c) (exchanged_crosses ss a t r.0) (exchanged_free ss a ts r.1)

pub cut_exchanged : (q : Problem) (ss : List ℕ) → AllInRange (length q.domains) q.tables → sides_ok q ss ≡ true
    → uncrossed ss q.tables ≡ true → cut_list q (exchanged ss) ≡ frontier q
cut_exchanged q ss r s h =
    let range : AllInRange (length ss) q.tables = subst (λ (n : ℕ). AllInRange n q.tables) (sides_long q ss s)
    r in
    cut_frontier q (exchanged ss) (exchanged_ok q ss ∙ s) (exchanged_free ss (sides_all q ss s) q.tables range ∙ h)
