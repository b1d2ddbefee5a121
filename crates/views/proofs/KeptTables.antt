-- Which tables are wanted: those of the problem of the last variables in one objective, and those of a view.
use mathlib.Core.Path.{◌≡◌, refl, ap, fun_ext}
use mathlib.Core.Bool.{Bool, true, false, ◌&&◌}
use mathlib.Core.List.{List, [], ◌∷◌}
use Prim.Native.Nat.{ℕ, ◌+◌, ◌≤◌, ◌<◌}
use native.Mathlib.Omega.{arith}
use lib.Dec.{eqb, leb, ltb}
use lib.ListN.{length}
use borrow.Author.Tests.{eq-eqb, ne_eqb, leb-true, leb-false, ltb-true, ltb-false, le-leb, lt-ltb}
use Rattle.model.specs.Basics.{All}
use Rattle.model.specs.Limits.{max_objectives}
use Rattle.model.specs.Problems.{Table, Problem}
use Rattle.model.specs.Views.{within, kept}
use Rattle.model.specs.Suffixes.{suffix_sides, in_suffix, suffix_of}
use Rattle.model.proofs.Elements.{all_map}
use Rattle.views.specs.Wanted.{wanted_table}
use Rattle.views.specs.declared.Part as DP

-- one objective
only_one : (x o : ℕ) (b : Bool) → (leb o x && (ltb x (o + 1) && b)) ≡ (eqb x o && b)
only_one x o b = below (leb o x) refl
  where
    above : (c : Bool) → ltb x (o + 1) ≡ c → o ≤ x → (c && b) ≡ (eqb x o && b)
    above true e h = rw (eq-eqb x o (omega (arith, ltb-true x (o + 1) e)))
    above false e h = rw (ne_eqb x o (λ k. omega (arith, ltb-false x (o + 1) e)))

    below : (c : Bool) → leb o x ≡ c → (c && (ltb x (o + 1) && b)) ≡ (eqb x o && b)
    below true e = above (ltb x (o + 1)) refl (leb-true o x e)
    below false e = rw (ne_eqb x o (λ k. omega (arith, leb-false o x e)))

-- the records of objective o on side 1
abbrev pub suffix_part : ℕ → DP.Part
suffix_part o = record { side = 1; low = o; high = o + 1 }

pub wanted_suffix : (q : Problem) (o k : ℕ)
    → kept (wanted_table (suffix_part o) (suffix_sides (length q.domains) k)) q.tables ≡ (suffix_of q o k).tables
unfolding suffix_of
wanted_suffix q o k =
    ap (λ (f : Table → Bool). kept f q.tables)
    (fun_ext (λ t. only_one t.objective o (in_suffix (length q.domains) k t)))

-- tests that agree on the tables keep the same
kept_same : (f g : Table → Bool) (ts : List Table) → All (λ t. f t ≡ g t) ts → kept f ts ≡ kept g ts
unfolding kept
kept_same f g [] h = refl
kept_same f g (t ∷ ts) h = rw (h.0, kept_same f g ts h.1)

-- all records on a side
abbrev pub side_part : ℕ → DP.Part
side_part k = record { side = k; low = 0; high = max_objectives }

pub wanted_view : (k : ℕ) (ss : List ℕ) (ts : List Table) → All (λ t. t.objective < max_objectives) ts
    → kept (wanted_table (side_part k) ss) ts ≡ kept (λ t. within k ss t.scope) ts
wanted_view k ss ts h =
    kept_same (wanted_table (side_part k) ss) (λ t. within k ss t.scope) ts
    (all_map (λ t. t.objective < max_objectives) (λ t. wanted_table (side_part k) ss t ≡ within k ss t.scope)
    (λ t l. rw (le-leb 0 t.objective (omega arith), lt-ltb t.objective max_objectives l)) ts h)
