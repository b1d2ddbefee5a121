-- The gains in work memory, row by row: all none, one more found, and what they are good for.
use mathlib.Core.Path.{◌≡◌, refl, sym, ap, ◌∙◌}
use mathlib.Core.Logic.{◌⊎◌, inl, inr}
use mathlib.Core.Bool.{true, false}
use mathlib.Core.List.{List}
use Prim.Native.Nat.{ℕ, ◌+◌, ◌-◌, ◌*◌, ◌≤◌, ◌<◌}
use native.Mathlib.Omega.{arith}
use native.Mathlib.Nat.{add_assoc}
use lib.Dec.{eqb}
use lib.ListN.{length, get_or, drop, set, replicate, length-drop, get_or-replicate}
use lib.Seq.{length-take-le, get_or-take, get_or-drop, get_or-set_same, get_or-set_other, ext_get_or}
use borrow.Author.Tests.{eqb-true, eqb-false}
use Rattle.model.specs.Limits.{max_objectives, max_variables}
use Rattle.model.specs.Problems.{Problem}
use Rattle.model.specs.Suffixes.{Gain, Gains}
use Rattle.model.proofs.Bits.{test}
use Rattle.model.proofs.Suffixes.{gain_none}
use Rattle.layout.specs.Layout.{gains_at, source_at, search_end}
use Rattle.groups.proofs.Overwritten.{over, over_length, over_behind, over_here}
use Rattle.pass_search.specs.States.{gains_in}
use Rattle.pass_suffixes.specs.Gained.{gain_in, FoundFrom, Left}

-- 25 rows of four
abbrev pub gains_count : ℕ
gains_count = source_at - gains_at

-- a row has one number for each objective
pub row_at : (p : ℕ) (work : List ℕ) (j i : ℕ) → i < p → get_or (gains_in p work j) i 0 ≡ gain_in work j i
row_at p work j i l = get_or-take p (drop (gains_at + 4 * j) work) i 0 l ∙ get_or-drop (gains_at + 4 * j) work i 0

pub row_width_lem : (p : ℕ) (work : List ℕ) (j : ℕ) → search_end ≤ length work → p ≤ max_objectives → j ≤ max_variables
    → length (gains_in p work j) ≡ p
row_width_lem p work j long few h =
    length-take-le p (drop (gains_at + 4 * j) work) (omega (arith, length-drop (gains_at + 4 * j) work))

gain_from : (work : List ℕ) (j i : ℕ) → gain_in work j i ≡ get_or (drop gains_at work) (4 * j + i) 0
gain_from work j i = rw (get_or-drop gains_at work (4 * j + i) 0, add_assoc gains_at (4 * j) i)

-- memory that is the same from the gains on has the same gains
pub found_same : {q : Problem} {o k : ℕ} (w v : List ℕ) → drop gains_at v ≡ drop gains_at w → FoundFrom q o k w
    → FoundFrom q o k v
found_same w v e u =
    let same : (j i : ℕ) → gain_in v j i ≡ gain_in w j i = λ j i.
    gain_from v j i ∙ ap (λ (l : List ℕ). get_or l (4 * j + i) 0) e ∙ sym (gain_from w j i) in
    record {
      sound = λ i j l h. rw (same j i) (u.sound i j l h);
      before = λ i j l h. same j i ∙ u.before i j l h;
      above = λ j h. same j _ ∙ u.above j h;
      last = λ i l. same _ i ∙ u.last i l;
    }

-- no gain is found: the rows are zeros
module _ (work : List ℕ) (long : source_at ≤ length work) where
  abbrev pub cleared : List ℕ
  cleared = over work gains_at (replicate gains_count 0) source_at

  zero_row : (j i : ℕ) → 4 * j + i < gains_count → gain_in cleared j i ≡ 0
  zero_row j i h =
      gain_from cleared j i
      ∙ sym (get_or-take gains_count (drop gains_at cleared) (4 * j + i) 0 h)
      ∙ ap (λ (l : List ℕ). get_or l (4 * j + i) 0)
      (over_here work gains_at (replicate gains_count 0) source_at refl long)
      ∙ get_or-replicate gains_count (4 * j + i) 0 0 h

  pub cleared_found : (q : Problem) → q.objectives ≤ max_objectives → length q.domains ≤ max_variables
      → FoundFrom q q.objectives 0 cleared
  cleared_found q few short =
      record {
        sound = λ i j l h. rw (zero_row j i (omega arith)) (gain_none q i j);
        before = λ i j l h. zero_row j i (omega arith);
        above = λ j h. zero_row j _ (omega arith);
        last = λ i l. zero_row _ i (omega arith);
      }

  pub cleared_left : Left work cleared
  cleared_left = (
    over_behind work gains_at (replicate gains_count 0) source_at refl long source_at (omega arith),
    over_length work gains_at (replicate gains_count 0) source_at refl long,
  )

-- the next objective: its gains are none
pub found_next : {q : Problem} {o k : ℕ} (work : List ℕ) (i : ℕ) → i < o → FoundFrom q o k work
    → FoundFrom q i (length q.domains) work
found_next work i l u =
    record {
      sound = u.sound;
      before = λ a j h. u.before a j (omega arith);
      above = λ j. u.before i j l;
      last = u.last;
    }

-- one more gain, of objective o and the variables from k on
module _ {q : Problem} {o k : ℕ} (work : List ℕ) (u : FoundFrom q o k work) (few : q.objectives ≤ max_objectives)
    (own : o < q.objectives) (more : k < length q.domains) (short : length q.domains ≤ max_variables)
    (long : search_end ≤ length work) (g : ℕ) where
  abbrev after : List ℕ
  after = set work (gains_at + 4 * k + o) g

  written_here : gain_in after k o ≡ g
  written_here = get_or-set_same work (gains_at + 4 * k + o) g 0 (omega arith)

  written_other : (j i : ℕ) → i < max_objectives → ((j ≡ k) × (i ≡ o) → ⊥) → gain_in after j i ≡ gain_in work j i
  written_other j i l n =
      get_or-set_other work (gains_at + 4 * k + o) (gains_at + 4 * j + i) g 0 (λ e. n (omega arith, omega arith))

  pub written_found : Gain q o k g → 1 ≤ k → FoundFrom q o (k - 1) after
  written_found gain low =
      record {
        sound = λ i j l h. go i j l h (test (eqb i o)) (test (eqb j k));
        before = λ i j l h. written_other j i (omega arith) (λ e. omega (arith, e.1)) ∙ u.before i j l h;
        above = λ j h. written_other j o (omega arith) (λ e. omega (arith, e.0)) ∙ u.above j (omega arith);
        last = λ i l. written_other (length q.domains) i l (λ e. omega (arith, e.0)) ∙ u.last i l;
      }
    where
      go : (i j : ℕ) → i < q.objectives → j ≤ length q.domains → (eqb i o ≡ true) ⊎ (eqb i o ≡ false)
          → (eqb j k ≡ true) ⊎ (eqb j k ≡ false) → Gain q i j (gain_in after j i)
      go i j l h (inl a) (inl b) = rw (eqb-true i o a, eqb-true j k b, written_here) gain
      go i j l h (inl a) (inr b) = rw (written_other j i (omega arith) (λ e. eqb-false j k b e.0)) (u.sound i j l h)
      go i j l h (inr a) b = rw (written_other j i (omega arith) (λ e. eqb-false i o a e.1)) (u.sound i j l h)

-- what they are good for: all are sound, and a complete choice has none
module _ {q : Problem} {o k : ℕ} (work : List ℕ) (short : length q.domains ≤ max_variables)
    (long : search_end ≤ length work) (u : FoundFrom q o k work) where
  pub found_gains : q.objectives ≤ max_objectives → Gains q (gains_in q.objectives work)
  found_gains few =
      record {
        width = λ j h. row_width_lem q.objectives work j long few (omega arith);
        sound = λ i j l h. rw (row_at q.objectives work j i l) (u.sound i j l h);
      }

  pub found_last : gains_in max_objectives work (length q.domains) ≡ replicate max_objectives 0
  found_last =
      let n = length q.domains in
      let wide : length (gains_in max_objectives work n) ≡ max_objectives =
      row_width_lem max_objectives work n long (omega arith) short in
      ext_get_or 0 (gains_in max_objectives work n) (replicate max_objectives 0) wide
      (λ i l. row_at max_objectives work n i (omega arith)
      ∙ u.last i (omega arith)
      ∙ sym (get_or-replicate max_objectives i 0 0 (omega arith)))
