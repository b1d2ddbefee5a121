-- Numbers of work memory that may have changed: none, one more, and one change after another. What a change of one row
-- keeps: the other rows, and all outside the list.
use mathlib.Core.Path.{◌≡◌, refl, sym, ◌∙◌}
use mathlib.Core.Logic.{◌⊎◌, inl, inr, ⊎_elim}
use mathlib.Core.List.{List}
use Prim.Native.Nat.{ℕ, ◌+◌, ◌*◌, ◌≤◌, ◌<◌}
use native.Mathlib.Omega.{arith}
use lib.ListN.{length, take, drop, set, length-set, length-drop}
use lib.Seq.{ext_get_or, get_or-take, get_or-drop, get_or-set_other, length-take-le}
use Rattle.model.specs.Limits.{max_objectives, max_variables, max_points}
use Rattle.model.proofs.Numbers.{one_first}
use Rattle.layout.specs.Layout.{list_at, list_end, row_width}
use Rattle.rows.specs.Rows.{row_at, row_in, Changed, Framed}
use Rattle.rows.proofs.RowNumbers.{equal_points}

pub changed_none : (at size : ℕ) (work : List ℕ) → Changed at size work work
changed_none at size work = record { long = refl; others = λ j o. refl }

module _ {at size : ℕ} {work work' : List ℕ} (u : Changed at size work work') where
  pub changed_set : (j x : ℕ) → at ≤ j → j < at + size → Changed at size work (set work' j x)
  changed_set j x low high =
      record {
        long = length-set work' j x ∙ u.long;
        others = λ k o. get_or-set_other work' j k x 0 (apart k o) ∙ u.others k o;
      }
    where
      apart : (k : ℕ) → (k < at) ⊎ (at + size ≤ k) → k ≡ j → ⊥
      apart k (inl l) e = omega arith
      apart k (inr l) e = omega arith

  -- the same of more places
  pub changed_wider : (from n : ℕ) → from ≤ at → at + size ≤ from + n → Changed from n work work'
  changed_wider from n low high =
      record {
        long = u.long;
        others = λ j o. u.others j (⊎_elim (λ l. inl (omega arith)) (λ l. inr (omega arith)) o);
      }

  pub changed_then : (work'' : List ℕ) → Changed at size work' work'' → Changed at size work work''
  changed_then work'' v = record { long = v.long ∙ u.long; others = λ j o. v.others j o ∙ u.others j o }

-- only numbers of the list have changed
pub changed_framed : {work work' : List ℕ} → Changed list_at (row_width * (max_points + 1)) work work'
    → list_end ≤ length work → Framed work work'
changed_framed {work} {work'} u long =
    record {
      long = u.long;
      before = ext_get_or 0 (take list_at work') (take list_at work) (wide' ∙ sym wide) (λ j h.
          let below : j < list_at = omega (arith, wide') in
          rw (get_or-take list_at work' j 0 below, get_or-take list_at work j 0 below) (u.others j (inl below)));
      behind = ext_get_or 0 (drop list_end work') (drop list_end work)
          (rw (length-drop list_end work', length-drop list_end work, u.long))
          (λ j h.
          rw (get_or-drop list_end work' j 0, get_or-drop list_end work j 0)
          (u.others (list_end + j) (inr (omega arith))));
    }
  where
    wide : length (take list_at work) ≡ list_at
    wide = length-take-le list_at work (omega arith)

    wide' : length (take list_at work') ≡ list_at
    wide' = length-take-le list_at work' (omega (arith, u.long))

-- only numbers of row k have changed
module _ {k : ℕ} {work work' : List ℕ} (u : Changed (row_at k) row_width work work') where
  pub changed_row : k ≤ max_points → list_end ≤ length work → Framed work work'
  changed_row few long =
      changed_framed (changed_wider u list_at (row_width * (max_points + 1)) (omega arith) (omega arith)) long

  pub changed_others : (j : ℕ) → (j ≡ k → ⊥) → row_in work' j ≡ row_in work j
  changed_others j apart =
      equal_points work' work j j row_width
      (λ m l. u.others (row_at j + m) (⊎_elim (λ h. inl (omega arith)) (λ h. inr (omega arith)) (one_first j k apart)))
      max_objectives max_variables (omega arith) (omega arith)
