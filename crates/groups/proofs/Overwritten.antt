-- A list with others' elements g written over its own from a place on, up to `end`.
use mathlib.Core.Path.{◌≡◌, refl, sym, ap, ◌∙◌}
use mathlib.Core.List.{List, [], ◌∷◌, ◌++◌, append_assoc, append-nil}
use Prim.Native.Nat.{ℕ, suc, ◌+◌, ◌-◌, ◌≤◌, ◌<◌}
use native.Mathlib.Omega.{arith}
use native.Mathlib.Numerals.{add-one}
use lib.ListN.{length, get_or, take, drop, set, length-append, length-drop, take-append-drop}
use lib.Seq.{length-take-le, take-append-le, take-append_seam, drop-append-add, drop_at, drop-cons, drop-drop, set_at}
use lib.Seq.{append_snoc, take-take, get_or-take}
use Rattle.model.proofs.Lists.{take_drop}

abbrev pub over : List ℕ → ℕ → List ℕ → ℕ → List ℕ
over w from g end = take from w ++ g ++ drop end w

-- nothing is written yet
pub over_none : (w : List ℕ) (from : ℕ) → w ≡ over w from [] from
over_none w from = rw append-nil (sym (take-append-drop from w))

module _ (w : List ℕ) (from : ℕ) (g : List ℕ) (end : ℕ) (is : end ≡ from + length g) (inside : end ≤ length w) where
  front_length : length (take from w ++ g) ≡ end
  front_length = omega (arith, length-append (take from w) g, length-take-le from w (omega arith))

  pub over_length : length (over w from g end) ≡ length w
  over_length = omega (arith, length-append (take from w ++ g) (drop end w), front_length, length-drop end w)

  -- what stands behind is kept
  pub over_behind : (k : ℕ) → end ≤ k → drop k (over w from g end) ≡ drop k w
  over_behind k h =
      let e : length (take from w ++ g) + (k - end) ≡ k = omega (arith, front_length) in
      let f : end + (k - end) ≡ k = omega arith in
      (rw e at (drop-append-add (take from w ++ g) (drop end w) (k - end))) ∙ (rw f at (drop-drop (k - end) end w))

  -- and what stands before
  pub over_front : (k : ℕ) → k ≤ from → take k (over w from g end) ≡ take k w
  over_front k h =
      take-append-le k (take from w ++ g) (drop end w) (omega (arith, front_length))
      ∙ take-append-le k (take from w) g (omega (arith, length-take-le from w (omega arith)))
      ∙ take-take k from w h

  pub over_before : (k : ℕ) → k < from → get_or (over w from g end) k 0 ≡ get_or w k 0
  over_before k h =
      sym (get_or-take from (over w from g end) k 0 h) ∙ rw (over_front from (omega arith)) (get_or-take from w k 0 h)

  pub over_part : (k a : ℕ) → a + k ≤ from → take k (drop a (over w from g end)) ≡ take k (drop a w)
  over_part k a h = take_drop k a (over w from g end) ∙ ap (drop a) (over_front (a + k) h) ∙ sym (take_drop k a w)

  -- what is written is there
  pub over_here : take (length g) (drop from (over w from g end)) ≡ g
  over_here =
      rw (append_assoc (take from w) g (drop end w))
      (ap (take (length g)) (drop_at (take from w) (g ++ drop end w) from (length-take-le from w (omega arith)))
      ∙ take-append_seam g (drop end w))

  -- one element more
  pub over_next : end < length w → (x : ℕ) → set (over w from g end) end x ≡ over w from (g ++ x ∷ []) (end + 1)
  over_next h x =
      ap (λ (l : List ℕ). set (take from w ++ g ++ l) end x) (drop-cons w end 0 h)
      ∙ set_at (take from w ++ g) (get_or w end 0) (drop (suc end) w) x end front_length
      ∙ sym (append_snoc (take from w ++ g) x (drop (suc end) w))
      ∙ rw (add-one, append_assoc (take from w) g (x ∷ [])) refl
