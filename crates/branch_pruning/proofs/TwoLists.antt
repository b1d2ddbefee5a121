-- Two lists of candidates in one slice: each as it is lent, and the slice once both were lent and came back.
use mathlib.Core.Path.{◌≡◌, sym, ap, ◌∙◌, subst}
use mathlib.Core.List.{List, [], ◌++◌, append-nil}
use Prim.Native.Nat.{ℕ, ◌-◌}
use native.Mathlib.Omega.{arith}
use lib.ListN.{length, take, drop, length-drop}
use lib.Seq.{length-take-le, length_front, take_all, take_at, drop_at, drop-length}
use Rattle.branch_candidates.specs.Sifted.{list_width, Sifted}
use Rattle.branch_pruning.specs.Tests.{reach_width, zones_in, ties_in}

-- the second list, as it is lent
abbrev pub ties_lent : List ℕ → List ℕ
ties_lent reach = take (length reach - list_width) (drop list_width reach)

pub ties_lent_lem : (reach : List ℕ) → ties_lent reach ≡ ties_in reach
ties_lent_lem reach =
    take_all (length reach - list_width) (drop list_width reach) (omega (arith, length-drop list_width reach))

module _ (reach : List ℕ) (long : length reach ≡ reach_width) where
  pub zones_long : length (zones_in reach) ≡ list_width
  zones_long = length-take-le list_width reach (omega (arith, long))

-- the first list came back as z
abbrev pub zones_back : List ℕ → List ℕ → List ℕ
zones_back old z = z ++ drop list_width old

-- and then the second as t
abbrev pub both_back : List ℕ → List ℕ → List ℕ → List ℕ
both_back old z t =
    let l = zones_back old z in
    take list_width l ++ (t ++ drop (length l - list_width) (drop list_width l))

module _ (old : List ℕ) (long : length old ≡ reach_width) {m : ℕ} {out : ℕ → Type 0} {z : List ℕ}
    (one : Sifted m out z) where
  abbrev between : List ℕ
  between = zones_back old z

  between_long : length between ≡ reach_width
  between_long = length_front old z list_width (one.long ∙ sym (zones_long old long)) ∙ long

  -- the second is then lent
  pub ties_long : length (ties_lent (zones_back old z)) ≡ list_width
  ties_long = ap length (ties_lent_lem between) ∙ length-drop list_width between ∙ omega (arith, between_long)

  front : length (zones_in between) ≡ list_width
  front = zones_long between between_long

  nothing : drop (length between - list_width) (drop list_width between) ≡ []
  nothing =
      ap (λ (k : ℕ). drop k (drop list_width between)) (sym (length-drop list_width between))
      ∙ drop-length (drop list_width between)

  module _ {n : ℕ} {lost : ℕ → Type 0} {t : List ℕ} (two : Sifted n lost t) where
    pub zones_back_lem : Sifted m out (zones_in (both_back old z t))
    zones_back_lem =
        subst (Sifted m out)
        (sym (take_at (zones_in between) _ list_width front ∙ take_at z (drop list_width old) list_width one.long)) one

    pub ties_back : Sifted n lost (ties_in (both_back old z t))
    ties_back =
        subst (Sifted n lost)
        (sym (drop_at (zones_in between) _ list_width front ∙ ap (λ (r : List ℕ). t ++ r) nothing ∙ append-nil t)) two
