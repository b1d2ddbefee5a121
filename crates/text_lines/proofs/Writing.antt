-- Forms that are written part after part: what is underway, and when it is done.
use mathlib.Core.Path.{◌≡◌, refl, sym, ◌∙◌, ap}
use mathlib.Core.List.{List, [], ◌∷◌, ◌++◌, append_assoc}
use Prim.Native.Nat.{ℕ, ◌+◌, ◌≤◌, ◌<◌}
use native.Mathlib.Numerals.{add-one}
use native.Mathlib.Omega.{arith}
use lib.ListN.{length, take, drop, set, length-append, length-drop, length-set, take-append-drop}
use lib.Seq.{length-take-le, take_at, drop-drop, drop_at, set_split}
use Rattle.model.specs.Limits.{word_end}
use Rattle.text_lines.specs.Written.{Written}

-- nothing to write
pub written_none : (at : ℕ) (out : List ℕ) → Written at [] out out at
written_none at out =
    record {
      next = omega arith;
      kept = refl;
      there = λ h. sym (take-append-drop at out);
    }

-- nothing is written where the form does not fit
pub unwritten : {at behind : ℕ} {form : List ℕ} (out : List ℕ) → behind ≡ at + length form → length out < behind
    → Written at form out out behind
unwritten out e h = record { next = e; kept = refl; there = λ l. absurd (omega arith) }

-- a form is written, so an equal one is
pub written_as : {at behind : ℕ} {form same out out' : List ℕ} → form ≡ same → Written at form out out' behind
    → Written at same out out' behind
written_as e w = rw e at w

-- a form that stands between what stood there
pub written_between : (at behind : ℕ) (form out out' : List ℕ) → behind ≡ at + length form → behind ≤ length out
    → out' ≡ take at out ++ (form ++ drop behind out) → Written at form out out' behind
written_between at behind form out out' e h w =
    let parts = length-append (take at out) (form ++ drop behind out) in
    let front = length-take-le at out (omega arith) in
    let long : length (take at out ++ (form ++ drop behind out)) ≡ length out =
    omega (arith, parts, front, length-append form (drop behind out), length-drop behind out) in
    record { next = e; kept = ap length w ∙ long; there = λ l. w }

-- a byte
pub byte_written : (at b : ℕ) (out : List ℕ) → at < length out → Written at (b ∷ []) out (set out at b) (at + 1)
byte_written at b out h =
    record {
      next = refl;
      kept = length-set out at b;
      there = λ l. rw add-one (set_split out at b h);
    }

-- one form behind another
pub written_then : {at m n : ℕ} {f g a b c : List ℕ} → Written at f a b m → Written m g b c n
    → Written at (f ++ g) a c n
written_then {at} {m} {n} {f} {g} {a} {b} {c} x y =
    let long = length-append f g in
    record {
      next = omega (arith, long, x.next, y.next);
      kept = y.kept ∙ x.kept;
      there = λ h.
          let fits : m ≤ length a = omega (arith, y.next) in
          let first : b ≡ take at a ++ (f ++ drop m a) = x.there fits in
          let second : c ≡ take m b ++ (g ++ drop n b) = y.there (omega (arith, x.kept)) in
          let front : length (take at a ++ f) ≡ m =
          length-append (take at a) f ∙ omega (arith, length-take-le at a (omega (arith, x.next)), x.next) in
          let whole : b ≡ (take at a ++ f) ++ drop m a = first ∙ sym (append_assoc (take at a) f (drop m a)) in
          let before : take m b ≡ take at a ++ f = ap (take m) whole ∙ take_at (take at a ++ f) (drop m a) m front in
          let after : drop m b ≡ drop m a = ap (drop m) whole ∙ drop_at (take at a ++ f) (drop m a) m front in
          let more : n ≡ m + length g = y.next in
          let behind : drop n b ≡ drop n a =
          rw more (sym (drop-drop (length g) m b) ∙ ap (drop (length g)) after ∙ drop-drop (length g) m a) in
          second ∙ rw (before, behind, append_assoc, append_assoc) refl;
    }

-- Underway: what is left of a form will complete it.
pub record Underway (at : ℕ) (form out left now : List ℕ) (place : ℕ) : Type 0 where
  pub rest : (out' : List ℕ) (behind : ℕ) → Written place left now out' behind → Written at form out out' behind
  pub placed : place + length left ≤ word_end
  pub kept : length now ≡ length out

pub begin : {at : ℕ} {form : List ℕ} (out : List ℕ) → at + length form ≤ word_end → Underway at form out form out at
begin out h = record { rest = λ o b w. w; placed = h; kept = refl }

-- at the buffer's start
pub begin_first : {form : List ℕ} (out : List ℕ) → length form ≤ word_end → Underway 0 form out form out 0
begin_first out h = begin out (omega arith)

-- what is left starts with a part
pub record Split (left part behind : List ℕ) : Type 0 where
  pub parts : left ≡ part ++ behind

pub split_in : (part behind : List ℕ) → Split (part ++ behind) part behind
split_in part behind = record { parts = refl }

-- the part that is due has its place
pub due : {at place : ℕ} {form out left part behind now : List ℕ} → Split left part behind
    → Underway at form out left now place → place + length part ≤ word_end
due {part = part} {behind = behind} p u =
    omega (arith, u.placed, ap length p.parts, length-append part behind)

-- it is written, and the others are left
pub go_on : {at place m : ℕ} {form out left part behind now now' : List ℕ} → Split left part behind
    → Underway at form out left now place → Written place part now now' m → Underway at form out behind now' m
go_on {left = left} {part = part} {behind = behind} p u w =
    record {
      rest = λ o b v. u.rest o b (rw p.parts (written_then w v));
      placed = omega (arith, u.placed, w.next, ap length p.parts, length-append part behind);
      kept = w.kept ∙ u.kept;
    }

-- nothing is left; and the last part
pub done : {at place : ℕ} {form out now : List ℕ} → Underway at form out [] now place → Written at form out now place
done {place = place} {now = now} u = u.rest now place (written_none place now)

pub last : {at place m : ℕ} {form out part now now' : List ℕ} → Underway at form out part now place
    → Written place part now now' m → Written at form out now' m
last {m = m} {now' = now'} u w = u.rest now' m w
