-- A part that is written over a form, and an entry over a table's costs.
use mathlib.Core.Path.{◌≡◌, refl, ap, sym, ◌∙◌}
use mathlib.Core.List.{List, [], ◌∷◌, ◌++◌, append_assoc}
use Prim.Native.Nat.{ℕ, zero, suc, ◌+◌, ◌*◌, ◌≤◌, ◌<◌}
use native.Mathlib.Omega.{arith}
use lib.ListN.{length, take, drop, set, length-append, length-drop}
use lib.Seq.{length-take-le, take-append-add, drop-append-add, take-append-le, drop-append-le}
use Rattle.model.specs.Encoding.{two_bytes, four_bytes, word_bytes}
use Rattle.model.proofs.Words.{length_word_bytes}
use Rattle.text_lines.specs.Written.{Written}

-- ## a part of a form

changed : ℕ → List ℕ → List ℕ → List ℕ
changed k part form = take k form ++ (part ++ drop (k + length part) form)

changed_length : (k : ℕ) (part form : List ℕ) → k + length part ≤ length form
    → length (changed k part form) ≡ length form
unfolding changed
changed_length k part form h =
    let rest = drop (k + length part) form in
    omega (
      arith,
      length-append (take k form) (part ++ rest),
      length-append part rest,
      length-take-le k form (omega arith),
      length-drop (k + length part) form,
    )

part_over : (to behind k m : ℕ) (form part old now now' : List ℕ) → k + length part ≤ length form
    → Written to form old now behind → Written (to + k) part now now' m
    → Written to (changed k part form) old now' behind
unfolding changed
part_over to behind k m form part old now now' inside w v =
    let long = changed_length k part form inside in
    record {
      next = omega (arith, w.next, long);
      kept = v.kept ∙ w.kept;
      there = λ h.
          let n = k + length part in
          let a = take to old in
          let d = drop behind old in
          let wide : length a ≡ to = length-take-le to old (omega (arith, w.next)) in
          let first : now ≡ a ++ (form ++ d) = w.there h in
          let second : now' ≡ take (to + k) now ++ (part ++ drop m now) =
          v.there (omega (arith, v.next, w.next, w.kept)) in
          let front : take (to + k) now ≡ a ++ take k form =
          ap (take (to + k)) first
          ∙ ap (λ (l : ℕ). take (l + k) (a ++ (form ++ d))) (sym wide)
          ∙ take-append-add a (form ++ d) k
          ∙ ap (λ (l : List ℕ). a ++ l) (take-append-le k form d (omega arith)) in
          let place : m ≡ length a + n = omega (arith, v.next) in
          let back : drop m now ≡ drop n form ++ d =
          ap (drop m) first
          ∙ ap (λ (l : ℕ). drop l (a ++ (form ++ d))) place
          ∙ drop-append-add a (form ++ d) n
          ∙ drop-append-le n form d inside in
          second
          ∙ (λ i. front i ++ (part ++ back i))
          ∙ append_assoc a (take k form) (part ++ (drop n form ++ d))
          ∙ ap (λ (l : List ℕ). a ++ (take k form ++ l)) (sym (append_assoc part (drop n form) d))
          ∙ ap (λ (l : List ℕ). a ++ l) (sym (append_assoc (take k form) (part ++ drop n form) d));
    }

-- ## an entry of a table

words_set : (costs : List ℕ) (i x : ℕ) → i < length costs
    → word_bytes (set costs i x) ≡ changed (4 * i) (four_bytes x) (word_bytes costs)
unfolding changed two_bytes four_bytes word_bytes
words_set [] i x h = absurd (omega arith)
words_set (c ∷ cs) zero x h = refl
words_set (c ∷ cs) (suc i) x h =
    let place : 4 * suc i ≡ suc (suc (suc (suc (4 * i)))) = omega arith in
    let behind : 4 * suc i + 4 ≡ suc (suc (suc (suc (4 * i + 4)))) = omega arith in
    rw (behind, place) (ap (λ (l : List ℕ). four_bytes c ++ l) (words_set cs i x (omega arith)))

pub entry_over : (to behind i x m : ℕ) (costs old now now' : List ℕ) → i < length costs
    → Written to (word_bytes costs) old now behind → Written (to + 4 * i) (four_bytes x) now now' m
    → Written to (word_bytes (set costs i x)) old now' behind
unfolding four_bytes two_bytes
entry_over to behind i x m costs old now now' h w v =
    rw (words_set costs i x h)
    (part_over to behind (4 * i) m (word_bytes costs) (four_bytes x) old now now'
    (omega (arith, length_word_bytes costs)) w v)
