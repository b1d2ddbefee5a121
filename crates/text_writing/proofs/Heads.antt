-- The first line of a function, number by number.
use mathlib.Core.Path.{◌≡◌, refl, sym, ◌∙◌, ap}
use mathlib.Core.List.{List, [], ◌∷◌, ◌++◌, append_assoc}
use Prim.Native.Nat.{ℕ, ◌+◌, ◌≤◌}
use lib.ListN.{length}
use Rattle.model.specs.Limits.{word_end}
use Rattle.text_words.specs.Texts.{decimal, spaced, line, space, line_feed}
use Rattle.text_lines.specs.Written.{Written}
use Rattle.text_lines.proofs.Writing.{Underway, Split, split_in, begin, due, go_on}
use Rattle.text_lines.proofs.Lines.{line_last}

pub spaced_append : (xs ys : List ℕ) → spaced (xs ++ ys) ≡ spaced xs ++ spaced ys
unfolding spaced
spaced_append [] ys = refl
spaced_append (x ∷ xs) ys =
    ap (λ (l : List ℕ). decimal x ++ (space ∷ l)) (spaced_append xs ys)
    ∙ sym (append_assoc (decimal x) (space ∷ spaced xs) (spaced ys))

-- behind the scope: the default cost, and how many tuples
abbrev pub head_end : ℕ → ℕ → List ℕ
head_end default count = (decimal default ++ (space ∷ [])) ++ (decimal count ++ (line_feed ∷ []))

head_same : (a : ℕ) (vs : List ℕ) (d k : ℕ)
    → line (a ∷ vs ++ (d ∷ k ∷ [])) ≡ (decimal a ++ (space ∷ [])) ++ (spaced vs ++ head_end d k)
unfolding spaced
head_same a vs d k =
    let before : List ℕ = a ∷ vs ++ (d ∷ []) in
    let apart : a ∷ vs ++ (d ∷ k ∷ []) ≡ before ++ (k ∷ []) =
    ap (λ (l : List ℕ). a ∷ l) (sym (append_assoc vs (d ∷ []) (k ∷ []))) in
    ap line apart ∙ (line_last before k).parts
    ∙ ap (λ (l : List ℕ). (decimal a ++ (space ∷ l)) ++ (decimal k ++ (line_feed ∷ []))) (spaced_append vs (d ∷ []))
    ∙ simp append_assoc

-- the arity is due, then the scope
pub head_arity : (a : ℕ) (vs : List ℕ) (d k : ℕ)
    → Split (line (a ∷ vs ++ (d ∷ k ∷ []))) (decimal a ++ (space ∷ [])) (spaced vs ++ head_end d k)
head_arity a vs d k = record { parts = head_same a vs d k }

-- Writing it, number after number, by a scope that is told: what is due next.
module _ (vs told : List ℕ) (same : told ≡ vs) (d k to : ℕ) (out : List ℕ)
    (placed : to + length (line (length vs ∷ vs ++ (d ∷ k ∷ []))) ≤ word_end) where
  opened : Underway to (line (length vs ∷ vs ++ (d ∷ k ∷ []))) out (line (length told ∷ told ++ (d ∷ k ∷ []))) out to
  opened = rw same (begin out placed)

  pub arity_due : to + length (decimal (length told) ++ (space ∷ [])) ≤ word_end
  arity_due = due (head_arity (length told) told d k) opened

  pub scope_due : {n : ℕ} {o : List ℕ} → Written to (decimal (length told) ++ (space ∷ [])) out o n
      → Underway to (line (length vs ∷ vs ++ (d ∷ k ∷ []))) out (spaced told ++ head_end d k) o n
  scope_due v = go_on (head_arity (length told) told d k) opened v

  pub default_due : {n m : ℕ} {o p : List ℕ} → Written to (decimal (length told) ++ (space ∷ [])) out o n
      → Written n (spaced told) o p m
      → Underway to (line (length vs ∷ vs ++ (d ∷ k ∷ []))) out (head_end d k) p m
  default_due v w = go_on (split_in (spaced told) (head_end d k)) (scope_due v) w

  pub count_due : {n m l : ℕ} {o p q : List ℕ} → Written to (decimal (length told) ++ (space ∷ [])) out o n
      → Written n (spaced told) o p m → Written m (decimal d ++ (space ∷ [])) p q l
      → Underway to (line (length vs ∷ vs ++ (d ∷ k ∷ []))) out (decimal k ++ (line_feed ∷ [])) q l
  count_due v w x = go_on (split_in (decimal d ++ (space ∷ [])) (decimal k ++ (line_feed ∷ []))) (default_due v w) x
