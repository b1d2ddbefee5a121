-- What is found in a field, by the number that was read.
use mathlib.Core.Path.{◌≡◌, refl, sym, ap, ◌∙◌}
use mathlib.Core.Bool.{Bool, true, false, not, ◌||◌, ◌&&◌}
use mathlib.Core.List.{List}
use Prim.Native.Nat.{ℕ, ◌≤◌, ◌<◌, min}
use native.Mathlib.Omega.{arith}
use lib.Dec.{eqb, ltb}
use borrow.Author.Tests.{ltb-true, ltb-false, lt-ltb, le-ltb, eq-eqb, ne_eqb}
use Rattle.model.specs.Basics.{pick}
use Rattle.model.specs.Limits.{max_variables, max_tables, max_domain, max_arity, word_end}
use Rattle.model.specs.Reading.{outside}
use Rattle.text_words.specs.Texts.{Term, number, negative, other, value_of}
use Rattle.text_words.specs.Reads.{term_at, kind_of, cap_end, NumberSays}
use Rattle.text_words.specs.declared.Kind.{Kind}
use Rattle.text_words.specs.declared.Kind.TheVariants.{Natural}
use Rattle.text_words.specs.declared.Number as DN
use Rattle.text_networks.specs.Findings.{Finding, dialect, stop, fault, and_then, field, find_if}
use Rattle.text_networks.specs.Networks.{variables_finding, largest_finding, functions_number, max_bound, bound_finding}
use Rattle.text_networks.specs.Networks.{cost_finding, arity_finding, size_finding, declared_finding, count_finding}
use Rattle.text_checking.specs.declared.Found.TheVariants.{Nothing, Dialect, Stop, Fault}
use Rattle.text_checking.specs.Codes.{rank, found_of, limited_code, count_code}

pub same_test : (a b : Bool) → (a ≡ true → b ≡ true) → (a ≡ false → b ≡ false) → a ≡ b
same_test true b f g = sym (f refl)
same_test false b f g = sym (g refl)

-- ## a field by its limits

code_test : (t : Bool) → pick t Dialect Nothing ≡ found_of (find_if t dialect)
unfolding found_of
code_test true = refl
code_test false = refl

limited_field : (t : Term) (kind : Kind) (value : ℕ) → kind ≡ kind_of t → value ≡ min (value_of t) cap_end
    → (below : Finding) (test : ℕ → Bool) (least most : ℕ)
    → ((x : ℕ) → (ltb (min x cap_end) least || ltb most (min x cap_end)) ≡ test x)
    → limited_code kind value least most (found_of below) ≡ found_of (field below (λ x. find_if (test x) dialect) t)
unfolding limited_code field kind_of value_of found_of
limited_field (number x) kind value k v below test least most h = rw (k, v, h x) (code_test (test x))
limited_field negative kind value k v below test least most h = rw k
limited_field other kind value k v below test least most h = rw k

-- at most so large
most_test : (most x : ℕ) → most < cap_end → (ltb (min x cap_end) 0 || ltb most (min x cap_end)) ≡ ltb most x
most_test most x h =
    rw (le-ltb (min x cap_end) 0 (omega arith))
    (same_test (ltb most (min x cap_end)) (ltb most x)
    (λ e. lt-ltb most x (omega (arith, ltb-true most (min x cap_end) e)))
    (λ e. le-ltb most x (omega (arith, ltb-false most (min x cap_end) e))))

none_test : (x : ℕ) → (ltb (min x cap_end) 0 || ltb cap_end (min x cap_end)) ≡ false
none_test x = rw (le-ltb (min x cap_end) 0 (omega arith)) (le-ltb cap_end (min x cap_end) (omega arith))

outside_test : (most x : ℕ) → most < cap_end
    → (ltb (min x cap_end) 1 || ltb most (min x cap_end)) ≡ outside most x
outside_test most x h =
    let low : ltb (min x cap_end) 1 ≡ eqb x 0 = same_test _ _
    (λ e. eq-eqb x 0 (omega (arith, ltb-true (min x cap_end) 1 e)))
    (λ e. ne_eqb x 0 (λ z. omega (arith, ltb-false (min x cap_end) 1 e))) in
    let high : ltb most (min x cap_end) ≡ ltb most x = same_test _ _
    (λ e. lt-ltb most x (omega (arith, ltb-true most (min x cap_end) e)))
    (λ e. le-ltb most x (omega (arith, ltb-false most (min x cap_end) e))) in
    rw (low, high)

word_test : (x : ℕ) → (ltb (min x cap_end) 0 || ltb 4294967295 (min x cap_end)) ≡ not (ltb x word_end)
word_test x =
    most_test 4294967295 x (omega arith)
    ∙ same_test (ltb 4294967295 x) (not (ltb x word_end))
    (λ e. ap not (le-ltb x word_end (omega (arith, ltb-true 4294967295 x e))))
    (λ e. ap not (lt-ltb x word_end (omega (arith, ltb-false 4294967295 x e))))

-- ## the fields

module _ {s : List ℕ} {at : ℕ} {r : DN.Number} (says : NumberSays s at r) where
  pub variables_code : limited_code r.kind r.value 1 24 Fault ≡ found_of (variables_finding (term_at s at))
  unfolding found_of
  variables_code =
      limited_field (term_at s at) r.kind r.value says.kind says.value fault (outside max_variables) 1 24
      (λ x. outside_test 24 x (omega arith))

  pub largest_code : limited_code r.kind r.value 0 cap_end Fault ≡ found_of (largest_finding (term_at s at))
  unfolding found_of
  largest_code =
      limited_field (term_at s at) r.kind r.value says.kind says.value fault (λ x. false) 0 cap_end none_test

  pub functions_code : limited_code r.kind r.value 0 256 Fault ≡ found_of (functions_number (term_at s at))
  unfolding found_of
  functions_code =
      limited_field (term_at s at) r.kind r.value says.kind says.value fault (ltb max_tables) 0 256
      (λ x. most_test 256 x (omega arith))

  pub cost_code : limited_code r.kind r.value 0 4294967295 Stop ≡ found_of (cost_finding (term_at s at))
  unfolding found_of
  cost_code =
      limited_field (term_at s at) r.kind r.value says.kind says.value stop (λ x. not (ltb x word_end)) 0
      4294967295 word_test

  pub bound_code : limited_code r.kind r.value 1 4294967295 Stop ≡ found_of (bound_finding (term_at s at))
  unfolding found_of
  bound_code =
      limited_field (term_at s at) r.kind r.value says.kind says.value stop (outside max_bound) 1 4294967295
      (λ x. outside_test 4294967295 x (omega arith))

  pub arity_code : limited_code r.kind r.value 0 3 Stop ≡ found_of (arity_finding (term_at s at))
  unfolding found_of
  arity_code =
      limited_field (term_at s at) r.kind r.value says.kind says.value stop (ltb max_arity) 0 3
      (λ x. most_test 3 x (omega arith))

  pub count_code_lem : (arity : ℕ) → count_code r.kind r.value arity ≡ found_of (count_finding arity (term_at s at))
  unfolding count_code field kind_of value_of found_of
  count_code_lem arity = go (term_at s at) says.kind says.value
    where
      same : (t : Bool) → pick t Fault Nothing ≡ found_of (find_if t fault)
      same true = refl
      same false = refl

      some : (x : ℕ) → ltb 0 (min x cap_end) ≡ ltb 0 x
      some x =
          same_test (ltb 0 (min x cap_end)) (ltb 0 x) (λ e. lt-ltb 0 x (omega (arith, ltb-true 0 (min x cap_end) e)))
          (λ e. le-ltb 0 x (omega (arith, ltb-false 0 (min x cap_end) e)))

      go : (t : Term) → r.kind ≡ kind_of t → r.value ≡ min (value_of t) cap_end
          → count_code r.kind r.value arity ≡ found_of (count_finding arity t)
      go (number x) k v = rw (k, v, some x) (same (eqb arity 0 && ltb 0 x))
      go negative k v = rw k
      go other k v = rw k

  -- ## a domain size

  pub size_none : (most : ℕ) → (r.kind ≡ Natural → ⊥)
      → (limited_code r.kind r.value 1 8 Stop ≡ found_of (size_finding most (term_at s at)))
      × (2 ≤ rank (limited_code r.kind r.value 1 8 Stop))
  unfolding limited_code field kind_of found_of
  size_none most k = go (term_at s at) says.kind
    where
      go : (t : Term) → r.kind ≡ kind_of t
          → (limited_code r.kind r.value 1 8 Stop ≡ found_of (size_finding most t))
          × (2 ≤ rank (limited_code r.kind r.value 1 8 Stop))
      go (number x) e = absurd (k e)
      go negative e = (rw e, rw e (omega arith))
      go other e = (rw e, rw e (omega arith))

  pub size_above : (most : ℕ) → r.kind ≡ Natural → ltb most (value_of (term_at s at)) ≡ true
      → found_of (size_finding most (term_at s at)) ≡ Fault
  unfolding field kind_of value_of found_of and_then
  size_above most k e = go (term_at s at) (sym says.kind ∙ k) e
    where
      go : (t : Term) → kind_of t ≡ Natural → ltb most (value_of t) ≡ true → found_of (size_finding most t) ≡ Fault
      go (number x) h l = rw l
      go negative h l = absurd (cc)
      go other h l = absurd (cc)

  pub size_below : (most : ℕ) → r.kind ≡ Natural → ltb most (value_of (term_at s at)) ≡ false
      → limited_code r.kind r.value 1 8 Stop ≡ found_of (size_finding most (term_at s at))
  unfolding field kind_of value_of found_of and_then
  size_below most k e =
      limited_field (term_at s at) r.kind r.value says.kind says.value stop (outside max_domain) 1 8
      (λ x. outside_test 8 x (omega arith))
      ∙ go (term_at s at) (sym says.kind ∙ k) e
    where
      go : (t : Term) → kind_of t ≡ Natural → ltb most (value_of t) ≡ false
          → found_of (field stop (λ x. find_if (outside max_domain x) dialect) t) ≡ found_of (size_finding most t)
      go (number x) h l = rw l
      go negative h l = refl
      go other h l = refl

  -- ## what is declared

  pub declared_none : (n : ℕ) → (r.kind ≡ Natural → ⊥) → found_of (declared_finding n (term_at s at)) ≡ Fault
  unfolding kind_of field found_of
  declared_none n k = go (term_at s at) (λ e. k (says.kind ∙ e))
    where
      go : (t : Term) → (kind_of t ≡ Natural → ⊥) → found_of (declared_finding n t) ≡ Fault
      go (number x) e = absurd (e refl)
      go negative e = refl
      go other e = refl

  pub declared_below : (n : ℕ) → r.kind ≡ Natural → ltb (value_of (term_at s at)) n ≡ true
      → found_of (declared_finding n (term_at s at)) ≡ Nothing
  unfolding kind_of field value_of found_of
  declared_below n k e = go (term_at s at) (sym says.kind ∙ k) e
    where
      go : (t : Term) → kind_of t ≡ Natural → ltb (value_of t) n ≡ true → found_of (declared_finding n t) ≡ Nothing
      go (number x) h l = rw l
      go negative h l = absurd (cc)
      go other h l = absurd (cc)

  pub declared_above : (n : ℕ) → ltb (value_of (term_at s at)) n ≡ false
      → found_of (declared_finding n (term_at s at)) ≡ Fault
  unfolding kind_of field value_of found_of
  declared_above n e = go (term_at s at) e
    where
      go : (t : Term) → ltb (value_of t) n ≡ false → found_of (declared_finding n t) ≡ Fault
      go (number x) l = rw l
      go negative l = refl
      go other l = refl
