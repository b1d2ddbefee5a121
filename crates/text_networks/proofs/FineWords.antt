-- What is so of words in which nothing is refused: of a field, of a tuple, of a cost function.
use mathlib.Core.Path.{◌≡◌, refl, ap}
use mathlib.Core.Bool.{Bool, true, false, not}
use mathlib.Core.List.{List, [], ◌∷◌}
use Prim.Native.Nat.{ℕ, zero, suc, ◌≤◌, ◌<◌}
use native.Mathlib.Omega.{arith}
use lib.Dec.{eqb, ltb}
use lib.ListN.{length, drop}
use borrow.Author.Tests.{ltb-true, ltb-false, lt-ltb, eqb-false, not-false}
use Rattle.model.specs.Limits.{max_arity, word_end}
use Rattle.model.specs.Problems.{Word, InRange, has_variable, scope_rule}
use Rattle.model.specs.Reading.{outside}
use Rattle.model.proofs.Bits.{and_both, or-false}
use Rattle.text_words.specs.Texts.{Term, number, negative, other, value_of}
use Rattle.text_networks.specs.Findings.{Words, Finding, fine, dialect, stop, fault, and_then, find_if, field}
use Rattle.text_networks.specs.Findings.{term_at, value_at, values_in, runs}
use Rattle.text_networks.specs.Networks.{repeated, repeated_tuple, cost_finding, declared_finding}
use Rattle.text_networks.specs.Networks.{arity_in, scope_in, default_in, count_in, tuples_in, sizes_over}
use Rattle.text_networks.specs.Networks.{values_finding, tuple_finding, tuples_of, function_finding}
use Rattle.text_networks.proofs.Entries.{Values}

-- ## findings

-- something is found
abbrev pub Found : Finding → Type 0
Found fine = ⊥
Found dialect = Unit {0}
Found stop = Unit {0}
Found fault = Unit {0}

pub found_fine : (a : Finding) → Found a → a ≡ fine → ⊥
found_fine a h e = rw e at h

pub both_fine : (a b : Finding) → and_then a b ≡ fine → (a ≡ fine) × (b ≡ fine)
unfolding and_then
both_fine fine b h = (refl, h)
both_fine dialect fine h = absurd (found_fine _ tt h)
both_fine dialect dialect h = absurd (found_fine _ tt h)
both_fine dialect stop h = absurd (found_fine _ tt h)
both_fine dialect fault h = absurd (found_fine _ tt h)
both_fine stop b h = absurd (found_fine _ tt h)
both_fine fault b h = absurd (found_fine _ tt h)

pub test_fine : (t : Bool) (a : Finding) → Found a → find_if t a ≡ fine → t ≡ false
test_fine true a f h = absurd (found_fine a f h)
test_fine false a f h = refl

-- the word is a number, and that number is fine
pub field_fine : (below : Finding) (f : ℕ → Finding) (t : Term) → Found below → field below f t ≡ fine
    → f (value_of t) ≡ fine
unfolding field value_of
field_fine below f (number x) b h = h
field_fine below f negative b h = absurd (found_fine below b h)
field_fine below f other b h = absurd (found_fine fault tt h)

-- ## fields

pub cost_fine : (t : Term) → cost_finding t ≡ fine → Word (value_of t)
cost_fine t h =
    let x = value_of t in
    ltb-true x word_end (not-false (ltb x word_end) (test_fine _ dialect tt (field_fine stop _ t tt h)))

declared_fine : (n : ℕ) (t : Term) → declared_finding n t ≡ fine → value_of t < n
declared_fine n t h =
    let x = value_of t in
    ltb-true x n (not-false (ltb x n) (test_fine _ fault tt (field_fine fault _ t tt h)))

pub inside_fine : (limit x : ℕ) → outside limit x ≡ false → (1 ≤ x) × (x ≤ limit)
inside_fine limit x h =
    let (some, few) = or-false (eqb x 0) (ltb limit x) h in
    (some_number x (eqb-false x 0 some), ltb-false limit x few)
  where
    some_number : (x : ℕ) → (x ≡ 0 → ⊥) → 1 ≤ x
    some_number zero h = absurd (h refl)
    some_number (suc x) h = omega arith

-- ## tuples

values_fine : (ds : List ℕ) (ws : Words) → values_finding ds ws ≡ fine → Values ds (values_in (length ds) ws)
unfolding values_finding values_in
values_fine [] ws h = refl
values_fine (d ∷ ds) ws h =
    let (first, more) = both_fine _ _ h in
    (declared_fine d (term_at 0 ws) first, values_fine ds (drop 1 ws) more)

pub tuple_fine : (ds : List ℕ) (ws : Words) → tuple_finding ds ws ≡ fine
    → Values ds (values_in (length ds) ws) × Word (value_at (length ds) ws)
tuple_fine ds ws h =
    let (values, cost) = both_fine _ _ h in
    (values_fine ds ws values, cost_fine (term_at (length ds) ws) cost)

-- ## scopes

scope_fine : (n k : ℕ) (ws : Words) → runs k (λ us. declared_finding n (term_at 0 us)) 1 ws ≡ fine
    → InRange n (values_in k ws)
unfolding runs values_in
scope_fine n zero ws h = tt
scope_fine n (suc k) ws h =
    let (first, more) = both_fine _ _ h in
    (declared_fine n (term_at 0 ws) first, scope_fine n k (drop 1 ws) more)

-- variables that exist, none twice, keep the rule of scopes
pub scope_ruled : (n : ℕ) (vs : List ℕ) → InRange n vs → repeated vs ≡ false → scope_rule n vs ≡ true
unfolding scope_rule repeated
scope_ruled n [] r h = refl
scope_ruled n (v ∷ vs) r h =
    let (apart, once) = or-false (has_variable v vs) (repeated vs) h in
    and_both (lt-ltb v n r.0) (and_both (ap not apart) (scope_ruled n vs r.1 once))

-- ## functions

pub record FineFunction (ds : List ℕ) (ws : Words) : Type 0 where
  pub arity : arity_in ws ≤ max_arity
  pub scope : InRange (length ds) (scope_in ws)
  pub once : repeated (scope_in ws) ≡ false
  pub default : Word (default_in ws)
  pub tuples : runs (count_in ws) (tuple_finding (sizes_over ds (scope_in ws))) (suc (arity_in ws)) (tuples_in ws)
      ≡ fine
  pub fresh : repeated_tuple (tuples_of (count_in ws) (arity_in ws) (tuples_in ws)) ≡ false

pub function_fine : (ds : List ℕ) (ws : Words) → function_finding ds ws ≡ fine → FineFunction ds ws
unfolding function_finding
function_fine ds ws h =
    let (arity, h₁) = both_fine _ _ h in
    let (scope, h₂) = both_fine _ _ h₁ in
    let (once, h₃) = both_fine _ _ h₂ in
    let (default, h₄) = both_fine _ _ h₃ in
    let (count, h₅) = both_fine _ _ h₄ in
    let (tuples, fresh) = both_fine _ _ h₅ in
    record {
      arity = ltb-false max_arity (arity_in ws) (test_fine _ dialect tt (field_fine stop _ (term_at 0 ws) tt arity));
      scope = scope_fine (length ds) (arity_in ws) (drop 1 ws) scope;
      once = test_fine _ dialect tt once;
      default = cost_fine _ default;
      tuples = tuples;
      fresh = test_fine _ dialect tt fresh;
    }
