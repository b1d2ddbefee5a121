-- Findings: one and then another, and which decide.
use mathlib.Core.Path.{◌≡◌, refl, sym, ap, ◌∙◌}
use mathlib.Core.Logic.{◌⊎◌, inl, inr, ⊎_elim}
use mathlib.Core.Bool.{Bool, true, false}
use Prim.Native.Nat.{ℕ, ◌≤◌, ◌<◌}
use native.Mathlib.Omega.{arith}
use lib.Dec.{ltb}
use borrow.Author.Tests.{ltb-true, ltb-false}
use Rattle.model.specs.Basics.{pick}
use Rattle.model.proofs.Bits.{test}
use Rattle.text_networks.specs.Findings.{Finding, fine, dialect, stop, fault, and_then, find_if}
use Rattle.text_networks.specs.Conversions.{number_of}
use Rattle.text_checking.specs.declared.Found.{Found}
use Rattle.text_checking.specs.declared.Found.TheVariants.{Nothing, Dialect, Stop, Fault}
use Rattle.text_checking.specs.Codes.{rank, found_of, both, number_code}

pub lt_or_ge : (a b : ℕ) → (a < b) ⊎ (b ≤ a)
lt_or_ge a b = ⊎_elim (λ t. inl (ltb-true a b t)) (λ t. inr (ltb-false a b t)) (test (ltb a b))

pub both_heavy : (a b : Found) → 2 ≤ rank a → both a b ≡ a
unfolding both
both_heavy Nothing b h = absurd (omega arith)
both_heavy Dialect b h = absurd (omega arith)
both_heavy Stop b h = refl
both_heavy Fault b h = refl

pub both_none : (b : Found) → both Nothing b ≡ b
unfolding both
both_none b = refl

-- nothing follows
pub both_last : (a : Found) → both a Nothing ≡ a
unfolding both
both_last Nothing = refl
both_last Dialect = refl
both_last Stop = refl
both_last Fault = refl

-- what is not the format follows
pub both_fault : (a : Found) → rank a < 2 → both a Fault ≡ Fault
unfolding both
both_fault Nothing h = refl
both_fault Dialect h = refl
both_fault Stop h = absurd (omega arith)
both_fault Fault h = refl

pub both_assoc : (a b c : Found) → both (both a b) c ≡ both a (both b c)
unfolding both
both_assoc Nothing b c = refl
both_assoc Dialect Nothing c = refl
both_assoc Dialect Dialect Nothing = refl
both_assoc Dialect Dialect Dialect = refl
both_assoc Dialect Dialect Stop = refl
both_assoc Dialect Dialect Fault = refl
both_assoc Dialect Stop c = refl
both_assoc Dialect Fault c = refl
both_assoc Stop b c = refl
both_assoc Fault b c = refl

-- what is light has light parts, what is fine has fine parts
pub both_first : (a b : Found) → rank (both a b) < 2 → rank a < 2
unfolding both
both_first Nothing b h = omega arith
both_first Dialect b h = omega arith
both_first Stop b h = h
both_first Fault b h = h

pub both_second : (a b : Found) → rank (both a b) < 2 → rank b < 2
unfolding both
both_second Nothing b h = h
both_second Dialect Nothing h = omega arith
both_second Dialect Dialect h = h
both_second Dialect Stop h = h
both_second Dialect Fault h = h
both_second Stop b h = absurd (omega arith)
both_second Fault b h = absurd (omega arith)

pub both_zero : (a b : Found) → both a b ≡ Nothing → (a ≡ Nothing) × (b ≡ Nothing)
unfolding both
both_zero Nothing b e = (refl, e)
both_zero Dialect Nothing e = absurd (cc)
both_zero Dialect Dialect e = absurd (cc)
both_zero Dialect Stop e = absurd (cc)
both_zero Dialect Fault e = absurd (cc)
both_zero Stop b e = absurd (cc)
both_zero Fault b e = absurd (cc)

pub found_both : (f g : Finding) → found_of (and_then f g) ≡ both (found_of f) (found_of g)
unfolding and_then found_of both
found_both fine g = refl
found_both dialect fine = refl
found_both dialect dialect = refl
found_both dialect stop = refl
found_both dialect fault = refl
found_both stop g = refl
found_both fault g = refl

pub found_fine : (f : Finding) → found_of f ≡ Nothing → f ≡ fine
unfolding found_of
found_fine fine e = refl
found_fine dialect e = absurd (cc)
found_fine stop e = absurd (cc)
found_fine fault e = absurd (cc)

-- nothing, or something
pub none_light : (f : Found) → f ≡ Nothing → rank f < 2
none_light f e = omega (arith, ap rank e)

pub some_rank : (f : Found) → (f ≡ Nothing → ⊥) → 1 ≤ rank f
some_rank Nothing n = absurd (n refl)
some_rank Dialect n = omega arith
some_rank Stop n = omega arith
some_rank Fault n = omega arith

-- what is refused already, and no more than that behind it
pub both_more : (a b : Found) → 1 ≤ rank a → rank b ≤ 1 → both a b ≡ a
unfolding both
both_more Nothing b h k = absurd (omega arith)
both_more Dialect Nothing h k = refl
both_more Dialect Dialect h k = refl
both_more Dialect Stop h k = absurd (omega arith)
both_more Dialect Fault h k = absurd (omega arith)
both_more Stop b h k = refl
both_more Fault b h k = refl

pub test_code : (t : Bool) → found_of (find_if t dialect) ≡ pick t Dialect Nothing
unfolding found_of
test_code true = refl
test_code false = refl

pub test_light : (t : Bool) → rank (found_of (find_if t dialect)) ≤ 1
unfolding found_of
test_light true = omega arith
test_light false = omega arith

pub both_later : (a b : Found) → 2 ≤ rank b → 2 ≤ rank (both a b)
unfolding both
both_later Nothing b h = h
both_later Dialect Nothing h = absurd (omega arith)
both_later Dialect Dialect h = h
both_later Dialect Stop h = h
both_later Dialect Fault h = h
both_later Stop b h = omega arith
both_later Fault b h = omega arith

some_more : (x y : Found) → 1 ≤ rank x → 1 ≤ rank (both x y)
unfolding both
some_more Nothing y h = absurd (omega arith)
some_more Dialect Nothing h = omega arith
some_more Dialect Dialect h = omega arith
some_more Dialect Stop h = omega arith
some_more Dialect Fault h = omega arith
some_more Stop y h = omega arith
some_more Fault y h = omega arith

-- what is at most refused does not matter behind what is refused
pub both_either : (a b c d e : Found) → 1 ≤ rank a → rank c ≤ 1 → rank d ≤ 1
    → both a (both b (both c e)) ≡ both a (both b (both d e))
both_either a b c d e some few few' = skipped c few ∙ sym (skipped d few')
  where
    -- behind what is refused, x changes nothing
    skipped : (x : Found) → rank x ≤ 1 → both a (both b (both x e)) ≡ both a (both b e)
    skipped x k =
        ap (both a) (sym (both_assoc b x e))
        ∙ sym (both_assoc a (both b x) e)
        ∙ ap (λ (y : Found). both y e)
        (sym (both_assoc a b x) ∙ both_more (both a b) x (some_more a b some) k)
        ∙ both_assoc a b e

-- ## the number of a refusal

pub number_code_lem : (f : Finding) → number_code (found_of f) ≡ number_of f
unfolding number_code found_of number_of
number_code_lem fine = refl
number_code_lem dialect = refl
number_code_lem stop = refl
number_code_lem fault = refl

pub number_none : (k : Found) → number_code k ≡ 0 → k ≡ Nothing
unfolding number_code
number_none Nothing e = refl
number_none Dialect e = absurd (omega arith)
number_none Stop e = absurd (omega arith)
number_none Fault e = absurd (omega arith)
