-- The reasons to refuse: their numbers are 1 to 21, each the number of one reason alone.
use Rattle.std.proofs.Common.{◌≡◌, refl, sym, ap, ◌∙◌, false, List, [], ◌∷◌, ℕ, ◌≤◌, eqb, get_or, arith}
use borrow.Author.Tests.{ne_eqb}
use Rattle.model.specs.declared.Reason.{Reason}
use Rattle.model.specs.declared.Reason.TheVariants.{Oversize, CutShort, StrayMark, Variables, Objectives, Tables}
use Rattle.model.specs.declared.Reason.TheVariants.{Domain, Owner, Arity, Scope, Leftover, Work, Sides, Linked}
use Rattle.model.specs.declared.Reason.TheVariants.{Full, Prefix, Text, Dialect, Output, Store, Batch}
use Rattle.model.specs.Reasons.{number_of}

pub number_range : (q : Reason) → (1 ≤ number_of q) × (number_of q ≤ 21)
number_range Oversize = (omega arith, omega arith)
number_range CutShort = (omega arith, omega arith)
number_range StrayMark = (omega arith, omega arith)
number_range Variables = (omega arith, omega arith)
number_range Objectives = (omega arith, omega arith)
number_range Tables = (omega arith, omega arith)
number_range Domain = (omega arith, omega arith)
number_range Owner = (omega arith, omega arith)
number_range Arity = (omega arith, omega arith)
number_range Scope = (omega arith, omega arith)
number_range Leftover = (omega arith, omega arith)
number_range Work = (omega arith, omega arith)
number_range Sides = (omega arith, omega arith)
number_range Linked = (omega arith, omega arith)
number_range Full = (omega arith, omega arith)
number_range Prefix = (omega arith, omega arith)
number_range Text = (omega arith, omega arith)
number_range Dialect = (omega arith, omega arith)
number_range Output = (omega arith, omega arith)
number_range Store = (omega arith, omega arith)
number_range Batch = (omega arith, omega arith)

-- so it is not 0, and its test against 0 computes
pub number_positive : (q : Reason) → number_of q ≡ 0 → ⊥
number_positive q e = absurd (omega (arith, number_range q))

pub number_refuses : (q : Reason) → eqb (number_of q) 0 ≡ false
number_refuses q = ne_eqb _ _ (number_positive q)

-- ## no two reasons have one number

-- every reason at its number; there is none at 0
abbrev reasons : List Reason
reasons =
    Oversize ∷ Oversize ∷ CutShort ∷ StrayMark ∷ Variables ∷ Objectives ∷ Tables ∷ Domain
    ∷ Owner ∷ Arity ∷ Scope ∷ Leftover ∷ Work ∷ Sides ∷ Linked
    ∷ Full ∷ Prefix ∷ Text ∷ Dialect ∷ Output ∷ Store ∷ Batch ∷ []

abbrev reason_of : ℕ → Reason
reason_of n = get_or reasons n Oversize

back : (q : Reason) → reason_of (number_of q) ≡ q
back Oversize = refl
back CutShort = refl
back StrayMark = refl
back Variables = refl
back Objectives = refl
back Tables = refl
back Domain = refl
back Owner = refl
back Arity = refl
back Scope = refl
back Leftover = refl
back Work = refl
back Sides = refl
back Linked = refl
back Full = refl
back Prefix = refl
back Text = refl
back Dialect = refl
back Output = refl
back Store = refl
back Batch = refl

pub number_one : (q r : Reason) → number_of q ≡ number_of r → q ≡ r
number_one q r e = sym (back q) ∙ ap reason_of e ∙ back r
