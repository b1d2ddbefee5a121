-- The choices at which a part is looked at: zeros, but for the values of its message's variables. Every choice has the
-- same values there as one of them.
use mathlib.Core.Path.{◌≡◌}
use mathlib.Core.Logic.{⊎_elim}
use mathlib.Core.Bool.{true, false}
use mathlib.Core.List.{List}
use Prim.Native.Nat.{ℕ, ◌≤◌, ◌<◌}
use native.Mathlib.Omega.{arith}
use borrow.Author.Tests.{ltb-true, ltb-false}
use lib.Dec.{ltb}
use lib.ListN.{length, get_or, take, set, replicate, get_or-eq_default}
use lib.Seq.{set_out}
use Rattle.model.specs.Basics.{All}
use Rattle.model.specs.Problems.{DomainSize}
use Rattle.model.specs.Costs.{is_choice}
use Rattle.model.proofs.Bits.{test}
use Rattle.model.proofs.Lists.{take_set}
use Rattle.model.proofs.Choices.{choice_length}
use Rattle.model.proofs.Prefixes.{set_choice}
use Rattle.model.proofs.Zeros.{zeros_choice, front_same}
use Rattle.problem.proofs.Sizes.{domain_size_lem}
use Rattle.costs.proofs.ScopeVariables.{value_below}
use Rattle.plan_test.specs.Parts.{one_of, two_of, three_of, Exist}
use Rattle.plan_test.specs.declared.Part as DP

-- a value of a variable, if there is such a variable
pub put_choice : (ds x : List ℕ) (u a : ℕ) → is_choice ds x ≡ true → (u < length ds → a < get_or ds u 0)
    → is_choice ds (set x u a) ≡ true
put_choice ds x u a c h =
    ⊎_elim
    (λ (t : ltb u (length ds) ≡ true). set_choice ds x u a c (h (ltb-true u (length ds) t)))
    (λ (t : ltb u (length ds) ≡ false).
    rw (set_out x u a (omega (arith, choice_length ds x c, ltb-false u (length ds) t))) c)
    (test (ltb u (length ds)))

-- the choice of n values that has i, j and l at the message's variables
abbrev pub part_choice : ℕ → List ℕ → DP.Part → (i j l : ℕ) → List ℕ
part_choice n plan p i j l = set (set (set (replicate n 0) (one_of plan p) i) (two_of plan p) j) (three_of plan p) l

-- it is made of 24 zeros
pub choice_front :
    (n : ℕ) (plan : List ℕ) (p : DP.Part) (i j l : ℕ) (one two three : List ℕ) → n ≤ 24
    → one ≡ set (replicate 24 0) (one_of plan p) i → two ≡ set one (two_of plan p) j
    → three ≡ set two (three_of plan p) l
    → take n three ≡ part_choice n plan p i j l
choice_front n plan p i j l one two three few e f g =
    rw (
      g,
      take_set n two (three_of plan p) l,
      f,
      take_set n one (two_of plan p) j,
      e,
      take_set n (replicate 24 0) (one_of plan p) i,
      front_same n 24 0 few,
    )

pub choice_exists : (ds plan : List ℕ) (p : DP.Part) (i j l : ℕ) → All DomainSize ds → Exist ds plan p i j l
    → is_choice ds (part_choice (length ds) plan p i j l) ≡ true
choice_exists ds plan p i j l sizes h =
    let zeros = replicate {A = ℕ} (length ds) 0 in
    let one = set zeros (one_of plan p) i in
    put_choice ds (set one (two_of plan p) j) (three_of plan p) l
    (put_choice ds one (two_of plan p) j
    (put_choice ds zeros (one_of plan p) i (zeros_choice ds sizes) h.one) h.two) h.three

-- any variable's value, and that of one that does not exist
pub value_outside : (ds y : List ℕ) → is_choice ds y ≡ true → (u : ℕ) → length ds ≤ u → get_or y u 0 ≡ 0
value_outside ds y c u h =
    let out : length y ≤ u = omega (arith, choice_length ds y c) in
    get_or-eq_default y 0 out

pub value_small : (ds y : List ℕ) → All DomainSize ds → is_choice ds y ≡ true → (u : ℕ) → get_or y u 0 < 8
value_small ds y sizes c u =
    ⊎_elim
    (λ (t : ltb u (length ds) ≡ true). let inside : u < length ds = ltb-true u (length ds) t in
    omega (arith, value_below ds y c u inside, (domain_size_lem ds sizes u inside).1))
    (λ (t : ltb u (length ds) ≡ false). omega (arith, value_outside ds y c u (ltb-false u (length ds) t)))
    (test (ltb u (length ds)))
