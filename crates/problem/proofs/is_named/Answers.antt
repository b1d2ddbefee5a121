-- `has_variable` of the model is std's test of whether some element passes.
use Rattle.std.proofs.Common.{rules, tests, ◌≡◌, refl, ◌∙◌, List, [], ◌∷◌, ℕ, ◌+◌, ◌-◌, arith, take, drop, eqb}
use Rattle.std.specs.List.{list_any}
use Rattle.std.proofs.lemmas.Iterator.Search.{any_from_yields_List}
use Rattle.std.proofs.lemmas.Iterator.{YieldsList-from_slice}
use Rattle.model.specs.Problems.{has_variable}
use Rattle.problem.proofs.is_named.Goals as goal

any_variable : (v : ℕ) (vs : List ℕ) → list_any (λ w. eqb w v) vs ≡ has_variable v vs
unfolding has_variable
any_variable v [] = refl
any_variable v (w ∷ vs) = rw (any_variable v vs)

pub returns : goal.returns
returns c =
    let vs = take c.args.count (drop c.args.at c.args.s.now) in
    let count : c.args.at + c.args.count - c.args.at ≡ c.args.count = omega arith in
    let rest : c.iter.result.rest.now ≡ vs = rw count at c.iter.ensures.rest in
    let any : c.any.result ≡ list_any (λ w. eqb w c.args.v) vs =
    any_from_yields_List (λ w. eqb w c.args.v) _ _ c.any.result c.any.ensures.ran (YieldsList-from_slice vs rest)
    (λ x b q k. search (rules, tests)) in
    any ∙ any_variable c.args.v vs
