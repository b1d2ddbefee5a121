-- What `count_values` leaves to show: a variable has at most eight values, and one that does not exist has 0.
use Rattle.std.proofs.Common.{◌≡◌, ◌≤◌, ◌<◌, length, get_or, arith}
use Rattle.std.proofs.lemmas.Grind.{common_steps}
use Rattle.problem.proofs.Sizes.{domain_size_lem}
use Rattle.costs.proofs.ScopeVariables.{value_below}
use Rattle.plan_test.proofs.PartChoices.{value_outside}
use Rattle.plan_test.proofs.count_values.Goals as goal

pub returns-in-Some : goal.returns-in-Some
returns-in-Some c =
    let a = c.args in
    let inside : a.u < length a.sizes.now = grind (arith, common_steps, c.in-Some.ensures.lookup) in
    let is : c.in-Some.field-0.now ≡ get_or a.sizes.now a.u 0 = grind (arith, common_steps, c.in-Some.ensures.lookup) in
    rw is (record {
      enough = λ y h. value_below a.sizes.now y h a.u inside;
      exist = λ l. omega arith;
      few = (domain_size_lem a.sizes.now c.requires a.u inside).1;
    })

pub returns-in-None : goal.returns-in-None
returns-in-None c =
    let a = c.args in
    let outside : length a.sizes.now ≤ a.u = grind (arith, common_steps, c.in-None.ensures.lookup) in
    record {
      enough = λ y h. omega (arith, value_outside a.sizes.now y h a.u outside);
      exist = λ l. absurd (omega arith);
      few = omega arith;
    }
