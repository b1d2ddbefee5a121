-- What the loop of `read_scope` leaves to show: each variable exists, and has a domain size.
use Rattle.std.proofs.Common.{◌≡◌, ◌≤◌, ◌<◌, ℕ, List, length, get_or, take, refl, subst, arith, rules}
use lib.Seq.{length-take-le}
use Rattle.model.specs.Problems.{DomainSize}
use Rattle.model.proofs.Elements.{front_each}
use Rattle.model.proofs.Numbers.{product_small}
use Rattle.text_words.specs.Reads.{words_at, NumberSays}
use Rattle.text_words.specs.declared.Number as DN
use Rattle.text_networks.specs.Findings.{value_at, values_in}
use Rattle.text_networks.proofs.FineTables.{values_count}
use Rattle.text_reading.specs.declared.Domains as DD
use Rattle.text_reading.specs.Functions.{ScopeAt}
use Rattle.text_reading.proofs.Numbers.{value_has, first_have}
use Rattle.text_reading.proofs.Scopes.{table_few, Scoping, scoping_start, variable_read, scoping_more}
use Rattle.text_reading.proofs.Scopes.{scope_sizes_lem, scope_entries}
use Rattle.text_reading.proofs.read_scope.Goals as goal

-- the domains are those of the array's front
module _ {s : List ℕ} {at arity : ℕ} {d : DD.Domains} (p : ScopeAt s at arity d) (three : length d.sizes ≡ 24) where
  long : d.count ≤ length d.sizes
  long = omega (arith, three, p.domains.few)

  declared : length (take d.count d.sizes) ≡ d.count
  declared = length-take-le d.count d.sizes long

  module _ {variables sizes : List ℕ} {size end i : ℕ} (w : Scoping s at d.sizes variables sizes size end i)
      (inside : i < arity)
    where
      -- variable i of the scope exists
      variable : value_at i (words_at s at) < d.count
      variable =
          rw (← declared)
          (value_has (λ u. u < length (take d.count d.sizes)) arity (words_at s at) p.range i inside)

      module _ (r : DN.Number) (says : NumberSays s end r) where
        -- what is read is that variable
        exact : r.value ≡ value_at i (words_at s at)
        exact = variable_read w (omega (arith, inside, p.few)) r says (omega (arith, variable, p.domains.few))

        exists : r.value < d.count
        exists = omega (arith, exact, variable)

        -- its domain size, and how many entries there are before
        sized : DomainSize (get_or d.sizes r.value 0)
        sized = front_each DomainSize 0 d.count d.sizes long p.domains.small r.value exists

      few : size ≤ 512
      few =
          let ws = words_at s at in
          let range = first_have (λ u. u < length (take d.count d.sizes)) arity ws p.range i (omega (arith, inside)) in
          let table = table_few (take d.count d.sizes) (values_in i ws) p.domains.small range
          (omega (arith, values_count i ws, p.few, inside)) in
          omega (arith, table, scope_entries w d.count (rw declared at range))

pub loop-i-init : goal.loop-i-init
loop-i-init c = scoping_start c.args.s.now c.args.at c.args.d.sizes _ _ c.requires.within refl refl

pub bounds-d-variable : goal.bounds-d-variable
bounds-d-variable c =
    let three : length c.args.d.sizes ≡ 24 = search rules in
    let r = c.read_number-read in
    let there = exists c.requires three c.loop-i.invariant c.loop-i-test.true r.result r.ensures in
    omega (arith, there, c.requires.domains.few)

pub overflow_cast-variables : goal.overflow_cast-variables
overflow_cast-variables c =
    let three : length c.args.d.sizes ≡ 24 = search rules in
    let r = c.read_number-read in
    let there = exists c.requires three c.loop-i.invariant c.loop-i-test.true r.result r.ensures in
    record { fits = omega (arith, there, c.requires.domains.few) }

pub overflow_mul-size : goal.overflow_mul-size
overflow_mul-size c =
    let three : length c.args.d.sizes ≡ 24 = search rules in
    let r = c.read_number-read in
    let size = sized c.requires three c.loop-i.invariant c.loop-i-test.true r.result r.ensures in
    let table = few c.requires three c.loop-i.invariant c.loop-i-test.true in
    let d = get_or c.args.d.sizes r.result.value 0 in
    record { fits = omega (arith, product_small 512 8 c.loop-i.size d table size.1) }

pub loop-i-preserved : goal.loop-i-preserved
loop-i-preserved c =
    let three : length c.args.d.sizes ≡ 24 = search rules in
    let r = c.read_number-read in
    let there = variable c.requires three c.loop-i.invariant c.loop-i-test.true in
    scoping_more c.loop-i.invariant (omega (arith, c.loop-i-test.true, c.requires.few)) r.result r.ensures
    (omega (arith, there, c.requires.domains.few))

pub returns : goal.returns
returns c =
    let a = c.args in
    let w = c.loop-i in
    let three : length a.d.sizes ≡ 24 = search rules in
    let all : w.i ≡ a.arity = omega arith in
    let end : Scoping a.s.now a.at a.d.sizes w.variables w.sizes w.size w.end a.arity =
    subst (λ (n : ℕ). Scoping a.s.now a.at a.d.sizes w.variables w.sizes w.size w.end n) all w.invariant in
    let range = rw (declared c.requires three) at c.requires.range in
    record {
      arity = refl;
      variables = end.variables;
      sizes = scope_sizes_lem end a.d.count range;
      size = scope_entries end a.d.count range;
      within = end.passed.within;
      rest = end.passed.words;
    }
