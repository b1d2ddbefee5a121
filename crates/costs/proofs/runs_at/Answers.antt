-- What `runs_at` leaves to show.
use Rattle.std.proofs.Common.{◌≡◌, ap, ◌∙◌, ℕ, ◌+◌, ◌-◌, ◌*◌, ◌≤◌, ◌<◌, List, length, get_or, drop, arith}
use Rattle.std.proofs.Common.{◌≢◌, true}
use Rattle.model.specs.Basics.{All}
use Rattle.model.specs.Problems.{DomainSize}
use Rattle.model.specs.Bounds.{prefix_ok}
use Rattle.model.specs.Reading.{table_arity}
use Rattle.model.proofs.Prefixes.{prefix_below}
use Rattle.problem.specs.Records.{Whole}
use Rattle.problem.proofs.Scopes.{whole_inside}
use Rattle.costs.specs.Entries.{variable_at}
use Rattle.costs.proofs.ScopeVariables.{variable_exists}
use Rattle.costs.proofs.RunSteps.{Running, running_start, running_inside, running_end, running_fits}
use Rattle.costs.proofs.RunSteps.{running_free, running_value, running_fixed, running_split}
use Rattle.costs.proofs.runs_at.Goals as goal

-- the steps of `RunSteps` for a variable v that was read, of d values
module _ (ds pre s : List ℕ) (at : ℕ) (w : Whole ds s at) (sizes : All DomainSize ds) (k first count rows stride : ℕ)
    (u : Running ds pre s at k first count rows stride) (more : k < table_arity (drop at s)) (v d : ℕ)
    (read : v ≡ variable_at s at k) (size : d ≡ get_or ds v 0) where
  domain : d ≡ get_or ds (variable_at s at k) 0
  domain = size ∙ ap (λ x. get_or ds x 0) read

  fits : (first * d + (rows - 1) * (stride * d) + count * d ≤ length s) × (stride * d ≤ length s)
  fits = rw domain (running_fits ds pre s at w sizes k first count rows stride u more)

  free : length pre ≤ v → Running ds pre s at (k + 1) (first * d) (count * d) rows (stride * d)
  free h = rw domain (running_free ds pre s at w sizes k first count rows stride u more (rw read at h))

  module _ (ok : prefix_ok ds pre ≡ true) (x : ℕ) (h : v < length pre) (value : x ≡ get_or pre v 0) where
    within : variable_at s at k < length pre
    within = rw read at h

    below : get_or pre (variable_at s at k) 0 < get_or ds (variable_at s at k) 0
    below = prefix_below ds pre ok _ within

    fixed_is : x ≡ get_or pre (variable_at s at k) 0
    fixed_is = value ∙ ap (λ y. get_or pre y 0) read

    value_fits : first * d + x ≤ length s
    value_fits =
        rw (domain, fixed_is) (running_value ds pre s at w sizes k first count rows stride u more within below)

    fixed : count ≡ 1 → Running ds pre s at (k + 1) (first * d + x) count rows (stride * d)
    fixed e =
        rw (domain, fixed_is) (running_fixed ds pre s at w sizes k first count rows stride u more within below e)

    split : count ≢ 1 → Running ds pre s at (k + 1) (first * d + x) 1 count d
    split n =
        rw (domain, fixed_is) (running_split ds pre s at w sizes k first count rows stride u more within below n)

pub arity_at-a-requires : goal.arity_at-a-requires
arity_at-a-requires c = whole_inside c.args.sizes.now c.args.s.now c.args.at c.requires.0

pub loop-k-init : goal.loop-k-init
loop-k-init c = running_start c.args.sizes.now c.args.prefix.now c.args.s.now c.args.at

pub scope_at-v-requires : goal.scope_at-v-requires
scope_at-v-requires c =
    (whole_inside c.args.sizes.now c.args.s.now c.args.at c.requires.0, omega (arith, c.arity_at-a.ensures))

pub bounds-sizes-v : goal.bounds-sizes-v
bounds-sizes-v c =
    rw c.scope_at-v.ensures
    (variable_exists c.args.sizes.now c.args.s.now c.args.at c.requires.0 c.loop-k.k
    (omega (arith, c.arity_at-a.ensures)))

pub overflow_mul-first : goal.overflow_mul-first
overflow_mul-first c =
    let a = c.args in
    let w = c.loop-k in
    omega (
      arith,
      fits _ a.prefix.now a.s.now a.at c.requires.0 c.requires.1 w.k w.first w.count w.rows w.stride w.invariant
          (omega (arith, c.arity_at-a.ensures)) _ _ c.scope_at-v.ensures
          c.from-d.ensures,
    )

pub overflow_mul-stride : goal.overflow_mul-stride
overflow_mul-stride c =
    let a = c.args in
    let w = c.loop-k in
    omega (
      arith,
      fits _ a.prefix.now a.s.now a.at c.requires.0 c.requires.1 w.k w.first w.count w.rows w.stride w.invariant
          (omega (arith, c.arity_at-a.ensures)) _ _ c.scope_at-v.ensures
          c.from-d.ensures,
    )

pub overflow_mul-count : goal.overflow_mul-count
overflow_mul-count c =
    let a = c.args in
    let w = c.loop-k in
    omega (
      arith,
      fits _ a.prefix.now a.s.now a.at c.requires.0 c.requires.1 w.k w.first w.count w.rows w.stride w.invariant
          (omega (arith, c.arity_at-a.ensures)) _ _ c.scope_at-v.ensures
          c.from-d.ensures,
    )

pub loop-k-preserved-then-prefix-v : goal.loop-k-preserved-then-prefix-v
loop-k-preserved-then-prefix-v c =
    let a = c.args in
    let w = c.loop-k in
    free _ a.prefix.now a.s.now a.at c.requires.0 c.requires.1 w.k w.first w.count w.rows w.stride w.invariant
    (omega (arith, c.arity_at-a.ensures)) _ _ c.scope_at-v.ensures
    c.from-d.ensures c.if-prefix-v.true

pub overflow_add-first : goal.overflow_add-first
overflow_add-first c =
    let a = c.args in
    let w = c.loop-k in
    omega (
      arith,
      value_fits _ a.prefix.now a.s.now a.at c.requires.0 c.requires.1 w.k w.first w.count w.rows w.stride w.invariant
          (omega (arith, c.arity_at-a.ensures)) _ _ c.scope_at-v.ensures
          c.from-d.ensures c.requires.2 _ c.if-prefix-v.false c.from-first.ensures,
    )

pub loop-k-preserved-then-is_run : goal.loop-k-preserved-then-is_run
loop-k-preserved-then-is_run c =
    let a = c.args in
    let w = c.loop-k in
    fixed _ a.prefix.now a.s.now a.at c.requires.0 c.requires.1 w.k w.first w.count w.rows w.stride w.invariant
    (omega (arith, c.arity_at-a.ensures)) _ _ c.scope_at-v.ensures
    c.from-d.ensures c.requires.2 _ c.if-prefix-v.false c.from-first.ensures (omega arith)

pub loop-k-preserved : goal.loop-k-preserved
loop-k-preserved c =
    let a = c.args in
    let w = c.loop-k in
    split _ a.prefix.now a.s.now a.at c.requires.0 c.requires.1 w.k w.first w.count w.rows w.stride w.invariant
    (omega (arith, c.arity_at-a.ensures)) _ _ c.scope_at-v.ensures
    c.from-d.ensures c.requires.2 _ c.if-prefix-v.false c.from-first.ensures (omega arith)

pub returns : goal.returns
returns c =
    let a = c.args in
    let w = c.loop-k in
    let end : w.k ≡ table_arity (drop a.at a.s.now) = omega (arith, c.arity_at-a.ensures, w.invariant.inside) in
    record {
      fit = record {
        some = w.invariant.some;
        row = w.invariant.row;
        inside =
            running_inside a.sizes.now a.prefix.now a.s.now a.at c.requires.0 c.requires.1 w.k
            w.first w.count w.rows w.stride w.invariant;
      };
      least =
          running_end a.sizes.now a.prefix.now a.s.now a.at c.requires.0 c.requires.1 w.k w.first
          w.count w.rows w.stride w.invariant end;
    }
