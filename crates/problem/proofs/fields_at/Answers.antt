-- The record is whole, so its fields and its scope lie in the bytes.
use Rattle.std.proofs.Common.{◌≡◌, refl, drop, arith}
use lib.Seq.{get_or-drop}
use Rattle.model.specs.Problems.{size_of}
use Rattle.model.specs.Reading.{table_scope}
use Rattle.problem.proofs.WholeRecord.{scope_place, length_place, whole_few, whole_range, whole_long}
use Rattle.problem.proofs.fields_at.Goals as goal

pub bounds-s-at : goal.bounds-s-at
bounds-s-at c = omega (arith, whole_long c.args.sizes.now c.args.s.now c.args.at c.requires.0)

pub size_of-requires : goal.size_of-requires
size_of-requires c =
    let w = c.requires.0 in (
      omega (arith, whole_long c.args.sizes.now c.args.s.now c.args.at w),
      whole_few c.args.sizes.now c.args.s.now c.args.at w,
      whole_range c.args.sizes.now c.args.s.now c.args.at w,
      c.requires.1,
    )

pub bounds-s-at-2 : goal.bounds-s-at-2
bounds-s-at-2 c = omega (arith, whole_long c.args.sizes.now c.args.s.now c.args.at c.requires.0)

pub returns : goal.returns
returns c =
    let size : c.size_of.result ≡ size_of c.args.sizes.now (table_scope (drop c.args.at c.args.s.now)) =
    rw (scope_place c.args.s.now c.args.at) c.size_of.ensures.0 in
    record {
      objective = rw get_or-drop;
      arity = rw get_or-drop;
      start = refl;
      width = rw (length_place c.args.s.now c.args.at c.args.sizes.now, size);
    }
