-- Number 0 says how long the bytes are (`head_good`).
use Rattle.std.proofs.Common.{refl, sym, ◌∙◌, arith}
use Rattle.model.proofs.Words.{two_at}
use Rattle.model.proofs.HeadRecord.{head_good}
use Rattle.problem.proofs.read_head.Goals as goal

pub bounds-s-2 : goal.bounds-s-2
bounds-s-2 c = omega (arith, (head_good c.args.s.now c.requires).long)

pub bounds-s-3 : goal.bounds-s-3
bounds-s-3 c = omega (arith, (head_good c.args.s.now c.requires).long)

pub two_at-tables-requires : goal.two_at-tables-requires
two_at-tables-requires c = omega (arith, (head_good c.args.s.now c.requires).long)

pub read_ceilings-ceilings-requires : goal.read_ceilings-ceilings-requires
read_ceilings-ceilings-requires c =
    let g = head_good c.args.s.now c.requires in
    (g.long, g.objectives.1)

pub returns : goal.returns
returns c =
    record {
      variables = refl;
      objectives = refl;
      tables = c.two_at-tables.ensures.0 ∙ sym (two_at 4 _);
      ceilings = c.read_ceilings-ceilings.ensures;
    }
