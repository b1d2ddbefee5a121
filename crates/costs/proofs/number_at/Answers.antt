-- What `number_at` leaves to show: it is a four-byte number of the problem (`number_place`), and lies in it
-- (`entry_inside`).
use Rattle.std.proofs.Common.{sym, ◌∙◌, ◌+◌, ◌*◌, ◌≤◌, length, arith}
use Rattle.problem.proofs.Scopes.{whole_inside}
use Rattle.costs.proofs.TableEntries.{number_place, entry_inside}
use Rattle.costs.proofs.number_at.Goals as goal

pub arity_at-a-requires : goal.arity_at-a-requires
arity_at-a-requires c = whole_inside c.args.sizes.now c.args.s.now c.args.at c.requires.0

-- the number's four bytes are there
inside : (c : goal.After-arity_at-a)
    → c.args.at + 4 + c.arity_at-a.result + 4 * c.args.i + 4 ≤ length c.args.s.now
inside c =
    rw c.arity_at-a.ensures
    (entry_inside c.args.sizes.now c.args.s.now c.args.at c.args.i c.requires.1 c.requires.0)

pub overflow_mul-i : goal.overflow_mul-i
overflow_mul-i c = omega (arith, inside c)

pub overflow_add-at-3 : goal.overflow_add-at-3
overflow_add-at-3 c = omega (arith, inside c)

pub four_at-requires : goal.four_at-requires
four_at-requires c = omega (arith, inside c)

pub returns : goal.returns
returns c =
    c.four_at.ensures
    ∙ rw c.arity_at-a.ensures (sym (number_place c.args.sizes.now c.args.s.now c.args.at c.args.i c.requires.1))
