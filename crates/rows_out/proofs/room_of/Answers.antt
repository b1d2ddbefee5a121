-- `room_of` meets its contract: nothing is divided by 0.
use Rattle.std.proofs.Common.{◌≡◌, ◌∙◌, refl, ap, arith, ℕ, zero, suc, ◌/◌, ◌≤◌, min}
use Rattle.model.specs.Calls.{divided}
use Rattle.rows_out.proofs.room_of.Goals as goal

divided_is : (a b : ℕ) → 1 ≤ b → divided a b ≡ a / b
unfolding divided
divided_is a zero h = absurd (omega arith)
divided_is a (suc b) h = refl

pub returns : goal.returns
returns c =
    rw (divided_is c.args.costs c.args.p c.requires.0, divided_is c.args.choices c.args.n c.requires.1)
    (c.min-2.ensures ∙ ap (min _) c.min.ensures)
