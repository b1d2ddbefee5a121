-- What `starts_with` leaves to show.
use Rattle.std.proofs.Common.{◌≡◌, sym, ◌∙◌, ℕ, ◌+◌, ◌*◌, ◌/◌, length, arith}
use Rattle.form_order.proofs.SameBytes.{run_alike}
use Rattle.cache_store.proofs.Comparing.{part_differs, rest_decides}
use Rattle.cache_store.proofs.starts_with.Goals as goal

pub returns-then-not-is_same : goal.returns-then-not-is_same
returns-then-not-is_same c =
    let i : ℕ = c.loop-k.k * 512 in
    sym (part_differs c.args.slot.now c.args.form.now i (i + 512) (omega arith) (omega arith)
    (sym c.is_same.ensures ∙ c.if-not-is_same.true))

pub loop-k-preserved : goal.loop-k-preserved
loop-k-preserved c =
    let i : ℕ = c.loop-k.k * 512 in
    let next : (c.loop-k.k + 1) * 512 ≡ i + 512 = omega arith in
    rw next (run_alike c.args.slot.now c.args.form.now i (i + 512) (omega arith) c.loop-k.invariant
    (sym c.is_same.ensures ∙ c.if-not-is_same.false))

pub returns : goal.returns
returns c =
    let count = length c.args.form.now in
    let all : c.loop-k.k ≡ count / 512 = omega arith in
    rest_decides c.args.slot.now c.args.form.now (count / 512 * 512) _ (omega arith) (rw all at c.loop-k.invariant)
    c.is_same-2.ensures
