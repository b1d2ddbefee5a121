-- What `open_variable` and `try_value` leave to show: each returns what `opens` and `tries` give.
use Rattle.std.proofs.Common.{ℕ, ◌<◌, length, get_or, ◌∙◌, arith}
use Rattle.model.specs.Limits.{byte_end}
use Rattle.pass_search.proofs.Partials.{standing, standing_branch, bound_fits}
use Rattle.pass_search.proofs.Steps.{left_out, completed, begins, ended, tried}
use Rattle.pass_search.proofs.+open_variable_try_value.Goals as goal

pub open_variable-sharper_bound-sharper-requires : goal.open_variable-sharper_bound-sharper-requires
open_variable-sharper_bound-sharper-requires t c =
    let q = c.requires in
    let placed = q.0.grouped.placed in
    let bytes : (i : ℕ) → get_or c.args.s.now i 0 < byte_end = λ i. omega (arith, c.type_inv.s i) in (
      placed.long,
      omega (arith, q.1.short, placed.variables),
      bound_fits (standing q.0.grouped q.1 _ c.well_formed.0) bytes,
    )

pub open_variable-returns-then-is_dead : goal.open_variable-returns-then-is_dead
open_variable-returns-then-is_dead t c =
    let q = c.requires in
    left_out q.0 (standing q.0.grouped q.1 _ c.well_formed.0) c.args.best c.sharper_bound-sharper.result
    c.sharper_bound-sharper.ensures c.is_dead.result c.is_dead.ensures c.if-is_dead.true

pub open_variable-returns-then-len-n : goal.open_variable-returns-then-len-n
open_variable-returns-then-len-n t c =
    let q = c.requires in
    completed q.0 (standing q.0.grouped q.1 _ c.well_formed.0) c.args.best c.sharper_bound-sharper.result
    c.sharper_bound-sharper.ensures c.is_dead.result c.is_dead.ensures c.if-is_dead.false c.if-len-n.true

pub open_variable-try_value-requires : goal.open_variable-try_value-requires
open_variable-try_value-requires t c =
    let q = c.requires in
    let l : c.args.x.len < length c.args.sizes.now = omega (arith, q.1.short) in (
      omega (arith, q.1.short),
      (q.0, record { stands = q.1; more = l; value = omega arith; rest = c.rest_of-rest.ensures }),
    )

pub open_variable-returns : goal.open_variable-returns
open_variable-returns t c =
    let q = c.requires in
    let a = standing q.0.grouped q.1 _ c.well_formed.0 in
    begins q.0 a c.args.best c.sharper_bound-sharper.result c.sharper_bound-sharper.ensures c.is_dead.result
    c.is_dead.ensures c.if-is_dead.false (omega (arith, q.1.short)) c.try_value.result c.try_value.ensures

pub try_value-open_variable-held-requires : goal.try_value-open_variable-held-requires
try_value-open_variable-held-requires t c =
    (omega (arith, c.with-child.ensures.1, c.requires.1.more), (c.requires.0, c.with-child.ensures.0))

pub try_value-loop-v-preserved : goal.try_value-loop-v-preserved
try_value-loop-v-preserved t c =
    let q = c.requires in
    tried q.0 (standing_branch q.0.grouped q.1 _ c.well_formed.0) c.loop-v.held c.loop-v.v c.loop-v-test.true
    c.with-child.result c.open_variable-held.result c.with-child.ensures.2 c.open_variable-held.ensures
    ∙ c.loop-v.invariant

pub try_value-returns : goal.try_value-returns
try_value-returns t c =
    let q = c.requires in
    let a = standing_branch q.0.grouped q.1 _ c.well_formed.0 in
    ended q.0 a c.loop-v.held c.loop-v.v c.loop-v-test.false ∙ c.loop-v.invariant
