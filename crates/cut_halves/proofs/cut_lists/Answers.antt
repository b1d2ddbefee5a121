-- What `cut_lists` leaves to show: each return hands what the callees ensure to one law of Cutting.
use Rattle.std.proofs.Common.{refl, arith}
use Rattle.model.specs.Encoding.{Byte}
use Rattle.model.specs.Reading.{problem_of}
use Rattle.model.proofs.Elements.{all_each}
use Rattle.model.proofs.Cut.{sides_long}
use Rattle.problem.proofs.Accepted.{read_accepted}
use Rattle.cut_halves.proofs.Cutting.{first_full, second_full, cut_halved, merged_full, cut_end}
use Rattle.cut_halves.proofs.cut_lists.Goals as goal

-- ## the first half

pub keep_half-requires : goal.keep_half-requires
keep_half-requires c =
    let p = c.requires in
    (p.0, sides_long (problem_of c.args.s.now) c.args.sides.now p.1, omega arith, omega arith, p.4)

pub returns-in_err-first : goal.returns-in_err-first
returns-in_err-first c =
    let p = c.requires in
    let a = read_accepted c.args.s.now c.args.q p.0 in
    let bytes = all_each Byte 0 c.args.s.now (λ i. omega (arith, c.type_inv.s i)) in
    rw c.from_residual.ensures
    (first_full a bytes c.args.room c.args.sides.now c.args.work.now c.widened-wide.result
    c.widened-wide.ensures p.1 p.2 p.4 (rw c.in_err-first.was at c.keep_half.ensures) refl)

-- ## the second half

pub keep_half-requires-2 : goal.keep_half-requires-2
keep_half-requires-2 c =
    let p = c.requires in
    let long = sides_long (problem_of c.args.s.now) c.args.sides.now p.1 in
    (p.0, long, omega arith, omega arith, omega (arith, p.4, c.keep_half.ensures.long))

pub returns-in_err-second : goal.returns-in_err-second
returns-in_err-second c =
    let p = c.requires in
    let a = read_accepted c.args.s.now c.args.q p.0 in
    let bytes = all_each Byte 0 c.args.s.now (λ i. omega (arith, c.type_inv.s i)) in
    let first = rw c.in_ok-first.was at c.keep_half.ensures in
    rw c.from_residual-in_err-second.ensures
    (second_full a bytes c.args.room c.args.sides.now c.args.work.now c.widened-wide.result
    c.widened-wide.ensures p.1 p.2 p.4 first refl (rw c.in_err-second.was at c.keep_half-2.ensures) refl)

-- ## the sums

pub merge_points-requires : goal.merge_points-requires
merge_points-requires c =
    let p = c.requires in
    let a = read_accepted c.args.s.now c.args.q p.0 in
    let bytes = all_each Byte 0 c.args.s.now (λ i. omega (arith, c.type_inv.s i)) in
    let first = rw c.in_ok-first.was at c.keep_half.ensures in
    let second = rw c.in_ok-second.was at c.keep_half-2.ensures in (
      cut_halved a bytes c.args.room c.args.sides.now c.args.work.now c.widened-wide.result
          c.widened-wide.ensures p.1 p.2 p.4 first refl second refl,
      p.3,
    )

pub returns-in_err-count : goal.returns-in_err-count
returns-in_err-count c =
    let p = c.requires in
    let a = read_accepted c.args.s.now c.args.q p.0 in
    let bytes = all_each Byte 0 c.args.s.now (λ i. omega (arith, c.type_inv.s i)) in
    let first = rw c.in_ok-first.was at c.keep_half.ensures in
    let second = rw c.in_ok-second.was at c.keep_half-2.ensures in
    let merged = rw c.in_err-count.was at c.merge_points.ensures in
    rw c.from_residual-in_err-count.ensures
    (merged_full a bytes c.args.room c.args.sides.now c.args.work.now c.widened-wide.result
    c.widened-wide.ensures p.1 p.2 p.4 first refl second refl merged refl)

pub returns : goal.returns
returns c =
    let p = c.requires in
    let a = read_accepted c.args.s.now c.args.q p.0 in
    let bytes = all_each Byte 0 c.args.s.now (λ i. omega (arith, c.type_inv.s i)) in
    let first = rw c.in_ok-first.was at c.keep_half.ensures in
    let second = rw c.in_ok-second.was at c.keep_half-2.ensures in
    let merged = rw c.in_ok-count.was at c.merge_points.ensures in
    cut_end a bytes c.args.room c.args.sides.now c.args.work.now c.widened-wide.result
    c.widened-wide.ensures p.1 p.2 p.4 first refl second refl merged refl
