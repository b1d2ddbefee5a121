-- What `values_at` leaves to show: each variable exists and has a domain size, by which its value is found.
use Rattle.std.proofs.Common.{◌≡◌, ◌<◌, ◌-◌, ◌%◌, ◌∙◌, ℕ, List, length, get_or, drop, refl, sym, ap, arith}
use lib.ListN.{length-map, length-set}
use Rattle.model.specs.Reading.{table_scope}
use Rattle.problem.proofs.Scopes.{whole_inside, scope_many, scope_each}
use Rattle.problem.specs.Records.{Whole}
use Rattle.text_lines.proofs.Digits.{digit_put}
use Rattle.text_networks.specs.Networks.{sizes_over}
use Rattle.text_writing.proofs.Values.{find_begin, find_next, find_end, size_over}
use Rattle.text_writing.proofs.values_at.Goals as goal

-- the record has as many sizes as its arity says
many : (ds s : List ℕ) (at : ℕ) → Whole ds s at
    → length (sizes_over ds (table_scope (drop at s))) ≡ length (table_scope (drop at s))
many ds s at w = length-map (table_scope (drop at s)) (λ v. get_or ds v 0)

pub arity_at-k-requires : goal.arity_at-k-requires
arity_at-k-requires c = whole_inside c.args.sizes.now c.args.s.now c.args.at c.requires.0

pub loop-k-init : goal.loop-k-init
loop-k-init c =
    let a = c.args in
    let inside = whole_inside a.sizes.now a.s.now a.at c.requires.0 in
    let vs = table_scope (drop a.at a.s.now) in
    let ds = sizes_over a.sizes.now vs in
    let all : c.arity_at-k.result ≡ length ds =
    c.arity_at-k.ensures ∙ sym (many a.sizes.now a.s.now a.at c.requires.0 ∙ scope_many a.s.now a.at inside) in
    record { long = refl; found = rw all (find_begin ds a.i _) }

pub scope_at-v-requires : goal.scope_at-v-requires
scope_at-v-requires c =
    let a = c.args in
    (whole_inside a.sizes.now a.s.now a.at c.requires.0, omega (arith, c.loop-k.auto.k, c.arity_at-k.ensures))

pub bounds-sizes-v : goal.bounds-sizes-v
bounds-sizes-v c =
    let a = c.args in
    let inside = whole_inside a.sizes.now a.s.now a.at c.requires.0 in
    simp c.scope_at-v.ensures
    (scope_each a.s.now a.at inside (λ v. v < length a.sizes.now) c.requires.0.range (c.loop-k.k - 1)
    (omega (arith, c.loop-k.auto.k, c.arity_at-k.ensures)))

pub loop-k-preserved : goal.loop-k-preserved
loop-k-preserved c =
    let a = c.args in
    let inside = whole_inside a.sizes.now a.s.now a.at c.requires.0 in
    let vs = table_scope (drop a.at a.s.now) in
    let ds = sizes_over a.sizes.now vs in
    let k : ℕ = c.loop-k.k - 1 in
    let d : ℕ = get_or a.sizes.now c.scope_at-v.result 0 in
    let long = many a.sizes.now a.s.now a.at c.requires.0 in
    let here : k < length ds =
    omega (arith, c.loop-k.auto.k, c.arity_at-k.ensures, long, scope_many a.s.now a.at inside) in
    let size : d ≡ get_or ds k 0 =
    ap (λ (v : ℕ). get_or a.sizes.now v 0) c.scope_at-v.ensures
    ∙ sym (size_over a.sizes.now vs k (omega (arith, long, here))) in
    let put : ℕ = c.loop-k.left % d in
    let room : k < length c.loop-k.values = omega (arith, c.loop-k.auto.k, c.arity_at-k.ensures, c.requires.0.few) in
    record {
      long = length-set c.loop-k.values k put ∙ c.loop-k.invariant.long;
      found =
          find_next ds a.i c.loop-k.values _ c.loop-k.left k c.loop-k.k d here (omega arith) size
          c.loop-k.invariant.found (digit_put k c.loop-k.k put c.loop-k.values (omega arith) room);
    }

pub returns : goal.returns
returns c =
    let a = c.args in
    let vs = table_scope (drop a.at a.s.now) in
    let ds = sizes_over a.sizes.now vs in
    let first : c.loop-k.k ≡ 0 = omega arith in
    rw (← length-map vs (λ v. get_or a.sizes.now v 0))
    (find_end ds a.i c.loop-k.values c.loop-k.left (rw first at c.loop-k.invariant.found))
