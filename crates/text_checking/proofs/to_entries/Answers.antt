-- What the loop of `to_entries` leaves to show: one more entry is put anew.
use Rattle.std.proofs.Common.{◌≡◌, ◌∙◌, ap, ℕ, ◌<◌, length, get_or, arith}
use Rattle.text_checking.specs.Sizes.{size_held, domains_at}
use Rattle.text_checking.proofs.Filling.{anew_more, kept_more}
use Rattle.text_checking.proofs.to_entries.Goals as goal

pub loop-i-preserved : goal.loop-i-preserved
loop-i-preserved c =
    let a = c.args in
    let w = c.loop-i in
    let ds = domains_at a.s.now a.declared in
    let old = a.scope.now in
    let inside : w.i < length w.scope = omega (arith, w.auto.scope, c.requires.1) in
    let here = c.size_entry.ensures ∙ ap (λ (v : ℕ). get_or ds v 0) (w.invariant.kept w.i (omega arith)) in
    record {
      anew =
          anew_more w.i w.scope c.size_entry.result (λ k e. size_held a.s.now e ≡ get_or ds (get_or old k 0) 0) inside
          w.invariant.anew here;
      kept = kept_more w.i w.scope c.size_entry.result (λ k. get_or old k 0) w.invariant.kept;
    }
