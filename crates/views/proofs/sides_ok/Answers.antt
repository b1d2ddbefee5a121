-- `sides_ok` meets its contract.
use Rattle.std.proofs.Common.{◌≡◌, ◌∙◌, rules, eq-eqb}
use Rattle.std.specs.Prelude.{nat_le}
use Rattle.std.specs.List.{list_all}
use Rattle.std.proofs.lemmas.Iterator.{YieldsList-from_slice}
use Rattle.std.proofs.lemmas.Iterator.Search.{all_from_yields_List}
use Rattle.views.proofs.SideSteps.{sides_all}
use Rattle.views.proofs.sides_ok.Goals as goal

pub returns-then-sides-n : goal.returns-then-sides-n
returns-then-sides-n c =
    let ss = c.args.sides.now in
    let says : c.all.result ≡ list_all (λ s. nat_le s 1) ss =
    all_from_yields_List (λ s. nat_le s 1) _ _ _ c.all.ensures.ran (YieldsList-from_slice ss cc)
    (λ x b q k. search rules) in
    rw (eq-eqb _ _ c.if-sides-n.true) (says ∙ sides_all ss)
