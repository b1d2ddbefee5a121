-- What the canonical call promises: what its definition says, for every input.
use Rattle.std.specs.Prelude.{◌≡◌, List, ℕ, Result}
use Rattle.model.specs.Reasons.{told, value_or}
use Rattle.model.specs.declared.Refusal.{Refusal}
use Rattle.form_canonical.specs.Canonical.{CanonicalOutcome}
use Rattle.form_canonical.specs.declared.Canonical as DC

-- what is told of a form where there is none
abbrev pub no_form : DC.Canonical
no_form = record { count = 0; key = 0 }

pub record CanonicalSays (o : CanonicalOutcome) (form' : List ℕ) (r : Result DC.Canonical Refusal) : Type 0 where
  pub verdict : told r ≡ o.verdict
  pub count : (value_or no_form r).count ≡ o.count
  pub key : (value_or no_form r).key ≡ o.key
  pub form : form' ≡ o.form
