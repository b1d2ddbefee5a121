-- Work memory that changed before the list was searched: the finding is one about the memory before.
use mathlib.Core.Path.{◌≡◌, ◌∙◌}
use mathlib.Core.List.{List}
use Prim.Native.Nat.{ℕ}
use lib.ListN.{length}
use Rattle.std.specs.Prelude.{Option}
use Rattle.model.specs.Frontiers.{Point}
use Rattle.pass_list.specs.Says.{FoundSays}

pub says_since : {p n room : ℕ} {fs gs : List Point} {was work work' : List ℕ} {f : Option ℕ} → length work ≡ length was
    → fs ≡ gs → FoundSays p n fs room work work' f → FoundSays p n gs room was work' f
says_since long same h =
    record {
      full = rw (← same) h.full;
      count = rw (← same) h.count;
      list = λ e. h.list e ∙ same;
      long = h.long ∙ long;
    }
