-- A task as a value: it has a ceiling for each of four objectives.
use mathlib.Core.Path.{◌≡◌}
use mathlib.Core.List.{List}
use lib.ListN.{length}
use mir.Val.{Val}
use denote.Laws.{Is}
use denote.Struct.Declared.{row}
use Rattle.model.specs.Limits.{max_objectives}
use Rattle.groups.specs.declared.Task as DT
use Rattle.groups.specs.contracts.Task.{the_type}

pub ceilings_long :
    (task : DT.Task) (vs : List Val) → Is (row the_type) task vs → length task.ceilings ≡ max_objectives
ceilings_long task vs h = h.1.1.1.1.0.1.0.1
