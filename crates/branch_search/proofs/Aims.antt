-- An aim as a value: its task has a ceiling for each of four objectives.
use Rattle.std.proofs.Common.{◌≡◌, List, length}
use mir.Val.{Val}
use denote.Laws.{Is}
use denote.Struct.Declared.{row}
use Rattle.model.specs.Limits.{max_objectives}
use Rattle.groups.proofs.Tasks.{ceilings_long}
use Rattle.branch_search.specs.declared.Aim as DA
use Rattle.branch_search.specs.contracts.Aim.{the_type}

pub aim_ceilings :
    (aim : DA.Aim) (vs : List Val) → Is (row the_type) aim vs → length aim.task.ceilings ≡ max_objectives
aim_ceilings aim vs h = ceilings_long aim.task _ h.1.1.0
