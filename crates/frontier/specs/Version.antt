-- The version of the interface (docs/INTERFACE.md), as one number: major, minor and patch in steps of a thousand.
use Rattle.std.specs.Prelude.{ℕ, ◌+◌, ◌*◌}

abbrev pub major : ℕ
major = 3

abbrev pub minor : ℕ
minor = 1

abbrev pub patch : ℕ
patch = 0

abbrev pub version : ℕ
version = major * 1000000 + minor * 1000 + patch
