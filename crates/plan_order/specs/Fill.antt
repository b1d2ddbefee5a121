-- The fill of a variable does not wrap: what its parts stay below, whatever the domain sizes are.
use Rattle.std.specs.Prelude.{ℕ}

-- how many values a variable may have as a byte says it, 24 of them together, and 24 products of the two
abbrev pub max_size : ℕ
max_size = 255

abbrev pub max_sizes : ℕ
max_sizes = 6120

abbrev pub max_fill : ℕ
max_fill = 37454400
