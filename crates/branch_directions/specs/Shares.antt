-- What the weights of a sum are made from: the shares of the objectives in it, and the ranges that they are divided by.
use Rattle.std.specs.Prelude.{ℕ}

-- the largest of each
abbrev pub max_share : ℕ
max_share = 65536

abbrev pub max_range : ℕ
max_range = 1099511627776
