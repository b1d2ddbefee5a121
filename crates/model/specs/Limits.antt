-- The limits (reference, section 5), each named after the kind that it limits.
use Rattle.std.specs.Prelude.{ℕ}

-- a problem: bytes, variables (n), objectives (p), cost records (r)
abbrev pub max_bytes : ℕ
max_bytes = 60000

abbrev pub max_variables : ℕ
max_variables = 24

abbrev pub max_objectives : ℕ
max_objectives = 4

abbrev pub max_tables : ℕ
max_tables = 256

-- a domain's size (d), a cost record's arity, a list's points
abbrev pub max_domain : ℕ
max_domain = 8

abbrev pub max_arity : ℕ
max_arity = 3

abbrev pub max_points : ℕ
max_points = 64

-- the least length of a work buffer
abbrev pub work_need : ℕ
work_need = 8192

-- the first number that is no byte, that does not fit two bytes, that does not fit four; what every sum stays below
abbrev pub byte_end : ℕ
byte_end = 256

abbrev pub short_end : ℕ
short_end = 65536

abbrev pub word_end : ℕ
word_end = 4294967296

abbrev pub sum_end : ℕ
sum_end = 1099511627776
