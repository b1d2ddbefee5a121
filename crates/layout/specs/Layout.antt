-- Where everything stands in work memory, in numbers from its start. In the first form of the search the first 25 say
-- where the group of each variable starts, and where the last one ends. Places.antt has what stands inside a plan.
use Rattle.std.specs.Prelude.{ℕ}

-- the second form's zones stand from the start up to here: 128 rows of eight numbers
abbrev pub zones_end : ℕ
zones_end = 1024

-- the groups, one after another: at most three places for each of 256 records
abbrev pub groups_at : ℕ
groups_at = 25

-- where each record that is searched starts: 256 numbers
abbrev pub records_at : ℕ
records_at = 793

-- what the variables from each one on add to a bound, in four objectives: 25 rows of four numbers
abbrev pub gains_at : ℕ
gains_at = 1049

-- where each record of the problem starts, from which those that are searched are taken: 256 numbers
abbrev pub source_at : ℕ
source_at = 1149

-- points, 14 numbers each (four costs of two numbers, 24 values of a byte): 65 of the list that is made
abbrev pub list_at : ℕ
list_at = 1405

abbrev pub row_width : ℕ
row_width = 14

-- behind the list begins the plan
abbrev pub list_end : ℕ
list_end = 2315

-- a search may change all up to here; behind it the cut call keeps the first half's list
abbrev pub search_end : ℕ
search_end = 7285

-- while two halves are merged: the first row of each half's list, and where both end
abbrev pub first_row : ℕ
first_row = 420

abbrev pub second_row : ℕ
second_row = 65

abbrev pub halves_end : ℕ
halves_end = 8181
