-- The numbers of refusal, and verdicts: a number together with its place.
use Rattle.std.specs.Prelude.{ℕ, eqb}
use Rattle.model.specs.Basics.{pick}

abbrev pub oversize : ℕ
oversize = 1

abbrev pub cut_short : ℕ
cut_short = 2

abbrev pub stray_mark : ℕ
stray_mark = 3

abbrev pub bad_variables : ℕ
bad_variables = 4

abbrev pub bad_objectives : ℕ
bad_objectives = 5

abbrev pub bad_tables : ℕ
bad_tables = 6

abbrev pub bad_domain : ℕ
bad_domain = 7

abbrev pub bad_owner : ℕ
bad_owner = 8

abbrev pub bad_arity : ℕ
bad_arity = 9

abbrev pub bad_scope : ℕ
bad_scope = 10

abbrev pub leftover : ℕ
leftover = 11

abbrev pub work_short : ℕ
work_short = 12

abbrev pub bad_sides : ℕ
bad_sides = 13

-- "linked" (reference, section 10) is a record whose scope has both sides
abbrev pub linked : ℕ
linked = 14

abbrev pub full : ℕ
full = 15

abbrev pub bad_prefix : ℕ
bad_prefix = 16

-- a number of refusal and its place; 0 and 0 say that nothing is refused
pub record Verdict : Type 0 where
  pub number : ℕ
  pub place : ℕ

abbrev pub verdict : ℕ → ℕ → Verdict
verdict n at = record { number = n; place = at }

abbrev pub accepted : Verdict
accepted = verdict 0 0

-- refused with number n at the place `at`, where n is not 0
abbrev pub refused_at : ℕ → ℕ → Verdict
refused_at at n = pick (eqb n 0) accepted (verdict n at)

-- the first of two verdicts that refuses
abbrev pub first : Verdict → Verdict → Verdict
first a b = pick (eqb a.number 0) b a
