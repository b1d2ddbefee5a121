-- Texts by computation: which are accepted, and which are told 17 or 18; what a text holds, and what is written.
use mathlib.Core.Path.{◌≡◌, refl}
use mathlib.Core.Bool.{Bool, true, false}
use mathlib.Core.List.{List, [], ◌∷◌, ◌++◌}
use Prim.Native.Nat.{ℕ, zero, suc}
use Prim.Native.Char.{code}
use Prim.Native.String.{String, [] as []ˢ, ◌∷◌ as ◌∷ˢ◌}
use Rattle.model.specs.Refusals.{verdict, accepted, refused_at}
use Rattle.model.specs.Problems.{Problem}
use Rattle.model.specs.Encoding.{encode}
use Rattle.model.proofs.Computing.{computing}
use Rattle.text_words.specs.Texts.{joined, words_of, all_digits, value_from, unsigned, negated, term_of, value_of}
use Rattle.text_words.specs.Texts.{digits_of, line}
use Rattle.text_networks.specs.Findings.{Finding, fine, dialect, stop, fault, and_then, find_if, field}
use Rattle.text_networks.specs.Findings.{values_in, runs}
use Rattle.text_networks.specs.Networks.{repeated, is_given, repeated_tuple, values_finding, tuples_of}
use Rattle.text_networks.specs.Networks.{function_finding, functions_finding, largest_of, network_finding, index_from}
use Rattle.text_networks.specs.Networks.{with_tuples, function_table, function_tables, network_problem}
use Rattle.text_networks.specs.NetworkTexts.{nonzero, values_from, reversed, tuple_lines, function_text}
use Rattle.text_networks.specs.NetworkTexts.{functions_text, head_text, written, text_of, network_text}
use Rattle.text_networks.specs.Conversions.{number_of, text_verdict, to_text_verdict}
use Rattle.text_networks.proofs.FineWords.{Found}

-- one name that opens every definition
unfoldable opened : Unit {0}
unfolding computing joined words_of all_digits value_from unsigned negated term_of value_of digits_of line and_then
    field values_in runs repeated is_given repeated_tuple values_finding tuples_of function_finding functions_finding
    largest_of
    network_finding index_from with_tuples function_table function_tables network_problem nonzero values_from reversed
    tuple_lines function_text functions_text head_text written text_of number_of text_verdict to_text_verdict
opened = tt

-- a text as bytes
abbrev bytes : String → List ℕ
bytes []ˢ = []
bytes (c ∷ˢ s) = code c ∷ bytes s

-- ## texts that are read

-- where something is found, the limit of bytes adds nothing
found_first : (f : Finding) (long : Bool) → Found f → and_then f (find_if long dialect) ≡ f
unfolding and_then
found_first fine long h = absurd h
found_first dialect true h = refl
found_first dialect false h = refl
found_first stop long h = refl
found_first fault long h = refl

-- a text, and the number that it is told, 0 where it is accepted
pub data Row : Type 0 where
  tells : (t : String) (n : ℕ) → text_verdict (bytes t) ≡ refused_at 0 n → Row

-- rows by what is found: not the format; refused, and reading goes on; refused, and reading stops; accepted
module _ (t : String) where
  abbrev finding : Finding
  finding = network_finding (words_of (bytes t))

  told : (f : Finding) → Found f → finding ≡ f → text_verdict (bytes t) ≡ refused_at 0 (number_of f)
  unfolding text_verdict
  told f some h = rw (h, found_first f _ some)

  not_format : finding ≡ fault → Row
  unfolding number_of
  not_format h = tells t 17 (told fault tt h)

  refused : finding ≡ dialect → Row
  unfolding number_of
  refused h = tells t 18 (told dialect tt h)

  stopped : finding ≡ stop → Row
  unfolding number_of
  stopped h = tells t 18 (told stop tt h)

  taken : text_verdict (bytes t) ≡ accepted → Row
  taken h = tells t 0 h

-- 17
pub format_rows : List Row
unfolding opened
format_rows =
    -- the empty text; white space only; a name only
    not_format "" refl ∷
    not_format " \n" refl ∷
    not_format "P" refl ∷
    -- the largest domain size is false: too small, too large
    not_format "P 2 2 0 9\n2 3\n" refl ∷
    not_format "P 2 4 0 9\n2 3\n" refl ∷
    -- an undeclared variable; an undeclared value
    not_format "P 1 2 1 9\n2\n1 1 0 0\n" refl ∷
    not_format "P 1 2 1 9\n2\n1 0 0 1\n2 5\n" refl ∷
    -- a word behind the last function; a function, or the cost of a tuple, is missing
    not_format "P 1 2 0 9\n2\n0" refl ∷
    not_format "P 1 2 1 9\n2\n" refl ∷
    not_format "P 1 2 1 9\n2\n1 0 0 1\n1" refl ∷
    -- arity 0 with a tuple
    not_format "P 1 2 1 9\n2\n0 5 1\n5\n" refl ∷
    -- a negative number of variables, largest domain size, number of functions, variable, value
    not_format "P -1 2 0 9\n2\n" refl ∷
    not_format "P 1 -2 0 9\n2\n" refl ∷
    not_format "P 1 2 -1 9\n2\n" refl ∷
    not_format "P 1 2 1 9\n2\n1 -1 0 0\n" refl ∷
    not_format "P 1 2 1 9\n2\n1 0 0 1\n-1 5\n" refl ∷
    -- a sign without digits; two signs; a digit and a letter
    not_format "P 1 2 0 -\n2\n" refl ∷
    not_format "P 1 2 0 +-9\n2\n" refl ∷
    not_format "P 1 2 0 9\n2x\n" refl ∷
    -- a cost of 4294967296, and a fault behind it
    not_format "P 1 2 1 9\n2\n1 0 4294967296 1\n2 5\n" refl ∷
    -- a value beyond 64 bits that is the domain size
    not_format "P 1 18446744073709551617 1 9\n18446744073709551617\n1 0 0 1\n18446744073709551617 5\n" refl ∷
    []

-- 18, where reading goes on
pub dialect_rows : List Row
unfolding opened
dialect_rows =
    -- no variables; 25 variables
    refused "P 0 0 0 9\n" refl ∷
    refused "P 25 1 0 9\n1 1 1 1 1 1 1 1 1 1 1 1 1 1 1 1 1 1 1 1 1 1 1 1 1\n" refl ∷
    -- domain size 0; domain size 9; arity 4
    refused "P 1 0 0 9\n0\n" refl ∷
    refused "P 1 9 0 9\n9\n" refl ∷
    refused "P 4 1 1 9\n1 1 1 1\n4 0 1 2 3 0 0\n" refl ∷
    -- a cost of 4294967296, default or a tuple's; so great an upper bound, and 0
    refused "P 1 2 1 9\n2\n1 0 4294967296 0\n" refl ∷
    refused "P 1 2 1 9\n2\n1 0 0 1\n1 4294967296\n" refl ∷
    refused "P 1 2 0 4294967296\n2\n" refl ∷
    refused "P 1 2 0 0\n2\n" refl ∷
    -- a tuple twice; a variable twice in a scope
    refused "P 1 2 1 9\n2\n1 0 0 2\n1 5\n1 5\n" refl ∷
    refused "P 1 2 1 9\n2\n2 0 0 0 0\n" refl ∷
    -- a value beyond 64 bits, below its domain size
    refused "P 1 18446744073709551617 1 9\n18446744073709551617\n1 0 0 1\n18446744073709551616 5\n" refl ∷
    []

-- 18, where reading stops
pub stop_rows : List Row
unfolding opened
stop_rows =
    -- a negative upper bound, domain size, arity, default cost, number of tuples, cost of a tuple
    stopped "P 1 2 0 -9\n2\n" refl ∷
    stopped "P 1 2 0 9\n-2\n" refl ∷
    stopped "P 1 2 1 9\n2\n-1 0 0 0\n" refl ∷
    stopped "P 1 2 1 9\n2\n1 0 -1 0\n" refl ∷
    stopped "P 1 2 1 9\n2\n1 0 0 -1\n" refl ∷
    stopped "P 1 2 1 9\n2\n1 0 0 1\n1 -5\n" refl ∷
    -- a negative cost, and a fault behind it that is not read; the same behind a cost of 4294967296
    stopped "P 1 2 1 9\n2\n1 0 -1 1\n2 x" refl ∷
    stopped "P 1 2 1 9\n2\n1 0 4294967296 1\n1 -5 x" refl ∷
    -- what was announced may be missing behind it; a fault before it is told
    stopped "P 1 2 9 -1" refl ∷
    not_format "P 1 2 1 9\n2\n1 1 -1 0\n" refl ∷
    []

pub accepted_rows : List Row
unfolding opened
accepted_rows =
    -- no functions; on one line
    taken "P 1 2 0 9 2" refl ∷
    -- the least upper bound; `-0`, `+3` and `007`
    taken "P 1 2 0 1\n2\n" refl ∷
    taken "P 1 +3 1 007\n3\n1 -0 0 1\n002 5\n" refl ∷
    -- tab, carriage return, vertical tab, form feed
    taken "\tP\t1 2 0 9\r\n2\u{b}\u{c}\r\n" refl ∷
    -- any name; the greatest cost and upper bound, domain size 8, arity 3, a scope in any order
    taken "-1 3 8 1 4294967295\n8 1 1\n3 2 0 1 4294967295 0\n" refl ∷
    []

-- ## what a text holds, and what is written

-- over one variable with two values: a ceiling, a constant, and a table
abbrev tiny : ℕ → ℕ → List ℕ → Problem
tiny ceiling constant costs =
    record {
      objectives = 1;
      ceilings = ceiling ∷ [];
      domains = 2 ∷ [];
      tables =
          record { objective = 0; scope = []; costs = constant ∷ [] } ∷
          record { objective = 0; scope = 0 ∷ []; costs = costs } ∷
          [];
    }

-- a problem with arities 0, 1 and 2: a constant, a table with one entry that is not 0, a scope written (1, 0)
abbrev small : Problem
small =
    record {
      objectives = 1;
      ceilings = 99 ∷ [];
      domains = 2 ∷ 3 ∷ [];
      tables =
          record { objective = 0; scope = []; costs = 7 ∷ [] } ∷
          record { objective = 0; scope = 0 ∷ []; costs = 0 ∷ 4 ∷ [] } ∷
          record { objective = 0; scope = 1 ∷ 0 ∷ []; costs = 10 ∷ 0 ∷ 0 ∷ 12 ∷ 0 ∷ 13 ∷ [] } ∷
          [];
    }

-- the constant is a default; entries that are not 0 follow in table order, each behind its values in the scope's order
pub small_written :
    network_text small ≡ bytes "P 2 3 3 100\n2 3\n0 7 0\n1 0 0 1\n1 4\n2 1 0 0 3\n0 0 10\n1 1 12\n2 1 13\n"
unfolding opened
small_written = refl

-- a table of zeros has no tuples; the ceiling 0 becomes the upper bound 1
pub zeros_written : network_text (tiny 0 0 (0 ∷ 0 ∷ [])) ≡ bytes "P 1 2 2 1\n2\n0 0 0\n1 0 0 0\n"
unfolding opened
zeros_written = refl

-- what is forbidden is written as the upper bound, in a table and without variables; what reaches it stays
pub forbidden_written :
    network_text (tiny 7 4294967295 (4294967295 ∷ 9 ∷ [])) ≡ bytes "P 1 2 2 8\n2\n0 8 0\n1 0 0 2\n0 8\n1 9\n"
unfolding opened
forbidden_written = refl

-- the greatest ceiling has no upper bound; the one below it has the greatest, which is what is forbidden there
pub ceiling_refused : to_text_verdict (encode (tiny 4294967295 0 (0 ∷ 0 ∷ []))) ≡ verdict 18 0
unfolding opened
ceiling_refused = refl

pub ceiling_accepted : to_text_verdict (encode (tiny 4294967294 0 (0 ∷ 0 ∷ []))) ≡ accepted
unfolding opened
ceiling_accepted = refl

pub ceiling_written :
    network_text (tiny 4294967294 0 (4294967295 ∷ 4294967294 ∷ []))
    ≡ bytes "P 1 2 2 4294967295\n2\n0 0 0\n1 0 0 2\n0 4294967295\n1 4294967294\n"
unfolding opened
ceiling_written = refl

-- tuples in any order, and a default where there is none
pub small_held :
    network_problem (words_of (bytes "any 2 3 3 100 2 3 0 7 0 1 0 4 1 0 0 2 1 0 0 3 2 1 13 1 1 12 0 0 10")) ≡ small
unfolding opened
small_held = refl

-- the ceiling is one below the upper bound, from 1 to the greatest; costs stay as they are, also at the bound and above
pub least_held : network_problem (words_of (bytes "P 1 2 2 1\n2\n0 0 0\n1 0 0 1\n1 1\n")) ≡ tiny 0 0 (0 ∷ 1 ∷ [])
unfolding opened
least_held = refl

pub greatest_held :
    network_problem (words_of (bytes "P 1 2 2 4294967295\n2\n0 0 0\n1 0 4294967295 1\n1 4294967294\n"))
    ≡ tiny 4294967294 0 (4294967295 ∷ 4294967294 ∷ [])
unfolding opened
greatest_held = refl

pub costs_held :
    network_problem (words_of (bytes "P 1 2 2 8\n2\n0 4294967295 0\n1 0 9 1\n0 8\n")) ≡ tiny 7 4294967295 (8 ∷ 9 ∷ [])
unfolding opened
costs_held = refl

-- ## long texts

-- a text, and n times another behind it
abbrev repeats : String → ℕ → String → List ℕ
repeats t zero u = bytes t
repeats t (suc n) u = repeats t n u ++ bytes u

-- more than 256 functions
pub many_functions : text_verdict (repeats "P 1 1 257 9\n1\n" 257 "0 0 0\n") ≡ refused_at 0 18
unfolding opened
many_functions = refl

-- records of more than 60,000 bytes: 30 tables over three variables, each with a default only
pub many_bytes : text_verdict (repeats "P 3 8 30 9\n8 8 8\n" 30 "3 0 1 2 0 0\n") ≡ refused_at 0 18
unfolding opened
many_bytes = refl
