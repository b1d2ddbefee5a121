-- What is found, in the source's kinds.
use Rattle.std.specs.Prelude.{◌&&◌, ◌||◌, ℕ, eqb, ltb}
use Rattle.model.specs.Basics.{pick}
use Rattle.text_words.specs.declared.Kind.{Kind}
use Rattle.text_words.specs.declared.Kind.TheVariants.{Natural, Negative, Other}
use Rattle.text_networks.specs.Findings.{Finding, fine, dialect, stop, fault}
use Rattle.text_networks.specs.Conversions.{bad_text, bad_dialect}
use Rattle.text_checking.specs.declared.Found.{Found}
use Rattle.text_checking.specs.declared.Found.TheVariants.{Nothing, Dialect, Stop, Fault}

unfoldable pub found_of : Finding → Found
found_of fine = Nothing
found_of dialect = Dialect
found_of stop = Stop
found_of fault = Fault

-- the findings in order: from 2 on nothing is read behind them
abbrev pub rank : Found → ℕ
rank Nothing = 0
rank Dialect = 1
rank Stop = 2
rank Fault = 3

-- a finding, and then what follows
unfoldable pub both : Found → Found → Found
both Nothing b = b
both Dialect Nothing = Dialect
both Dialect Dialect = Dialect
both Dialect Stop = Stop
both Dialect Fault = Fault
both Stop b = Stop
both Fault b = Fault

-- a word of this kind and value is to be a number from `least` to `most`; what is found where it is negative
unfoldable pub limited_code : Kind → ℕ → ℕ → ℕ → Found → Found
limited_code Natural value least most below = pick (ltb value least || ltb most value) Dialect Nothing
limited_code Negative value least most below = below
limited_code Other value least most below = Fault

-- the same of a number of tuples
unfoldable pub count_code : Kind → ℕ → ℕ → Found
count_code Natural value arity = pick (eqb arity 0 && ltb 0 value) Fault Nothing
count_code Negative value arity = Stop
count_code Other value arity = Fault

-- the number of a refusal
unfoldable pub number_code : Found → ℕ
number_code Nothing = 0
number_code Dialect = bad_dialect
number_code Stop = bad_dialect
number_code Fault = bad_text
