-- The head of a cost function in which nothing is refused, as it is read.
use mathlib.Core.Path.{◌≡◌, ap, subst, ◌∙◌}
use mathlib.Core.List.{List}
use Prim.Native.Nat.{ℕ, ◌+◌, ◌≤◌, ◌<◌}
use native.Mathlib.Omega.{arith}
use lib.ListN.{length, drop, length-drop}
use lib.Seq.{drop-drop}
use Rattle.model.specs.Limits.{max_arity, word_end}
use Rattle.model.specs.Problems.{InRange, size_of}
use Rattle.text_words.specs.Reads.{words_at, NumberSays}
use Rattle.text_words.specs.declared.Number as DN
use Rattle.text_networks.specs.Findings.{Words, fine, values_in}
use Rattle.text_networks.specs.Networks.{arity_in, scope_in, default_in, function_finding, sizes_over}
use Rattle.text_networks.proofs.FineWords.{FineFunction, function_fine}
use Rattle.text_reading.specs.Functions.{ScopeSays, FunctionSays}
use Rattle.text_reading.specs.declared.Scope as DS
use Rattle.text_reading.proofs.Numbers.{Passed, none_passed, one_passed, passed_value}
use Rattle.text_reading.proofs.Counts.{length_end, words_few, count_small}

-- a function at a place of a text
pub record Placed (s : List ℕ) (at : ℕ) (ds : List ℕ) : Type 0 where
  pub within : at ≤ length s
  pub short : length s < length_end
  pub right : function_finding ds (words_at s at) ≡ fine

module _ {s : List ℕ} {at : ℕ} {ds : List ℕ} (p : Placed s at ds) where
  abbrev ws : Words
  ws = words_at s at

  function : FineFunction ds ws
  function = function_fine ds ws p.right

  module _ {arity : DN.Number} (a-says : NumberSays s at arity) where
    arity_passed : Passed s at 1 arity.end
    arity_passed = one_passed (none_passed s at p.within) arity a-says

    arity_read : arity.value ≡ arity_in ws
    arity_read = passed_value (none_passed s at p.within) arity a-says (omega (arith, function.arity))

    pub arity_few : arity.value ≤ max_arity
    arity_few = rw arity_read function.arity

    same_scope : values_in arity.value (words_at s arity.end) ≡ scope_in ws
    same_scope = rw (arity_read, arity_passed.words)

    pub scope_range : InRange (length ds) (values_in arity.value (words_at s arity.end))
    scope_range = rw same_scope function.scope

    module _ {scope : DS.Scope} (s-says : ScopeSays s arity.end arity.value ds scope) where
      scope_passed : Passed s at (1 + arity_in ws) scope.end
      scope_passed =
          record {
            within = s-says.within;
            words = s-says.rest ∙ rw (arity_read, arity_passed.words) (drop-drop (arity_in ws) 1 ws);
          }

      module _ {default : DN.Number} (d_says : NumberSays s scope.end default) where
        default_read : default.value ≡ default_in ws
        default_read = passed_value scope_passed default d_says (omega (arith, function.default))

        pub default_fits : default.value < word_end
        default_fits = rw default_read function.default

        default_passed : Passed s at (2 + arity_in ws) default.end
        default_passed =
            let e : 1 + arity_in ws + 1 ≡ 2 + arity_in ws = omega arith in
            subst (λ (n : ℕ). Passed s at n default.end) e (one_passed scope_passed default d_says)

        pub function_says : {count : DN.Number} → NumberSays s default.end count
            → FunctionSays s at ds
            (record { scope = scope; default = default.value; count = count.value; end = count.end })
        function_says {count} c-says =
            let a : scope.arity ≡ arity.value = s-says.arity in
            let few : length ws < length_end = omega (arith, words_few (drop at s), length-drop at s, p.short) in
            let e : 2 + arity_in ws + 1 ≡ 3 + arity_in ws = omega arith in
            record {
              arity = a ∙ arity_read;
              variables = rw a (s-says.variables ∙ same_scope);
              sizes = rw a (s-says.sizes ∙ ap (sizes_over ds) same_scope);
              size = s-says.size ∙ ap (size_of ds) same_scope;
              default = default_read;
              count = passed_value default_passed count c-says (count_small ds ws p.right few);
              within = c-says.within;
              rest = (one_passed default_passed count c-says).words ∙ ap (λ (n : ℕ). drop n ws) e;
            }
