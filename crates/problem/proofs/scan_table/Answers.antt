-- The chain of `table_number`, one law of TableFields for each return.
use Rattle.std.proofs.Common.{◌≡◌, sym, ◌∙◌, List, ℕ, ◌+◌, ◌-◌, ◌*◌, ◌≤◌, length, get_or, take, drop, Err, arith}
use Rattle.std.proofs.lemmas.Result.{err_from_is_err_and}
use lib.ListN.{length-drop}
use lib.Seq.{get_or-drop}
use borrow.Author.Tests.{leb-true, leb-false}
use Rattle.model.specs.Problems.{size_of}
use Rattle.model.specs.Encoding.{letter_c, letter_f}
use Rattle.model.specs.Reading.{start_number, table_arity, table_length, table_number}
use Rattle.model.specs.Reasons.{number_of}
use Rattle.model.specs.declared.Reason.{Reason}
use Rattle.model.proofs.Marks.{start_marked}
use Rattle.model.proofs.Reasons.{number_positive}
use Rattle.problem.specs.Says.{ScanSays}
use Rattle.problem.proofs.ScopeRule.{scope_range}
use Rattle.problem.proofs.TableFields.{table_start, table_owner, table_arity_lem, table_cut, table_scope_lem}
use Rattle.problem.proofs.TableFields.{table_short, table_whole}
use Rattle.problem.proofs.WholeRecord.{scope_place, length_place}
use Rattle.problem.proofs.scan_table.Goals as goal

refused : {p : ℕ} {ds s : List ℕ} (q : Reason) → table_number p ds s ≡ number_of q → ScanSays p ds s (Err q)
refused q h = record { number = sym h; width = tt }

-- the record at `at`, by the places of the list that it stands in
module _ (s : List ℕ) (at : ℕ) where
  marked : 0 ≡ start_number letter_c letter_f 2 (drop at s) → at + 4 ≤ length s
  marked e = omega (arith, (start_marked letter_c letter_f 2 (drop at s) (sym e)).long, length-drop at s)

  there : 4 + get_or s (at + 3) 0 ≤ length s - at → 4 + table_arity (drop at s) ≤ length (drop at s)
  there h = rw (get_or-drop, length-drop) h

  measured : (ds : List ℕ) (size : ℕ) → size ≡ size_of ds (take (get_or s (at + 3) 0) (drop (at + 4) s))
      → 4 + (get_or s (at + 3) 0 + 4 * size) ≡ table_length ds (drop at s)
  measured ds size e = rw (length_place, scope_place, ← e)

pub returns-in_err-check_start : goal.returns-in_err-check_start
returns-in_err-check_start c =
    let p = err_from_is_err_and c.from_residual.result c.from_residual.ensures.1 in
    let e = c.in_err-check_start.ensures in
    rw (p.1, p.2) (refused _ (rw e (table_start _ _ _ (λ z. number_positive _ (e ∙ z)))))

pub bounds-s-at : goal.bounds-s-at
bounds-s-at c = omega (arith, marked c.args.s.now c.args.at c.in_ok-check_start.ensures)

pub returns-then-p-s : goal.returns-then-p-s
returns-then-p-s c = refused _ (table_owner _ _ _ (sym c.in_ok-check_start.ensures) (rw get_or-drop c.if-p-s.true))

pub bounds-s-at-2 : goal.bounds-s-at-2
bounds-s-at-2 c = omega (arith, marked c.args.s.now c.args.at c.in_ok-check_start.ensures)

pub returns-then-not-allows_arity : goal.returns-then-not-allows_arity
returns-then-not-allows_arity c =
    let many = leb-false _ _ (sym c.allows_arity.ensures ∙ c.if-not-allows_arity.true) in
    refused _ (table_arity_lem _ _ _ (sym c.in_ok-check_start.ensures) (rw get_or-drop c.if-p-s.false)
    (rw get_or-drop many))

pub returns-then-left-a : goal.returns-then-left-a
returns-then-left-a c =
    let few = leb-true _ _ (sym c.allows_arity.ensures ∙ c.if-not-allows_arity.false) in
    refused _ (table_cut _ _ _ (sym c.in_ok-check_start.ensures) (rw get_or-drop c.if-p-s.false) (rw get_or-drop few)
    (rw (get_or-drop, length-drop) c.if-left-a.true))

pub returns-then-not-scope_ok : goal.returns-then-not-scope_ok
returns-then-not-scope_ok c =
    let few = leb-true _ _ (sym c.allows_arity.ensures ∙ c.if-not-allows_arity.false) in
    refused _ (table_scope_lem _ _ _ (sym c.in_ok-check_start.ensures) (rw get_or-drop c.if-p-s.false)
    (rw get_or-drop few) (there _ _ c.if-left-a.false)
    (rw scope_place (sym c.scope_ok.ensures ∙ c.if-not-scope_ok.true)))

pub size_of-requires : goal.size_of-requires
size_of-requires c = (
  omega arith,
  leb-true _ _ (sym c.allows_arity.ensures ∙ c.if-not-allows_arity.false),
  scope_range _ _ (sym c.scope_ok.ensures ∙ c.if-not-scope_ok.false),
  c.requires.1,
)

pub returns-then-left-length : goal.returns-then-left-length
returns-then-left-length c =
    let few = leb-true _ _ (sym c.allows_arity.ensures ∙ c.if-not-allows_arity.false) in
    refused _ (table_short _ _ _ (sym c.in_ok-check_start.ensures) (rw get_or-drop c.if-p-s.false) (rw get_or-drop few)
    (there _ _ c.if-left-a.false) (rw scope_place (sym c.scope_ok.ensures ∙ c.if-not-scope_ok.false))
    (rw (length-drop, ← measured c.args.s.now c.args.at c.args.sizes.now _ c.size_of.ensures.0) c.if-left-length.true))

pub returns : goal.returns
returns c =
    let few = leb-true _ _ (sym c.allows_arity.ensures ∙ c.if-not-allows_arity.false) in
    let long = measured c.args.s.now c.args.at c.args.sizes.now _ c.size_of.ensures.0 in
    record {
      number = sym (table_whole _ _ _ (sym c.in_ok-check_start.ensures) (rw get_or-drop c.if-p-s.false)
          (rw get_or-drop few) (there _ _ c.if-left-a.false)
          (rw scope_place (sym c.scope_ok.ensures ∙ c.if-not-scope_ok.false))
          (rw (length-drop, ← long) c.if-left-length.false));
      width = long;
    }
