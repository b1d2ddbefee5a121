-- What `check_table` leaves to show: something is found, or nothing and there are three small sizes at most.
use Rattle.std.proofs.Common.{◌≡◌, ◌∙◌, sym, subst, true, false, List, ℕ, suc, length, rules}
use Rattle.model.specs.Basics.{All}
use Rattle.model.specs.Problems.{DomainSize}
use Rattle.text_words.specs.Reads.{words_at}
use Rattle.text_networks.specs.Findings.{fine, runs}
use Rattle.text_networks.specs.Networks.{tuple_finding}
use Rattle.text_checking.specs.declared.Found.TheVariants.{Nothing}
use Rattle.text_checking.proofs.Tables.{plain_before, small_plain, runs_fine, table_found, table_fine}
use Rattle.text_checking.proofs.check_table.Goals as goal

pub returns-then-ne : goal.returns-then-ne
returns-then-ne c =
    let a = c.args in
    let some : c.and_then-finding.result ≡ Nothing → ⊥ = search rules in
    table_found a.s.now a.start a.entries.now a.far a.declared c.check_tuples-tuples.result
    c.check_tuples-tuples.ensures c.and_then-finding.result c.and_then-finding.ensures some

pub record_bytes-bytes-requires : goal.record_bytes-bytes-requires
record_bytes-bytes-requires c =
    let none : c.and_then-finding.result ≡ Nothing = search rules in
    let p = plain_before c.args.s.now _ _ _ c.requires.4 _ (sym none ∙ c.and_then-finding.ensures) in
    (p.short, small_plain p)

pub small_sizes-sizes-requires : goal.small_sizes-sizes-requires
small_sizes-sizes-requires c =
    let none : c.and_then-finding.result ≡ Nothing = search rules in
    let p = plain_before c.args.s.now _ _ _ c.requires.4 _ (sym none ∙ c.and_then-finding.ensures) in
    (p.short, small_plain p)

pub tuples_repeat-requires : goal.tuples_repeat-requires
tuples_repeat-requires c =
    let a = c.args in
    let none : c.and_then-finding.result ≡ Nothing = search rules in
    let found = sym none ∙ c.and_then-finding.ensures in
    let p = plain_before a.s.now _ _ _ c.requires.4 _ found in
    let taken = c.small_sizes-sizes.ensures in (
      c.requires.0,
      p.short,
      subst (λ (l : List ℕ). All DomainSize l) (sym taken) (small_plain p),
      subst
          (λ (l : List ℕ). runs a.start.count (tuple_finding l) (suc (length a.entries.now))
          (words_at a.s.now a.start.next)
          ≡ fine)
          (sym taken)
          (runs_fine a.s.now a.start a.entries.now a.far a.declared c.check_tuples-tuples.result
          c.check_tuples-tuples.ensures found p),
      p.constant,
    )

pub returns-then-tuples_repeat : goal.returns-then-tuples_repeat
returns-then-tuples_repeat c =
    let a = c.args in
    let none : c.and_then-finding.result ≡ Nothing = search rules in
    let found = sym none ∙ c.and_then-finding.ensures in
    let bytes = c.record_bytes-bytes in
    table_fine a.s.now a.start a.entries.now a.far a.declared c.check_tuples-tuples.result
    c.check_tuples-tuples.ensures found true (sym c.if-tuples_repeat.true ∙ c.tuples_repeat.ensures)
    (plain_before a.s.now _ _ _ c.requires.4 _ found) bytes.result bytes.ensures.0 bytes.ensures.1

pub returns : goal.returns
returns c =
    let a = c.args in
    let none : c.and_then-finding.result ≡ Nothing = search rules in
    let found = sym none ∙ c.and_then-finding.ensures in
    let bytes = c.record_bytes-bytes in
    table_fine a.s.now a.start a.entries.now a.far a.declared c.check_tuples-tuples.result
    c.check_tuples-tuples.ensures found false (sym c.if-tuples_repeat.false ∙ c.tuples_repeat.ensures)
    (plain_before a.s.now _ _ _ c.requires.4 _ found) bytes.result bytes.ensures.0 bytes.ensures.1
