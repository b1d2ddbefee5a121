-- Layouts of one problem have the same canonical form, byte for byte.
use mathlib.Core.Path.{◌≡◌, refl, ap, ap₂, sym, ◌∙◌}
use mathlib.Core.List.{List, [], ◌∷◌, ◌++◌, map}
use Prim.Native.Nat.{ℕ}
use lib.ListN.{length}
use Rattle.model.specs.Problems.{Table, Problem, RecordRules}
use Rattle.model.specs.Encoding.{head_bytes, domain_bytes, table_bytes, tables_bytes, encode}
use Rattle.model.specs.Rearrangements.{Rearranged}
use Rattle.model.proofs.Rearranged.{rearranged_length, rearranged_map}
use Rattle.form_canonical.specs.Order.{ordered_by}
use Rattle.form_canonical.specs.Canonical.{turned, turned_tables, canonical}
use Rattle.form_canonical.specs.Statements.{SameProblem}
use Rattle.form_canonical.proofs.FiledBytes.{rearranged_ordered}
use Rattle.form_canonical.proofs.TurnedTables.{turned_tables_count, turned_tables_unique}
use Rattle.form_canonical.proofs.JoinedTables.{same_joined}
use Rattle.form_canonical.proofs.CanonicalRules.{same_head, canonical_head}

turned_map : (ds : List ℕ) (ts : List Table) → turned_tables ds ts ≡ map (turned ds) ts
unfolding turned_tables
turned_map ds [] = refl
turned_map ds (t ∷ ts) = ap (◌∷◌ (turned ds t)) (turned_map ds ts)

turned_rearranged : (ds : List ℕ) (ts us : List Table) → Rearranged ts us
    → Rearranged (turned_tables ds ts) (turned_tables ds us)
turned_rearranged ds ts us h = rw (turned_map ds ts, turned_map ds us) (rearranged_map (turned ds) h)

module _ (q r : Problem) (rules : RecordRules q) (same : SameProblem q r) where
  same_turned : turned_tables q.domains same.between ≡ turned_tables q.domains r.tables
  same_turned =
      turned_tables_unique q.domains same.between r.tables rules.domain_sizes same.layout

  same_count : length q.tables ≡ length r.tables
  same_count =
      rearranged_length same.order ∙ sym (turned_tables_count q.domains same.between)
      ∙ ap length same_turned ∙ turned_tables_count q.domains r.tables

  same_tables : tables_bytes (canonical q).tables ≡ tables_bytes (canonical r).tables
  unfolding canonical
  same_tables =
      let order = turned_rearranged q.domains q.tables same.between same.order in
      same_joined (ordered_by table_bytes (turned_tables q.domains q.tables))
      (ordered_by table_bytes (turned_tables q.domains same.between)) (rearranged_ordered table_bytes order)
      ∙ ap (λ (ts : List Table). tables_bytes (ordered_by table_bytes ts)) same_turned
      ∙ ap (λ (ds : List ℕ). tables_bytes (ordered_by table_bytes (turned_tables ds r.tables))) same.domains

  pub same_form : encode (canonical q) ≡ encode (canonical r)
  unfolding encode canonical
  same_form =
      let heads : head_bytes (canonical q) ≡ head_bytes (canonical r) =
      canonical_head q ∙ same_head q r same.objectives same.ceilings same.domains same_count
      ∙ sym (canonical_head r) in
      ap₂ ◌++◌ (ap₂ ◌++◌ heads (ap domain_bytes same.domains)) same_tables
