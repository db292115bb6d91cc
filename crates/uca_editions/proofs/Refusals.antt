-- Why nothing is found, from what an audit says of one change or of a change of everything.
use Rattle.std.proofs.Common.{◌≡◌, ◌⊎◌, inl, inr, ⊎_elim}
use Rattle.std.specs.List.{AllByRecursion}
use Rattle.uca_weights.proofs.Lists.{each_weaker}
use Rattle.uca_values.specs.Content.{Entry}
use Rattle.uca_elements.specs.Rows.{IsKey, rows_of}
use Rattle.uca_certificates.specs.Certificates.{CertificateContent}
use Rattle.uca_tailorings.specs.KeptRows.{IsKeptRow, IsKnownRow}
use Rattle.uca_tailorings.specs.Tailorings.{IsCovered}
use Rattle.uca_change_files.specs.Changes.{ChangeContent}
use Rattle.uca_changes.specs.Changes.{Change, IsChangedText, Meets}
use Rattle.uca_changes.specs.declared.conditions.ChangeCondition.{ChangeCondition}
use Rattle.uca_changes.specs.declared.conditions.ChangeCondition.TheVariants.{OldIllFormed, NewIllFormed, RangeChanged, Uncovered, RowChanged, RowMissing, RowExtra, PointChanged, SettingChanged}
use Rattle.uca_changes.specs.declared.faults.ChangeFault.{ChangeFault}
use Rattle.uca_changes.specs.declared.faults.ChangeFault.TheVariants.{Memory}
use Rattle.uca_changes.specs.declared.faults.ChangePlace.{ChangePlace}
use Rattle.uca_editions.specs.ChangeRefusals.{FailsFirstAt, IsFirstRefusal}
use Rattle.uca_editions.specs.inside.Everything.{ListsEverything}
use Rattle.uca_editions.specs.Found.{change_with, HaveNoChange, IsOfTables, MayChange, RefusesChanges}
use Rattle.uca_editions.specs.declared.editions.Editions.{Editions}
use Rattle.uca_editions.proofs.NotAccepted.{fails_nowhere}

-- ---- A change of everything

module _ (change : Change) (lists : ListsEverything change) where
  -- what is asked of rows that are not listed is so of all old rows
  of_listed : (P : Entry → Type 0) → AllByRecursion (λ row. ¬ (IsChangedText change row.key) → P row) change.old.rows
  of_listed P =
      each_weaker (λ row. IsChangedText change row.key) (λ row. ¬ (IsChangedText change row.key) → P row) (λ row listed other. absurd (other listed))
      change.old.rows lists.old_keys

  -- each condition is met that is not on the tables alone
  meets_listed : (condition : ChangeCondition) → IsOfTables condition ⊎ Meets change condition
  meets_listed OldIllFormed = inl tt
  meets_listed NewIllFormed = inl tt
  meets_listed RangeChanged = inr (λ point scalar outside. absurd (outside (lists.points point scalar)))
  meets_listed Uncovered = inr (of_listed (λ row. AllByRecursion (IsCovered change.maps) row.elements))
  meets_listed RowChanged =
      inr (each_weaker (λ row. IsChangedText change row.key) (IsKeptRow change.maps (IsChangedText change) (rows_of change.new.rows))
      (λ row listed other. absurd (other listed)) change.old.rows lists.old_keys)
  meets_listed RowMissing = inr (of_listed (λ row. IsKey (rows_of change.new.rows) row.key))
  meets_listed RowExtra =
      inr (each_weaker (λ row. IsChangedText change row.key) (IsKnownRow (IsChangedText change) (rows_of change.old.rows)) (λ row listed. inr listed)
      change.new.rows lists.new_keys)
  meets_listed PointChanged = inr (λ point scalar outside. absurd (outside (lists.points point scalar)))
  meets_listed SettingChanged = inl tt

  -- so an audit that rejects it names a condition on the tables
  of_tables_if_listed : (fault : ChangeFault) (refusal : IsFirstRefusal change fault) → IsOfTables refusal.condition
  of_tables_if_listed fault refusal =
      ⊎_elim (λ own. own) (λ met. absurd (fails_nowhere change refusal.condition refusal.place met refusal.fails)) (meets_listed refusal.condition)

-- ---- Errors

module _ {T : Type 0} (editions : Editions T) where
  -- a condition on the tables fails whatever is listed
  fails_always : (condition : ChangeCondition) (place : ChangePlace) (changes others : ChangeContent) (certificate other : CertificateContent) →
      IsOfTables condition → FailsFirstAt (change_with editions changes certificate) condition place →
      FailsFirstAt (change_with editions others other) condition place
  fails_always OldIllFormed place changes others certificate other of_tables fails = fails
  fails_always NewIllFormed place changes others certificate other of_tables fails = fails
  fails_always SettingChanged place changes others certificate other of_tables fails = fails
  fails_always RangeChanged place changes others certificate other of_tables fails = absurd of_tables
  fails_always Uncovered place changes others certificate other of_tables fails = absurd of_tables
  fails_always RowChanged place changes others certificate other of_tables fails = absurd of_tables
  fails_always RowMissing place changes others certificate other of_tables fails = absurd of_tables
  fails_always RowExtra place changes others certificate other of_tables fails = absurd of_tables
  fails_always PointChanged place changes others certificate other of_tables fails = absurd of_tables

  -- so no change is accepted where an audit names it
  pub no_change : (fault : ChangeFault) (changes : ChangeContent) (certificate : CertificateContent) →
      (refusal : IsFirstRefusal (change_with editions changes certificate) fault) → IsOfTables refusal.condition → HaveNoChange (change_with editions) fault
  no_change fault changes certificate refusal of_tables = record {
    condition = refusal.condition;
    place = refusal.place;
    is = refusal.is;
    of_tables = of_tables;
    fails = λ others other. fails_always refusal.condition refusal.place changes others certificate other of_tables refusal.fails;
    named = (changes, certificate, refusal);
  }

  -- an audit rejects a change of everything only for the tables
  pub no_change_listed : (fault : ChangeFault) (changes : ChangeContent) (certificate : CertificateContent) →
      ListsEverything (change_with editions changes certificate) →
      IsFirstRefusal (change_with editions changes certificate) fault ⊎ (fault ≡ Memory) → RefusesChanges editions fault
  no_change_listed fault changes certificate lists (inl refusal) =
      inl (no_change fault changes certificate refusal (of_tables_if_listed (change_with editions changes certificate) lists fault refusal))
  no_change_listed fault changes certificate lists (inr memory) = inr memory

  -- each condition on the tables is met
  tables_met : MayChange editions → (condition : ChangeCondition) (changes : ChangeContent) (certificate : CertificateContent) → IsOfTables condition →
      Meets (change_with editions changes certificate) condition
  tables_met may OldIllFormed changes certificate of_tables = may.old
  tables_met may NewIllFormed changes certificate of_tables = may.new
  tables_met may SettingChanged changes certificate of_tables = may.setting
  tables_met may RangeChanged changes certificate of_tables = absurd of_tables
  tables_met may Uncovered changes certificate of_tables = absurd of_tables
  tables_met may RowChanged changes certificate of_tables = absurd of_tables
  tables_met may RowMissing changes certificate of_tables = absurd of_tables
  tables_met may RowExtra changes certificate of_tables = absurd of_tables
  tables_met may PointChanged changes certificate of_tables = absurd of_tables

  -- so there is no error but that of memory
  pub only_memory : MayChange editions → (fault : ChangeFault) → RefusesChanges editions fault → fault ≡ Memory
  only_memory may fault (inl none) =
      absurd (fails_nowhere (change_with editions none.named.0 none.named.1) none.condition none.place
      (tables_met may none.condition none.named.0 none.named.1 none.of_tables) (none.fails none.named.0 none.named.1))
  only_memory may fault (inr memory) = memory
