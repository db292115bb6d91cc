-- Opening a collator by the bytes of two files: what it keys texts by, and why there is none.
use Rattle.std.specs.Prelude.{◌≡◌, ◌≢◌, ℕ, List, Option, ⊤}
use Rattle.uca_weights.specs.declared.Asked.{Asked}
use Rattle.uca_weights.specs.declared.Numbers.{Numbers}
use Rattle.uca_values.specs.Content.{TableContent, Properties}
use Rattle.uca_values.specs.declared.faults.FaultKind.TheVariants as kinds
use Rattle.uca_values.specs.declared.faults.TableFault.{TableFault}
use Rattle.uca_table.specs.TableLines as tables
use Rattle.uca_table.specs.DataSoFar as data_files
use Rattle.uca_fingerprint.specs.Fingerprints.{fingerprint}
use Rattle.uca_order.specs.Keyings.{Keying, keying}
use Rattle.uca_number_keys.specs.Tables.{TakesTable, RefusesTable}
use Rattle.uca_owned.specs.declared.faults.OpenFault.{OpenFault}
use Rattle.uca_owned.specs.declared.faults.OpenFault.TheVariants.{Table, Data, Digits, Memory}

-- the bytes are a table file and a data file, which mean this
pub record MeanFiles (table_bytes data_bytes : List ℕ) (table : TableContent) (properties : Properties) : Type 0 where
  pub table_file : tables.Means table_bytes table
  pub data_file : data_files.Means data_bytes properties

-- The bytes are a table file and a data file, and texts are keyed by what these mean. The table is one for what is asked
-- for.
pub record Opens (asked : Asked) (table_bytes data_bytes : List ℕ) (k : Keying) : Type 0 where
  pub table : TableContent
  pub properties : Properties
  pub mean : MeanFiles table_bytes data_bytes table properties
  pub taken : TakesTable asked.numbers table properties
  pub same : k ≡ keying asked table properties

-- the fingerprint of what texts are keyed by, which the bytes of two files mean
abbrev pub fingerprint_by : Keying → List ℕ → List ℕ → List ℕ
fingerprint_by k table_bytes data_bytes = fingerprint k.settings table_bytes data_bytes

-- the bytes are a table file and a data file, and this is the fingerprint of what texts are keyed by
pub record HasFingerprint (asked : Asked) (table_bytes data_bytes sum : List ℕ) : Type 0 where
  pub table : TableContent
  pub properties : Properties
  pub mean : MeanFiles table_bytes data_bytes table properties
  pub same : sum ≡ fingerprint_by (keying asked table properties) table_bytes data_bytes

-- Why the bytes of a table file are rejected, whatever is left of them. Reading bytes in memory does not fail.
pub record RejectsTable (bytes : List ℕ) (fault : TableFault) : Type 0 where
  pub left : Option (List ℕ)
  pub cause : tables.Refuses bytes left fault
  pub not_read : fault.kind ≢ kinds.Read

-- why the bytes of a data file are rejected
pub record RejectsData (bytes : List ℕ) (fault : TableFault) : Type 0 where
  pub left : Option (List ℕ)
  pub cause : data_files.Refuses bytes left fault
  pub not_read : fault.kind ≢ kinds.Read

-- the bytes are a table, and those of its data file are rejected
abbrev pub RejectsDataAfter : List ℕ → List ℕ → TableFault → Type 0
RejectsDataAfter table_bytes data_bytes fault = ((table : TableContent) × tables.Means table_bytes table) × RejectsData data_bytes fault

-- The bytes of a table are rejected. Or they mean a table, and those of a data file are rejected. Or they mean a data file too. Then the
-- table is none for numbers that are compared so, or an allocation failed later.
abbrev pub IsOpenCause : Numbers → List ℕ → List ℕ → OpenFault → Type 0
IsOpenCause numbers table_bytes data_bytes (Table fault) = RejectsTable table_bytes fault
IsOpenCause numbers table_bytes data_bytes (Data fault) = RejectsDataAfter table_bytes data_bytes fault
IsOpenCause numbers table_bytes data_bytes (Digits row) =
    (table : TableContent) × (properties : Properties) × MeanFiles table_bytes data_bytes table properties × RefusesTable numbers table properties row
IsOpenCause numbers table_bytes data_bytes Memory = (table : TableContent) × (properties : Properties) × MeanFiles table_bytes data_bytes table properties

-- The error is in no file: the table that is read is none for numbers that are compared so, or an allocation failed.
abbrev pub IsOpenStop : Numbers → TableContent → Properties → OpenFault → Type 0
IsOpenStop numbers table properties (Table fault) = fault.kind ≡ kinds.Memory
IsOpenStop numbers table properties (Data fault) = fault.kind ≡ kinds.Memory
IsOpenStop numbers table properties (Digits row) = RefusesTable numbers table properties row
IsOpenStop numbers table properties Memory = ⊤
