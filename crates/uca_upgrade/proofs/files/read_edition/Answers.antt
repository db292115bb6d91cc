-- Files that mean something are rejected by no cause of their own, and what is read is what they mean.
use Rattle.std.proofs.Common.{◌≡◌, subst}
use Rattle.std.specs.Prelude.{IfSome}
use Rattle.uca_values.specs.Content.{TableContent, Properties, properties_of}
use Rattle.uca_lines.specs.FileStops.{IsStop}
use Rattle.uca_table.specs.TableLines as tables
use Rattle.uca_table.specs.DataSoFar as data_files
use Rattle.uca_owned.proofs.InMemory.{memory_of, or_memory}
use Rattle.uca_upgrade.proofs.files.read_edition.Goals as goal

pub returns-in-Ok-read_data-clause-only : goal.returns-in-Ok-read_data-clause-only
returns-in-Ok-read_data-clause-only c meant properties mean = (
  subst (λ left. IfSome left (λ bytes. (table : TableContent) → tables.Means bytes table → c.in-Ok.table ≡ table)) c.new.ensures.bytes c.in-Ok.ensures.only
      meant mean.table_file,
  subst (λ left. IfSome left (λ bytes. (ps : Properties) → data_files.Means bytes ps → properties_of c.in-Ok-read_data.properties ≡ ps)) c.new-in-Ok.ensures.bytes
      c.in-Ok-read_data.ensures.only properties mean.data_file,
)

pub returns-in-Err-read_data-clause-only : goal.returns-in-Err-read_data-clause-only
returns-in-Err-read_data-clause-only c meant properties mean =
    memory_of c.in-Err-read_data.fault.kind c.in_memory.result.kind c.in_memory.ensures.kind c.in_memory.ensures.read
    (subst (λ left. IfSome left (λ bytes. (ps : Properties) → data_files.Means bytes ps → IsStop c.in-Err-read_data.fault.kind)) c.new-in-Ok.ensures.bytes
    c.in-Err-read_data.ensures.only properties mean.data_file)

pub returns-in-Err-clause-only : goal.returns-in-Err-clause-only
returns-in-Err-clause-only c meant properties mean =
    memory_of c.in-Err.fault.kind c.in_memory-in-Err.result.kind c.in_memory-in-Err.ensures.kind c.in_memory-in-Err.ensures.read
    (subst (λ left. IfSome left (λ bytes. (table : TableContent) → tables.Means bytes table → IsStop c.in-Err.fault.kind)) c.new.ensures.bytes c.in-Err.ensures.only
    meant mean.table_file)

pub returns-in-Err-clause-fault : goal.returns-in-Err-clause-fault
returns-in-Err-clause-fault c = record {
  left = c.read_table.new.source.remaining;
  cause = or_memory tables.Says tables.Cause tables.IsUnfinished c.args.table.now c.read_table.new.source.remaining c.in-Err.fault.line c.in_memory-in-Err.result.line
      c.in-Err.fault.kind c.in_memory-in-Err.result.kind c.in_memory-in-Err.ensures.line c.in_memory-in-Err.ensures.kind
      (subst (λ left. IfSome left (λ bytes. tables.Refuses bytes c.read_table.new.source.remaining c.in-Err.fault)) c.new.ensures.bytes c.in-Err.ensures.fault);
  not_read = c.in_memory-in-Err.ensures.not_read;
}

pub returns-in-Err-read_data-clause-fault : goal.returns-in-Err-read_data-clause-fault
returns-in-Err-read_data-clause-fault c = (
  (_, subst (λ left. IfSome left (λ bytes. tables.Means bytes c.in-Ok.table)) c.new.ensures.bytes c.in-Ok.ensures.found),
  record {
    left = c.read_data.new.source.remaining;
    cause = or_memory data_files.Says data_files.Cause data_files.IsUnfinished c.args.data_file.now c.read_data.new.source.remaining c.in-Err-read_data.fault.line
        c.in_memory.result.line c.in-Err-read_data.fault.kind c.in_memory.result.kind c.in_memory.ensures.line
        c.in_memory.ensures.kind
        (subst (λ left. IfSome left (λ bytes. data_files.Refuses bytes c.read_data.new.source.remaining c.in-Err-read_data.fault)) c.new-in-Ok.ensures.bytes
        c.in-Err-read_data.ensures.fault);
    not_read = c.in_memory.ensures.not_read;
  },
)
