-- The reader knows all bytes.
use Rattle.std.proofs.Common.{subst}
use Rattle.std.specs.Prelude.{IfSome}
use Rattle.uca_values.specs.Content.{TableContent}
use Rattle.uca_lines.specs.FileStops.{IsStop}
use Rattle.uca_table.specs.TableLines as tables
use Rattle.uca_table.specs.TableLines.{Says, Cause, IsUnfinished, Refuses}
use Rattle.uca_owned.proofs.InMemory.{or_memory, memory_of}
use Rattle.uca_owned.proofs.files.table_of.Goals as goal

pub returns-in-Err-clause-only : goal.returns-in-Err-clause-only
returns-in-Err-clause-only c meant means =
    memory_of c.in-Err.fault.kind c.in_memory.result.kind c.in_memory.ensures.kind c.in_memory.ensures.read
    (subst (λ known. IfSome known (λ bytes. (table : TableContent) → tables.Means bytes table → IsStop c.in-Err.fault.kind)) c.new.ensures.bytes c.in-Err.ensures.only
    meant means)

pub returns-in-Err-clause-rejected : goal.returns-in-Err-clause-rejected
returns-in-Err-clause-rejected c = record {
  left = c.read_packed_table.new.source.remaining;
  cause = or_memory Says Cause IsUnfinished c.args.bytes.now c.read_packed_table.new.source.remaining c.in-Err.fault.line c.in_memory.result.line
      c.in-Err.fault.kind c.in_memory.result.kind c.in_memory.ensures.line c.in_memory.ensures.kind
      (subst (λ known. IfSome known (λ bytes. Refuses bytes c.read_packed_table.new.source.remaining c.in-Err.fault)) c.new.ensures.bytes c.in-Err.ensures.fault);
  not_read = c.in_memory.ensures.not_read;
}
