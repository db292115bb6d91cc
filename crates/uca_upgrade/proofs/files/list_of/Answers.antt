-- The reader knows all bytes.
use Rattle.std.proofs.Common.{subst}
use Rattle.std.specs.Prelude.{IfSome}
use Rattle.uca_lines.specs.FileStops.{IsStop}
use Rattle.uca_change_files.specs.Changes.{ChangeContent}
use Rattle.uca_change_files.specs.ChangeTexts as changes
use Rattle.uca_change_files.specs.ChangeTexts.{Says, Cause, IsUnfinished, Refuses}
use Rattle.uca_owned.proofs.InMemory.{or_memory, memory_of}
use Rattle.uca_upgrade.proofs.files.list_of.Goals as goal

pub returns-in-Err-clause-only : goal.returns-in-Err-clause-only
returns-in-Err-clause-only c content means =
    memory_of c.in-Err.fault.kind c.in_memory.result.kind c.in_memory.ensures.kind c.in_memory.ensures.read
    (subst (λ known. IfSome known (λ bytes. (content : ChangeContent) → changes.Means bytes content → IsStop c.in-Err.fault.kind)) c.new.ensures.bytes
    c.in-Err.ensures.only content means)

pub returns-in-Err-clause-rejected : goal.returns-in-Err-clause-rejected
returns-in-Err-clause-rejected c = record {
  left = c.read_changes.new.source.remaining;
  cause = or_memory Says Cause IsUnfinished c.args.bytes.now c.read_changes.new.source.remaining c.in-Err.fault.line c.in_memory.result.line
      c.in-Err.fault.kind c.in_memory.result.kind c.in_memory.ensures.line c.in_memory.ensures.kind
      (subst (λ known. IfSome known (λ bytes. Refuses bytes c.read_changes.new.source.remaining c.in-Err.fault)) c.new.ensures.bytes c.in-Err.ensures.fault);
  not_read = c.in_memory.ensures.not_read;
}
