-- Without sums the files mean the same.
use Rattle.std.specs.Prelude.{⊤}
use Rattle.uca_values.specs.Content.{properties_of}
use Rattle.uca_key_runs.proofs.SummedFiles.{two_read, two_rejected}
use Rattle.uca_key_runs.proofs.key_files.read_two_files.Goals as goal

pub returns-in-Ok-read_packed_files-clause-read : goal.returns-in-Ok-read_packed_files-clause-read
returns-in-Ok-read_packed_files-clause-read g c =
    let read = c.in-Ok-read_packed_files in
    two_read {A = ⊤} {B = ⊤} c.args.table.now c.read_packed_files.new.table c.args.properties.now c.read_packed_files.new.properties
    read.table (properties_of read.properties) tt tt read.ensures.read

pub returns-in-Err-read_packed_files-clause-read : goal.returns-in-Err-read_packed_files-clause-read
returns-in-Err-read_packed_files-clause-read g c =
    let read = c.in-Err-read_packed_files in
    two_rejected ⊤ ⊤ c.args.table.now c.read_packed_files.new.table c.args.properties.now c.read_packed_files.new.properties read.fault read.ensures.read
