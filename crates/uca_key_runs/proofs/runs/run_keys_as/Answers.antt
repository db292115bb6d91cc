-- The whole run, from what its files mean and what is written after them.
use Rattle.std.specs.Prelude.{⊤, is_some, option_to_list}
use Rattle.std.proofs.Common.{◌∷◌, Err}
use Rattle.uca_values.specs.Content.{properties_of}
use Rattle.uca_run_parts.proofs.Running.{file_before}
use Rattle.uca_run_parts.proofs.WholeRuns.{ended_before}
use Rattle.uca_key_runs.specs.declared.key_files.KeyFiles.{KeyFiles}
use Rattle.uca_key_runs.specs.KeysRun.{RunsKeys, key_files, key_roles}
use Rattle.uca_key_runs.specs.inside.KeyParts.{AreRead}
use Rattle.uca_key_runs.proofs.KeyRuns.{after_files}
use Rattle.uca_key_runs.proofs.runs.run_keys_as.Goals as goal

pub returns-in-Err : goal.returns-in-Err
returns-in-Err g c =
    let fault = c.in-Err.fault in
    ended_before (key_files (is_some c.args.book.now)) (key_roles (is_some c.args.book.now)) (λ content. ⊥)
    (RunsKeys {A = ⊤} c.args.output c.args.asked c.args.input.now c.args.input.now c.args.out.now c.args.out.now (Err fault))
    (c.args.table.now ∷ c.args.properties.now ∷ option_to_list c.args.book.now) (c.read_key_files.new.table ∷ c.read_key_files.new.properties ∷ option_to_list c.read_key_files.new.book)
    ⊤ (KeyFiles g.row.A.Denot) c.args.input.now c.args.out.now fault (λ content never. absurd never)
    c.in-Err.ensures.read (file_before (KeyFiles g.row.A.Denot) (KeyFiles g.row.A.Denot) fault c.in-Err.ensures.of_files) c.in-Err.ensures.failed

pub returns-in-Ok : goal.returns-in-Ok
returns-in-Ok g c =
    let files = c.in-Ok.files in
    let ends = c.print_files in
    after_files {B = KeyFiles g.row.A.Denot} (key_files (is_some c.args.book.now)) (key_roles (is_some c.args.book.now)) (AreRead files.table (properties_of files.properties) files.book files.sums)
    (RunsKeys c.args.output c.args.asked c.args.input.now ends.new.input c.args.out.now ends.new.out ends.result)
    (c.args.table.now ∷ c.args.properties.now ∷ option_to_list c.args.book.now) (c.read_key_files.new.table ∷ c.read_key_files.new.properties ∷ option_to_list c.read_key_files.new.book)
    c.args.input.now ends.new.input c.args.out.now ends.new.out files ends.result ends.ensures.no_file
    (λ content are. ends.ensures.runs content are c.in-Ok.ensures.sums) c.in-Ok.ensures.read c.in-Ok.ensures.failed
    ends.ensures.nothing_written ends.ensures.input_failed ends.ensures.out_failed
