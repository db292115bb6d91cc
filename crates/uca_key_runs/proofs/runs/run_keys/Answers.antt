-- The run without a header, without lines and without a book; no sum is made of its files.
use Rattle.std.specs.Prelude.{⊤}
use Rattle.std.proofs.Common.{◌≡◌, None, [], ◌∷◌, Err, refl, ap}
use Rattle.uca_weights.specs.AskedSettings.{as_text}
use Rattle.uca_values.specs.Content.{properties_of}
use Rattle.uca_run_parts.specs.Files.{TableAndData, table_and_data, table_and_data_roles, table_with}
use Rattle.uca_run_parts.proofs.Running.{file_before}
use Rattle.uca_run_parts.proofs.WholeRuns.{ended_before}
use Rattle.uca_fingerprint_runs.specs.SummedFiles.{summed_with}
use Rattle.uca_key_runs.specs.Keys.{printed_key}
use Rattle.uca_key_runs.specs.KeysRun.{RunsUnder}
use Rattle.uca_key_runs.proofs.KeyRuns.{after_files}
use Rattle.uca_key_runs.proofs.runs.run_keys.Goals as goal

pub returns-in-Err : goal.returns-in-Err
returns-in-Err g c =
    let fault = c.in-Err.fault in
    let asked = as_text c.args.weighting c.args.depth in
    ended_before table_and_data table_and_data_roles (λ content. ⊥)
    (RunsUnder {A = ⊤} [] printed_key asked c.args.input.now c.args.input.now c.args.out.now c.args.out.now (Err fault))
    (c.args.table.now ∷ c.args.properties.now ∷ []) (c.read_packed_files.new.table ∷ c.read_packed_files.new.properties ∷ [])
    ⊤ ⊤ c.args.input.now c.args.out.now fault (λ content never. absurd never)
    c.in-Err.ensures.read (file_before ⊤ ⊤ fault c.in-Err.ensures.of_files) c.in-Err.ensures.failed

pub returns-in-Ok : goal.returns-in-Ok
returns-in-Ok g c =
    let table = c.in-Ok.table in
    let properties = properties_of c.in-Ok.properties in
    let asked = as_text c.args.weighting c.args.depth in
    let ends = rw c.as_text-asked.ensures at c.print_files.ensures in
    after_files {B = ⊤} table_and_data table_and_data_roles (λ content. table_with table properties ≡ content)
    (RunsUnder [] printed_key asked c.args.input.now c.print_files.new.input c.args.out.now c.print_files.new.out c.print_files.result)
    (c.args.table.now ∷ c.args.properties.now ∷ []) (c.read_packed_files.new.table ∷ c.read_packed_files.new.properties ∷ [])
    c.args.input.now c.print_files.new.input c.args.out.now c.print_files.new.out tt c.print_files.result ends.no_file
    (λ content same. ends.runs (record { files = summed_with (content.table, []) (content.properties, []); book = None })
    (record { same_table = ap (λ (f : TableAndData). f.table) same; same_properties = ap (λ (f : TableAndData). f.properties) same; book = refl; sums = tt }) refl)
    c.in-Ok.ensures.read c.in-Ok.ensures.failed ends.nothing_written ends.input_failed ends.out_failed
