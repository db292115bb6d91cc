-- The whole run, from what its two files mean and what is printed of its lines.
use Rattle.std.proofs.Common.{[], ◌∷◌, refl, subst}
use Rattle.uca_values.specs.Content.{properties_of}
use Rattle.uca_change_files.specs.Changes.{ChangeContent}
use Rattle.uca_run_parts.proofs.AffectedLines.{WritesAffected, lines_printed, no_memory, not_read}
use Rattle.uca_change_runs.specs.AffectedRun.{by_changes}
use Rattle.uca_change_runs.specs.ChangeFiles.{changes_with}
use Rattle.uca_change_runs.proofs.affected.run_affected_by_changes.Goals as goal

pub returns-in-Err : goal.returns-in-Err
returns-in-Err g c =
    not_read by_changes c.args.numbers (c.args.properties.now ∷ c.args.changes.now ∷ [])
    (c.read_data_and_changes.new.properties ∷ c.read_data_and_changes.new.changes ∷ []) (λ files. changes_with (properties_of files.properties) files.list)
    c.args.input.now c.args.out.now c.in-Err.fault c.in-Err.ensures

pub returns-in-Err-new : goal.returns-in-Err-new
returns-in-Err-new g c =
    no_memory by_changes c.args.numbers (c.args.properties.now ∷ c.args.changes.now ∷ [])
    (c.read_data_and_changes.new.properties ∷ c.read_data_and_changes.new.changes ∷ []) (λ files. changes_with (properties_of files.properties) files.list)
    c.args.input.now c.args.out.now c.in-Ok.field-0 refl c.in-Ok.ensures

pub returns-in-Ok-new : goal.returns-in-Ok-new
returns-in-Ok-new g c =
    let end = c.print_affected-end in
    let points = properties_of c.in-Ok.field-0.properties in
    let writes =
    subst (λ (list : ChangeContent). WritesAffected by_changes c.args.numbers c.args.input.now end.new.input c.args.out.now end.new.out end.result (changes_with points list))
    c.in-Ok-new.ensures end.ensures.writes in
    lines_printed by_changes c.args.numbers (c.args.properties.now ∷ c.args.changes.now ∷ [])
    (c.read_data_and_changes.new.properties ∷ c.read_data_and_changes.new.changes ∷ []) (λ files. changes_with (properties_of files.properties) files.list)
    c.args.input.now c.args.out.now end.new.input end.new.out c.in-Ok.field-0 end.result c.in-Ok.ensures writes end.ensures.of_lines
    end.ensures.input_failed end.ensures.out_failed
