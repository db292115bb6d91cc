-- The whole run, from what its two files mean and what is printed of its lines.
use Rattle.std.proofs.Common.{[], ◌∷◌}
use Rattle.uca_values.specs.Content.{properties_of}
use Rattle.uca_run_parts.specs.AffectedRun.{by_rules}
use Rattle.uca_run_parts.specs.Files.{data_with}
use Rattle.uca_run_parts.proofs.AffectedLines.{lines_printed, not_read}
use Rattle.uca_run_parts.proofs.affected.run_affected.Goals as goal

pub returns-in-Err : goal.returns-in-Err
returns-in-Err g c =
    not_read by_rules c.args.numbers (c.args.properties.now ∷ c.args.rules.now ∷ [])
    (c.read_data_and_rules.new.properties ∷ c.read_data_and_rules.new.rules ∷ []) (λ files. data_with (properties_of files.properties) files.rules)
    c.args.input.now c.args.out.now c.in-Err.fault c.in-Err.ensures

pub returns-in-Ok : goal.returns-in-Ok
returns-in-Ok g c =
    let end = c.print_affected-end in
    lines_printed by_rules c.args.numbers (c.args.properties.now ∷ c.args.rules.now ∷ [])
    (c.read_data_and_rules.new.properties ∷ c.read_data_and_rules.new.rules ∷ []) (λ files. data_with (properties_of files.properties) files.rules)
    c.args.input.now c.args.out.now end.new.input end.new.out c.in-Ok.files end.result c.in-Ok.ensures end.ensures.writes end.ensures.of_lines
    end.ensures.input_failed end.ensures.out_failed
