-- Which of the two files is rejected, or what both mean.
use Rattle.std.proofs.Common.{[], ◌∷◌, refl}
use Rattle.uca_values.specs.Content.{properties_of}
use Rattle.uca_rules.specs.Meaning as rule_files
use Rattle.uca_run_parts.specs.declared.faults.Role.TheVariants as roles
use Rattle.uca_run_parts.specs.Files.{RefusesRules, data_with}
use Rattle.uca_run_parts.specs.ReadFiles.{data_file, rules_file}
use Rattle.uca_run_parts.proofs.FilesLemmas.{stays}
use Rattle.uca_run_parts.proofs.ReadFilesLemmas.{both_read, file_read, file_rejected, first_rejected, second_rejected}
use Rattle.uca_run_parts.proofs.rule_file.read_data_and_rules.Goals as goal

pub returns-in-Err : goal.returns-in-Err
returns-in-Err g c =
    let unread = c.args.rules.now in
    (first_rejected (data_file roles.Data) rules_file data_with (roles.Data ∷ []) (roles.Rules ∷ [])
    (c.args.properties.now ∷ []) (c.read_data_file.new.source ∷ []) (unread ∷ []) (unread ∷ []) properties_of _ (refl, λ points. tt)
    c.in-Err.fault refl (stays unread.failed, tt) c.in-Err.ensures)

pub returns-in-Err-read_rule_file : goal.returns-in-Err-read_rule_file
returns-in-Err-read_rule_file g c =
    let points = properties_of c.in-Ok.properties in
    (second_rejected (data_file roles.Data) rules_file data_with (roles.Data ∷ []) (roles.Rules ∷ [])
    (c.args.properties.now ∷ []) (c.read_data_file.new.source ∷ []) (c.args.rules.now ∷ []) (c.read_rule_file.new.source ∷ [])
    properties_of _ (refl, λ points. tt) (λ rules. rules) c.in-Ok.properties (λ points. (refl, λ rules. tt)) c.in-Ok.ensures
    c.in-Err-read_rule_file.fault refl (file_rejected roles.Rules (rule_files.Means points) (RefusesRules points) c.args.rules.now c.read_rule_file.new.source (λ rules. rules)
    c.in-Err-read_rule_file.fault c.in-Err-read_rule_file.ensures.only c.in-Err-read_rule_file.ensures.refused c.in-Err-read_rule_file.ensures.failed))

pub returns-in-Ok-read_rule_file : goal.returns-in-Ok-read_rule_file
returns-in-Ok-read_rule_file g c =
    let points = properties_of c.in-Ok.properties in
    both_read (data_file roles.Data) rules_file data_with (roles.Data ∷ []) (roles.Rules ∷ [])
    (c.args.properties.now ∷ []) (c.read_data_file.new.source ∷ []) (c.args.rules.now ∷ []) (c.read_rule_file.new.source ∷ [])
    properties_of _ (refl, λ points. tt) (λ rules. rules) c.in-Ok.properties (λ points. (refl, λ rules. tt)) c.in-Ok.ensures
    c.in-Ok-read_rule_file.rules _ refl (file_read roles.Rules (rule_files.Means points) (RefusesRules points) c.args.rules.now c.read_rule_file.new.source (λ rules. rules)
    c.in-Ok-read_rule_file.rules c.in-Ok-read_rule_file.ensures.means c.in-Ok-read_rule_file.ensures.only c.in-Ok-read_rule_file.ensures.failed)
