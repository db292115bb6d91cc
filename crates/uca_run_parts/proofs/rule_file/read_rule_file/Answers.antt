-- What was read of the bytes decides.
use Rattle.std.proofs.Common.{refl}
use Rattle.uca_values.specs.Content.{properties_of}
use Rattle.uca_run_parts.specs.declared.faults.FileFault.TheVariants.{Rules}
use Rattle.uca_run_parts.proofs.RuleBytes.{only_rules, only_memory, rules_refused}
use Rattle.uca_run_parts.proofs.rule_file.read_rule_file.Goals as goal

pub returns-in-Ok-read_rules_in-clause-only : goal.returns-in-Ok-read_rules_in-clause-only
returns-in-Ok-read_rules_in-clause-only g c =
    only_rules (properties_of c.args.properties.now) c.args.source.now.remaining c.read_bytes.new.source.remaining c.in-Ok.bytes.items c.in-Ok-read_rules_in.rules
    c.in-Ok.ensures.bytes (rw c.deref.ensures.value at c.in-Ok-read_rules_in.ensures.only)

pub returns-clause-only : goal.returns-clause-only
returns-clause-only g c =
    only_memory (properties_of c.args.properties.now) c.args.source.now.remaining c.read_bytes.new.source.remaining c.in-Ok.bytes.items c.in-Err-read_rules_in.fault
    c.in-Ok.ensures.bytes (rw c.deref.ensures.value at c.in-Err-read_rules_in.ensures.only)

pub returns-clause-refused : goal.returns-clause-refused
returns-clause-refused g c = (
  Rules c.in-Err-read_rules_in.fault,
  refl,
  rules_refused (properties_of c.args.properties.now) c.args.source.now.remaining c.read_bytes.new.source.remaining c.in-Ok.bytes.items c.in-Err-read_rules_in.fault
      c.in-Ok.ensures.bytes (rw c.deref.ensures.value at c.in-Err-read_rules_in.ensures.fault),
)
