-- The settings are those of the parts.
use Rattle.uca_key_writer.proofs.ByValue.{settings_of_parts}
use Rattle.uca_key_writer.proofs.key_memory.KeyMemory.new.Goals as goal

pub returns-clause-settings : goal.returns-clause-settings
returns-clause-settings g c = settings_of_parts c.args.settings c.new.result c.new.ensures.weighting c.new.ensures.depth
