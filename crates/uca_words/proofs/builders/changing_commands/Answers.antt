use Rattle.uca_words.specs.Command.{rules_app}
use Rattle.uca_words.proofs.builders.changing_commands.Goals as goal

pub returns : goal.returns
returns c = c.take_subcommands.ensures rules_app c.rules_commands.ensures
