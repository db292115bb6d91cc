use Rattle.uca_words.specs.Command.{changing_app}
use Rattle.uca_words.proofs.builders.uca_command.Goals as goal

pub returns : goal.returns
returns c = c.take_subcommands.ensures changing_app c.changing_commands.ensures
