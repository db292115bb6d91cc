use Rattle.uca_words.specs.Command.{bare_app}
use Rattle.uca_words.proofs.builders.line_commands.Goals as goal

pub returns : goal.returns
returns c = c.take_subcommands.ensures bare_app c.bare_command.ensures
