use Rattle.uca_words.specs.Command.{line_app}
use Rattle.uca_words.proofs.builders.rules_commands.Goals as goal

pub returns : goal.returns
returns c = c.take_subcommands.ensures line_app c.line_commands.ensures
