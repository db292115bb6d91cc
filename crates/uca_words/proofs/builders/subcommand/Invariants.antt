-- The command has the arguments so far.
use Rattle.std.proofs.Common.{take}
use Rattle.clap.specs.Words.{new_app}
use Rattle.uca_words.specs.Command.{StandsFor}
use Rattle.uca_words.specs.inside.Subcommands.{with_arguments}
use Rattle.uca_words.proofs.builders.subcommand.Given as goal

abbrev pub invariant-loop-argument : goal.invariant-loop-argument
invariant-loop-argument l = StandsFor (with_arguments (new_app l.subcommand.name.now) (take l.argument-index l.subcommand.arguments.now)) l.command
