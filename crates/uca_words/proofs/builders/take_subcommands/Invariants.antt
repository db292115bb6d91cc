-- The command has the subcommands so far.
use Rattle.std.proofs.Common.{IfOk, take}
use Rattle.clap.specs.Words.{App}
use Rattle.uca_words.specs.Command.{StandsFor}
use Rattle.uca_words.specs.inside.Subcommands.{with_subcommands}
use Rattle.uca_words.proofs.builders.take_subcommands.Given as goal

abbrev pub invariant-loop-each : goal.invariant-loop-each
invariant-loop-each l = (app : App) → IfOk l.initial.command (StandsFor app) → IfOk l.command (StandsFor (with_subcommands app (take l.each-index l.subcommands)))
