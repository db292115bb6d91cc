-- What the table of the subcommands says.
use Rattle.std.specs.Prelude.{List, fold}
use Rattle.clap.specs.Words.{App, Rule, new_app, with_rule, with_subcommand}
use Rattle.uca_words.specs.Command.{word_rule, value_rule, flag_rule}
use Rattle.uca_words.specs.declared.subcommands.Argument.{Argument}
use Rattle.uca_words.specs.declared.subcommands.Argument.TheVariants.{Word, Value, Flag}
use Rattle.uca_words.specs.declared.subcommands.Subcommand.{Subcommand}

abbrev pub argument_rule : Argument → Rule
argument_rule (Word id name help) = word_rule id.now
argument_rule (Value id name help) = value_rule id.now
argument_rule (Flag id help) = flag_rule id.now

abbrev pub with_argument : App → Argument → App
with_argument app argument = with_rule app (argument_rule argument)

abbrev pub with_arguments : App → List Argument → App
with_arguments app arguments = fold with_argument app arguments

abbrev pub subcommand_app : Subcommand → App
subcommand_app subcommand = with_arguments (new_app subcommand.name.now) subcommand.arguments.now

abbrev pub with_one : App → Subcommand → App
with_one app subcommand = with_subcommand app (subcommand_app subcommand).top

abbrev pub with_subcommands : App → List Subcommand → App
with_subcommands app subcommands = fold with_one app subcommands
