-- The arguments are added in their order.
use Rattle.std.proofs.Common.{◌≡◌, ◌||◌, ◌∙◌, Bool, false, ℕ, ◌+◌, ◌<◌, List, length, take, get_or, ap, subst, sym}
use Rattle.std.proofs.lemmas.List.{take_all}
use Rattle.std.proofs.lemmas.List.Sums.{fold_more}
use Rattle.clap.specs.declared.builder.arg.Arg.{Arg}
use Rattle.clap.specs.declared.builder.command.Command.{Command}
use Rattle.clap.specs.Words.{AddsArg, App, Rule, new_app, rule_of, with_rule}
use Rattle.uca_words.specs.declared.subcommands.Argument.{Argument}
use Rattle.uca_words.specs.Command.{StandsFor}
use Rattle.uca_words.specs.inside.Subcommands.{with_argument, with_arguments}
use Rattle.uca_words.proofs.builders.subcommand.Goals as goal

-- a command with one more argument
adds : (app : App) (old new : Command) (argument : Arg) (rule : Rule) → rule_of argument ≡ rule → argument.global ≡ false → AddsArg old argument new → StandsFor app old
    → StandsFor (with_rule app rule) new
adds app old new argument rule is local added stands = record {
  shape = added.shape local ∙ (ap (λ (a : App). with_rule a (rule_of argument)) stands.shape ∙ ap (with_rule app) is);
  local = added.globals ∙ (ap (λ (b : Bool). b || argument.global) stands.local ∙ local);
}

-- the argument at i comes after those before it
one_more : (app : App) (arguments : List Argument) (i : ℕ) (none : Argument) (command : Command) → i < length arguments
    → StandsFor (with_argument (with_arguments app (take i arguments)) (get_or arguments i none)) command → StandsFor (with_arguments app (take (i + 1) arguments)) command
one_more app arguments i none command here stands = subst (λ (a : App). StandsFor a command) (sym (fold_more with_argument app arguments i none here)) stands

pub loop-argument-preserved : goal.loop-argument-preserved
loop-argument-preserved c =
    let s = c.args.subcommand.now in
    one_more (new_app s.name.now) s.arguments.now c.loop-argument.argument-index _ c.in_ok-command.command c.loop-argument-test.true
    (adds _ c.loop-argument.command c.in_ok-command.command c.described.result _ c.described.ensures.rule c.described.ensures.local c.in_ok-command.ensures
    c.loop-argument.invariant)

pub returns : goal.returns
returns c =
    let s = c.args.subcommand.now in
    subst (λ (arguments : List Argument). StandsFor (with_arguments (new_app s.name.now) arguments) c.loop-argument.command)
    (take_all c.loop-argument.argument-index s.arguments.now c.loop-argument-test.false) c.loop-argument.invariant
