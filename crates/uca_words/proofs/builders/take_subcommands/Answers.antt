-- The subcommands are added in their order.
use Rattle.std.proofs.Common.{ℕ, ◌+◌, ◌<◌, List, length, take, get_or, IfOk, Result, subst, sym}
use Rattle.std.proofs.lemmas.List.{take_all}
use Rattle.std.proofs.lemmas.List.Sums.{fold_more}
use Rattle.std.specs.declared.alloc.AllocError.{AllocError}
use Rattle.clap.specs.declared.builder.command.Command.{Command}
use Rattle.clap.specs.Words.{App}
use Rattle.uca_words.specs.declared.subcommands.Subcommand.{Subcommand}
use Rattle.uca_words.specs.Command.{StandsFor}
use Rattle.uca_words.specs.inside.Subcommands.{with_one, with_subcommands}
use Rattle.uca_words.proofs.builders.take_subcommands.Goals as goal

-- the subcommand at i comes after those before it
one_more : (app : App) (subcommands : List Subcommand) (i : ℕ) (none : Subcommand) (command : Result Command AllocError) → i < length subcommands
    → IfOk command (StandsFor (with_one (with_subcommands app (take i subcommands)) (get_or subcommands i none)))
    → IfOk command (StandsFor (with_subcommands app (take (i + 1) subcommands)))
one_more app subcommands i none command here stands =
    subst (λ (a : App). IfOk command (StandsFor a)) (sym (fold_more with_one app subcommands i none here)) stands

pub loop-each-preserved : goal.loop-each-preserved
loop-each-preserved c app stands =
    one_more app c.args.subcommands.now c.loop-each.each-index _ c.take_subcommand-command.result c.loop-each-test.true
    (c.take_subcommand-command.ensures _ (c.loop-each.invariant app stands))

pub returns : goal.returns
returns c app stands =
    subst (λ (subcommands : List Subcommand). IfOk c.loop-each.command (StandsFor (with_subcommands app subcommands)))
    (take_all c.loop-each.each-index c.args.subcommands.now c.loop-each-test.false) (c.loop-each.invariant app stands)
