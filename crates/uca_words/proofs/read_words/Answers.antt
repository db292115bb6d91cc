-- The arguments are those of the subcommand that the matches name, and an error is one that the command has.
use Rattle.std.proofs.Common.{subst, sym}
use Rattle.clap.specs.Walk.{texts}
use Rattle.uca_words.specs.Words.{IsFaultOf}
use Rattle.uca_words.proofs.SubcommandWords.{is_known, meets, names_none, reads, refuses}
use Rattle.uca_words.proofs.read_words.Goals as goal

pub returns-in-Err-clause-err : goal.returns-in-Err-clause-err
returns-in-Err-clause-err c =
    subst (IsFaultOf (texts c.args.words.now)) (sym c.from.ensures)
    (refuses c.in_ok-command.command (texts c.args.words.now) c.in-Err.error c.in_ok-command.ensures c.in-Err.ensures.passes c.in-Err.ensures.kinds)

pub words_of-said-requires : goal.words_of-said-requires
words_of-said-requires c = is_known _ c.unwrap.result
    (meets c.in_ok-command.command (texts c.args.words.now) c.in-Ok.matches c.subcommand.result c.unwrap.result c.in_ok-command.ensures c.in-Ok.ensures.matches
    c.in-Ok.ensures.kinds c.unwrap.ensures c.subcommand.ensures.name c.subcommand.ensures.rows)

pub returns-in-Ok-clause-ok : goal.returns-in-Ok-clause-ok
returns-in-Ok-clause-ok c = reads _ c.unwrap.result c.words_of-said.result
    (meets c.in_ok-command.command (texts c.args.words.now) c.in-Ok.matches c.subcommand.result c.unwrap.result c.in_ok-command.ensures c.in-Ok.ensures.matches
    c.in-Ok.ensures.kinds c.unwrap.ensures c.subcommand.ensures.name c.subcommand.ensures.rows)
    c.words_of-said.ensures.ok

pub returns-in-Ok-clause-err : goal.returns-in-Ok-clause-err
returns-in-Ok-clause-err c = names_none _ c.unwrap.result c.words_of-said.result
    (meets c.in_ok-command.command (texts c.args.words.now) c.in-Ok.matches c.subcommand.result c.unwrap.result c.in_ok-command.ensures c.in-Ok.ensures.matches
    c.in-Ok.ensures.kinds c.unwrap.ensures c.subcommand.ensures.name c.subcommand.ensures.rows)
    c.words_of-said.ensures.err
