-- What is said, or the error of a fingerprint.
use Rattle.std.proofs.Common.{List, Result, Ok, Err, IfOk, IfErr, MatchResult, inr}
use Rattle.clap.specs.Words.{Row, Text, found_of, rows_of}
use Rattle.uca_words.specs.declared.WordFault.{WordFault}
use Rattle.uca_words.specs.declared.Words.{Words}
use Rattle.uca_words.specs.inside.Met.{IsFingerprintFault, IsValueFault}
use Rattle.uca_words.specs.Words.{HasOtherFingerprints, Says}
use Rattle.uca_words.proofs.words_of.Goals as goal

module _ (name : Text) (rows : List Row) where
  says : (said : Result Words WordFault) → MatchResult said (Says name rows) (IsFingerprintFault (HasOtherFingerprints name rows)) → IfOk said (Says name rows)
  says (Ok words) is = is
  says (Err fault) is = tt

  names : (said : Result Words WordFault) → MatchResult said (Says name rows) (IsFingerprintFault (HasOtherFingerprints name rows)) → IfErr said (IsValueFault name rows)
  names (Ok words) is = tt
  names (Err fault) is = inr is

pub returns-in-Ok-clause-ok : goal.returns-in-Ok-clause-ok
returns-in-Ok-clause-ok c =
    says c.args.name.now (rows_of (found_of c.args.found.now)) c.subcommand_words.result (c.subcommand_words.ensures c.in-Ok.ensures.ok)

pub returns-in-Ok-clause-err : goal.returns-in-Ok-clause-err
returns-in-Ok-clause-err c =
    names c.args.name.now (rows_of (found_of c.args.found.now)) c.subcommand_words.result (c.subcommand_words.ensures c.in-Ok.ensures.ok)
