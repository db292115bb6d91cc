use Rattle.std.proofs.Common.{subst}
use Rattle.std.specs.Str.{chars}
use Rattle.uca_text.specs.Limits.{IsAccepted}
use Rattle.uca_elements.specs.Collations.{collation_of}
use Rattle.uca_plain.proofs.LeafReading.{classes_of}
use Rattle.uca_key_writer.proofs.PieceSteps.{on_any}
use Rattle.uca_key_writer.proofs.pieces.push_text.Goals as goal

pub push_normal-requires-clause-classes : goal.push_normal-requires-clause-classes
push_normal-requires-clause-classes g c =
    classes_of (collation_of g.L.Lookup.content c.args.collator.now) (chars c.args.text.now) _ c.in-Ok.ensures.found

pub returns-in-Ok-clause-runs : goal.returns-in-Ok-clause-runs
returns-in-Ok-clause-runs g c = on_any c.push_normal.result (subst IsAccepted c.in-Ok.ensures.found c.renew.ensures.accepted).short_runs
