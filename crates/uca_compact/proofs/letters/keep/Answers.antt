use Rattle.std.proofs.Common.{[], ◌∷◌, arith}
use Rattle.uca_compact.proofs.Places.{entry_kept, put_there}
use Rattle.uca_compact.proofs.letters.keep.Goals as goal

pub returns-then-weight-lt64256 : goal.returns-then-weight-lt64256
returns-then-weight-lt64256 c f front all long put =
    entry_kept f c.args.entries.now _ _ all
    (record {
      few = omega (arith, c.requires.few);
      no_lead = c.if-weight-lt64256.true;
      code = λ some. put_there c.args.codes.now front _ (0 ∷ []) c.args.at c.args.next c.requires.from c.requires.few c.requires.room long put;
    })
