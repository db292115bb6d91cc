-- The letters that are read are those of the text.
use Rattle.std.proofs.Common.{arith}
use Rattle.uca_compact.proofs.ExpandedKeys.{bytes_are}
use Rattle.uca_c.proofs.RangeTexts.{letters_told}
use Rattle.uca_c.proofs.range_work.letters_of.Goals as goal

pub returns-in-Ok-clause-letters : goal.returns-in-Ok-clause-letters
returns-in-Ok-clause-letters c t is =
    (letters_told c.args.settings t c.args.key.now c.read_letters.new.letters.items _
    (bytes_are c.args.key.now (λ k low. let fits = c.type_inv.key k in omega (arith, fits))) is c.in-Ok.ensures.letters).1
