use Rattle.std.proofs.Common.{◌+◌, ◌*◌, arith}
use Rattle.uca_compact.proofs.Forms.{letters_fit}
use Rattle.uca_compact.proofs.book_forms.letters_form.Goals as goal

pub returns-clause-is : goal.returns-clause-is
returns-clause-is g c = letters_fit c.args.book.now c.letters.result.now (2 * c.args.later + 1) c.letters.ensures.book c.letters.ensures.value (omega (arith, c.requires))
