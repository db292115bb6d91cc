use Rattle.std.proofs.Common.{◌+◌, ◌*◌, arith}
use Rattle.uca_compact.proofs.Forms.{accents_fit}
use Rattle.uca_compact.proofs.book_forms.accents_form.Goals as goal

pub returns-clause-is : goal.returns-clause-is
returns-clause-is c = accents_fit (2 * c.args.later + 1) (omega (arith, c.requires))
