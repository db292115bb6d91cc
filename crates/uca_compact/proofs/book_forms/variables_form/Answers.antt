use Rattle.uca_compact.proofs.Forms.{variables_fit}
use Rattle.uca_compact.proofs.book_forms.variables_form.Goals as goal

pub returns-clause-is : goal.returns-clause-is
returns-clause-is g c = variables_fit c.args.book.now c.variables.result.now c.variables.ensures.book c.variables.ensures.value
