-- The start of a line is added, or the line begins with neither level.
use Rattle.std.proofs.Common.{◌⊎◌, ◌≡◌, subst}
use Rattle.std.specs.Prelude.{OnOk, IfErr}
use Rattle.uca_values.specs.declared.faults.FaultKind.TheVariants as kinds
use Rattle.uca_books.specs.Books.{Letter, Variable}
use Rattle.uca_books.specs.BookTexts.{Said, Cause}
use Rattle.uca_books.specs.inside.Steps.{Takes}
use Rattle.uca_books.proofs.LineLaws.{named_letter, named_variable, line_takes, line_refused}
use Rattle.uca_books.proofs.lines.BookSoFar.take_line.Goals as goal

pub returns-in-Some-clause-ok : goal.returns-in-Some-clause-ok
returns-in-Some-clause-ok g c =
    let new : Said = record { started = c.self.inside.started; content = c.add_letter.new.book } in
    let P : Said → Type 0 = λ old. OnOk c.add_letter.result (Takes old c.args.line.now new) in
    subst P c.self.view_is (line_takes Letter c.args.line.now c.in-Some.spelled.now c.self.inside.started c.self.inside.book c.add_letter.new.book
    c.add_letter.result (named_letter c.args.line.now c.in-Some.spelled.now c.in-Some.ensures) c.if-not-self.false c.add_letter.ensures.ok)

pub returns-in-Some-clause-fault : goal.returns-in-Some-clause-fault
returns-in-Some-clause-fault g c =
    let P : Said → Type 0 = λ old. IfErr c.add_letter.result (λ kind. (kind ≡ kinds.Memory) ⊎ Cause old c.args.line.now kind) in
    subst P c.self.view_is (line_refused Letter c.args.line.now c.in-Some.spelled.now c.self.inside.started c.self.inside.book c.add_letter.result
    (named_letter c.args.line.now c.in-Some.spelled.now c.in-Some.ensures) c.if-not-self.false c.add_letter.ensures.fault)

pub returns-in-Some-after_level-clause-ok : goal.returns-in-Some-after_level-clause-ok
returns-in-Some-after_level-clause-ok g c =
    let new : Said = record { started = c.self.inside.started; content = c.add_variable.new.book } in
    let P : Said → Type 0 = λ old. OnOk c.add_variable.result (Takes old c.args.line.now new) in
    subst P c.self.view_is (line_takes Variable c.args.line.now c.in-Some-after_level.spelled.now c.self.inside.started c.self.inside.book
    c.add_variable.new.book c.add_variable.result (named_variable c.args.line.now c.in-Some-after_level.spelled.now c.in-Some-after_level.ensures)
    c.if-not-self.false c.add_variable.ensures.ok)

pub returns-in-Some-after_level-clause-fault : goal.returns-in-Some-after_level-clause-fault
returns-in-Some-after_level-clause-fault g c =
    let P : Said → Type 0 = λ old. IfErr c.add_variable.result (λ kind. (kind ≡ kinds.Memory) ⊎ Cause old c.args.line.now kind) in
    subst P c.self.view_is (line_refused Variable c.args.line.now c.in-Some-after_level.spelled.now c.self.inside.started c.self.inside.book
    c.add_variable.result (named_variable c.args.line.now c.in-Some-after_level.spelled.now c.in-Some-after_level.ensures) c.if-not-self.false
    c.add_variable.ensures.fault)
