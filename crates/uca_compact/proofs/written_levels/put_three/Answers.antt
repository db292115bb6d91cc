-- The end of level 1, and the levels after it.
use Rattle.std.proofs.Common.{ℕ, [], ap, ◌∙◌, arith}
use Rattle.std.proofs.lemmas.List.{take_more_set}
use Rattle.uca_order.specs.Levels.{lexicographic}
use Rattle.uca_compact.specs.Forms.{letters_form, accents_form, cases_form}
use Rattle.uca_compact.specs.LevelBytes.{weights_in}
use Rattle.uca_compact.specs.PlainLevels.{copies, plain_level}
use Rattle.uca_compact.specs.Programs.{form_of}
use Rattle.uca_compact.proofs.LaterLevels.{three_written}
use Rattle.uca_compact.proofs.LevelsPut.{half_of}
use Rattle.uca_compact.proofs.written_levels.put_three.Goals as goal

pub returns-clause-put : goal.returns-clause-put
returns-clause-put g c =
    let b = c.args.book.now in
    let letters = weights_in c.args.levels.now.letters.now in
    let accents = weights_in c.args.levels.now.accents.now in
    let cases = weights_in c.args.levels.now.cases.now in
    let first = c.put_letters-first in
    let second = c.compare_level-second in
    let third = c.compare_level-third in
    three_written plain_level (letters_form b 2) (accents_form 1) (cases_form 0) (form_of c.letters_form-form.result) (form_of c.accents_form-form.result) (form_of c.cases_form.result)
    letters accents cases second.result.order third.result.order _ _ _ [] _ _ _
    c.letters_form-form.ensures.form c.accents_form-form.ensures.form c.cases_form.ensures.form
    (second.ensures.order ∙ ap (λ (n : ℕ). lexicographic accents (copies 0x20 n)) first.ensures.count)
    (third.ensures.order ∙ ap (λ (n : ℕ). lexicographic cases (copies 2 n)) (half_of c.args.levels.now.accents.now c.requires.levels.1.0))
    c.end_by.ensures c.end_by-2.ensures c.end_by-end.ensures
    (take_more_set first.new.codes first.result.size _ (let size = first.ensures.size in let long = first.auto.codes in let room = c.requires.room in omega (arith, size, long, room)) ∙ first.ensures.put _)
    c.put_later-at.ensures.put c.put_later.ensures.put
