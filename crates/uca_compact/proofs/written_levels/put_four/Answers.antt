-- The end of level 1, and the levels after it.
use Rattle.std.proofs.Common.{ℕ, ◌+◌, ◌-◌, ◌/◌, [], length, ap, ◌∙◌, arith}
use Rattle.std.proofs.lemmas.List.{take_more_set}
use Rattle.uca_order.specs.Levels.{lexicographic}
use Rattle.uca_compact.specs.Forms.{letters_form, accents_form, cases_form, variables_form}
use Rattle.uca_compact.specs.LevelBytes.{weights_in}
use Rattle.uca_compact.specs.PlainLevels.{copies, plain_level}
use Rattle.uca_compact.specs.Programs.{form_of}
use Rattle.uca_compact.proofs.LaterLevels.{four_written}
use Rattle.uca_compact.proofs.LevelsPut.{half_of}
use Rattle.uca_compact.proofs.written_levels.put_four.Goals as goal

pub returns-clause-put : goal.returns-clause-put
returns-clause-put g c =
    let b = c.args.book.now in
    let levels = c.args.levels.now in
    let letters = weights_in levels.letters.now in
    let accents = weights_in levels.accents.now in
    let cases = weights_in levels.cases.now in
    let variables = weights_in levels.variables.now in
    let first = c.put_letters-first in
    let second = c.compare_level-second in
    let third = c.compare_level-third in
    let fourth = c.compare_level-fourth in
    four_written plain_level (letters_form b 3) (accents_form 2) (cases_form 1) (variables_form b 0)
    (form_of c.letters_form-form.result) (form_of c.accents_form.result) (form_of c.cases_form.result) (form_of c.variables_form-form.result)
    letters accents cases variables second.result.order third.result.order fourth.result.order _ _ _ _ _ _ [] _ _ _ _
    c.letters_form-form.ensures.form c.accents_form.ensures.form c.cases_form.ensures.form c.variables_form-form.ensures.form
    (second.ensures.order ∙ ap (λ (n : ℕ). lexicographic accents (copies 0x20 n)) first.ensures.count)
    (third.ensures.order ∙ ap (λ (n : ℕ). lexicographic cases (copies 2 n)) (half_of levels.accents.now c.requires.levels.1.0))
    (fourth.ensures.order
    ∙ ap (λ (n : ℕ). lexicographic variables (copies 0xFFFF (n + (length levels.letters.now / 2 - first.result.count)))) (half_of levels.cases.now c.requires.levels.1.1.0)
    ∙ ap (λ (n : ℕ). lexicographic variables (copies 0xFFFF (length cases + (n - first.result.count)))) (half_of levels.letters.now c.requires.levels.0)
    ∙ ap (λ (n : ℕ). lexicographic variables (copies 0xFFFF (length cases + (length letters - n)))) first.ensures.count)
    c.end_by.ensures c.end_by-third_end.ensures c.end_by-2.ensures c.end_by-3.ensures c.end_by-end.ensures c.end_by-end-2.ensures
    (take_more_set first.new.codes first.result.size _ (let size = first.ensures.size in let long = first.auto.codes in let room = c.requires.room in omega (arith, size, long, room)) ∙ first.ensures.put _)
    c.put_later-at.ensures.put c.put_later-at-2.ensures.put c.put_later.ensures.put
