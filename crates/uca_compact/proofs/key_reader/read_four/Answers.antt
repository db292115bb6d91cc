use Rattle.std.proofs.Common.{◌+◌, ◌-◌, length, ap, ◌∙◌}
use Rattle.uca_compact.specs.PlainLevels.{letter_count}
use Rattle.uca_compact.specs.Programs.{form_of}
use Rattle.uca_compact.proofs.KeySteps.{four_read, plain_count_is}
use Rattle.uca_compact.proofs.key_reader.read_four.Goals as goal

pub returns : goal.returns
returns g c =
    let a = c.read_first.new.weights.items in
    let d = c.read_later-2.new.weights.items in
    let letters = c.as_slice-letters.result.now in
    let third = c.as_slice.result.now in
    let count = c.letter_count-count.ensures.count ∙ ap letter_count c.as_slice-letters.ensures.value in
    four_read c.args.book.now c.args.bytes.now a c.read_later.new.weights.items d c.read_later-3.new.weights.items
    (form_of c.letters_form.result) (form_of c.accents_form-form.result) (form_of c.cases_form-form.result) (form_of c.variables_form-form.result)
    c.letter_count-count.result (length c.as_slice-accents.result.now) (length third + (length letters - c.letter_count-count.result))
    c.in_ok-first.first c.in_ok-second.second c.in_ok-third.third c.in_ok-last.last
    c.letters_form.ensures.form c.accents_form-form.ensures.form c.cases_form-form.ensures.form c.variables_form-form.ensures.form
    c.letters_form.ensures.is c.accents_form-form.ensures.is c.cases_form-form.ensures.is c.variables_form-form.ensures.is
    count (ap length c.as_slice-accents.ensures.value)
    (plain_count_is (length third) (length letters) c.letter_count-count.result a d (ap length c.as_slice.ensures.value) (ap length c.as_slice-letters.ensures.value) count)
    c.in_ok-first.ensures c.in_ok-second.ensures c.in_ok-third.ensures c.in_ok-last.ensures
