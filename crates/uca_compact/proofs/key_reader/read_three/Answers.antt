use Rattle.std.proofs.Common.{length, ap, ◌∙◌}
use Rattle.uca_compact.specs.PlainLevels.{letter_count}
use Rattle.uca_compact.specs.Programs.{form_of}
use Rattle.uca_compact.proofs.KeySteps.{three_read}
use Rattle.uca_compact.proofs.key_reader.read_three.Goals as goal

pub returns : goal.returns
returns g c =
    three_read c.args.book.now c.args.bytes.now c.read_first.new.weights.items c.read_later.new.weights.items c.read_later-2.new.weights.items
    (form_of c.letters_form.result) (form_of c.accents_form-form.result) (form_of c.cases_form.result) c.letter_count-count.result (length c.as_slice-count.result.now)
    c.in_ok-first.first c.in_ok-second.second c.in_ok-last.last
    c.letters_form.ensures.form c.accents_form-form.ensures.form c.cases_form.ensures.form
    c.letters_form.ensures.is c.accents_form-form.ensures.is c.cases_form.ensures.is
    (c.letter_count-count.ensures.count ∙ ap letter_count c.as_slice.ensures.value) (ap length c.as_slice-count.ensures.value)
    c.in_ok-first.ensures c.in_ok-second.ensures c.in_ok-last.ensures
