use Rattle.uca_table.proofs.DataWords.{no_words, first_word, empty_from_test, some_from_test}
use Rattle.uca_table.proofs.data_file.lines.next_word.Goals as goal

pub returns-then-is_empty : goal.returns-then-is_empty
returns-then-is_empty c =
    no_words c.args.text.now c.skip_blanks-text.result.now c.skip_blanks-text.ensures (empty_from_test _ _ c.is_empty.ensures c.if-is_empty.true)

pub returns : goal.returns
returns c =
    first_word c.args.text.now c.skip_blanks-text.result.now _ _ c.skip_blanks-text.ensures
    (some_from_test _ _ c.is_empty.ensures c.if-is_empty.false) c.cut_word.ensures.word c.cut_word.ensures.rest
