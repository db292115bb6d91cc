-- What is read of the bytes of two files is what they mean.
use Rattle.std.proofs.Common.{◌∙◌, subst₂}
use Rattle.uca_values.specs.Content.{TableContent, Properties}
use Rattle.uca_order.specs.Keyings.{keying}
use Rattle.uca_number_keys.specs.Tables.{RefusesTable}
use Rattle.uca_owned.proofs.owned.OwnedCollator.open.Goals as goal

pub returns-in-Ok-packed_collator-clause-only : goal.returns-in-Ok-packed_collator-clause-only
returns-in-Ok-packed_collator-clause-only c meant properties mean =
    let table_same = c.in-Ok.ensures.only meant mean.table_file in
    let data_same = c.in-Ok-data_of.ensures.only properties mean.data_file in
    c.in-Ok-packed_collator.ensures.keying ∙ (λ i. keying c.args.asked (table_same i) (data_same i))

pub returns-in-Err-clause-only : goal.returns-in-Err-clause-only
returns-in-Err-clause-only c meant properties mean = c.in-Err.ensures.only meant mean.table_file

pub returns-in-Err-data_of-clause-only : goal.returns-in-Err-data_of-clause-only
returns-in-Err-data_of-clause-only c meant properties mean = c.in-Err-data_of.ensures.only properties mean.data_file

pub returns-in-Err-check_numbers-clause-only : goal.returns-in-Err-check_numbers-clause-only
returns-in-Err-check_numbers-clause-only c meant properties mean =
    let table_same = c.in-Ok.ensures.only meant mean.table_file in
    let data_same = c.in-Ok-data_of.ensures.only properties mean.data_file in
    subst₂ (λ (t : TableContent) (p : Properties). RefusesTable c.args.asked.numbers t p c.in-Err-check_numbers.fault.row) table_same data_same
    c.in-Err-check_numbers.ensures.rejected
