-- Without sums the files mean the same.
use Rattle.uca_values.specs.Content.{properties_of}
use Rattle.uca_key_runs.proofs.SummedFiles.{three_read}
use Rattle.uca_key_runs.proofs.key_files.read_three_files.Goals as goal

pub returns-else-header-clause-read : goal.returns-else-header-clause-read
returns-else-header-clause-read g c =
    let news = c.read_packed_booked.new in
    three_read (λ files. files.table) (λ files. properties_of files.properties) (λ files. files.book) (λ files. files.sums)
    c.args.table.now news.table c.args.properties.now news.properties c.args.book.now news.book c.read_packed_booked.result
    c.read_packed_booked.ensures.sums c.read_packed_booked.ensures.read.read
