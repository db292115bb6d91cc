-- Bytes are the text of one list of changes at most.
use Rattle.uca_change_files.proofs.FileLaws.{means_same}
use Rattle.uca_change_files.proofs.laws.bytes_mean_at_most_one_change_list.Goals as goal

pub returns : goal.returns
returns c = means_same
