-- The trie has the rows of the table.
use Rattle.std.proofs.Common.{ap, ◌∙◌}
use Rattle.uca_values.specs.Content.{TableContent}
use Rattle.uca_elements.specs.Rows.{rows_of}
use Rattle.uca_match.proofs.trie.Trie.of_table.Goals as goal

pub returns-in-Ok-clause-rows : goal.returns-in-Ok-clause-rows
returns-in-Ok-clause-rows g c = λ key. c.in-Ok.ensures key ∙ ap (λ (t : TableContent). rows_of t.rows key) c.table.view_is
