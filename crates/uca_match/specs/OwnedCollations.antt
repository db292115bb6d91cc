-- What texts are read by where a value owns all of it.
use Rattle.uca_values.specs.Content.{properties_of}
use Rattle.uca_elements.specs.Collations.{Collation, collation_over}
use Rattle.uca_match.specs.NumberedKeys.{rows_at}
use Rattle.uca_match.specs.declared.owned_collation.OwnedCollation.{OwnedCollation}

-- the collation of a trie, the header of its table, and a data file
abbrev pub owned_collation : {A : Type 0} → OwnedCollation A → Collation
owned_collation c = collation_over (rows_at c.rows) c.header (properties_of c.properties)
