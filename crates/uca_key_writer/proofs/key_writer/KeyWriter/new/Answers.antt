use Rattle.uca_elements.specs.Collations.{collation_of}
use Rattle.uca_key_writer.proofs.key_writer.KeyWriter.new.Goals as goal

pub invariant_of-result : goal.invariant_of-result
invariant_of-result g c = c.new.ensures.known (collation_of g.L.Lookup.content c.args.collator)
