use Rattle.uca_elements.specs.Collations.{collation_of}
use Rattle.uca_plain.proofs.plain.PointCache.get.Goals as goal

pub returns-in-Some-clause-known : goal.returns-in-Some-clause-known
returns-in-Some-clause-known g c = (c.in-Some.ensures.point, c.in-Some.ensures.entry (collation_of g.L.Lookup.content c.args.collator.now) c.requires)
