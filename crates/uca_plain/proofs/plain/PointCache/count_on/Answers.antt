use Rattle.uca_elements.specs.Collations.{collation_of}
use Rattle.uca_plain.proofs.plain.PointCache.count_on.Goals as goal

pub returns-in-Some-clause-counted : goal.returns-in-Some-clause-counted
returns-in-Some-clause-counted g c =
    let collation = collation_of g.L.Lookup.content c.args.collator.now in
    (c.in-Some.known.now, c.in-Some.ensures.point, c.in-Some.ensures.decomposition collation c.requires.entries, c.count_on.ensures)
