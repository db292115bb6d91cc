use Rattle.uca_elements.specs.Collations.{collation_of}
use Rattle.uca_plain.proofs.plain.PointCache.learn.Goals as goal

pub returns-clause-entries : goal.returns-clause-entries
returns-clause-entries g c =
    let collation = collation_of g.L.Lookup.content c.args.collator.now in
    c.keep.ensures collation (c.open_page.ensures collation c.requires) (c.in_ok-known.ensures.1, c.in_ok-known.ensures.2, c.in_ok-known.ensures.3)
