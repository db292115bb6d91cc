use Rattle.std.proofs.Common.{ap, ◌∙◌}
use Rattle.uca_elements.specs.Reading.{collation_elements}
use Rattle.uca_elements.specs.Places.{left_of}
use Rattle.uca_elements.specs.Collations.{collation_of}
use Rattle.uca_elements.proofs.PlaceLemmas.{left_of_start}
use Rattle.uca_elements.proofs.collator.Collator.elements.Goals as goal

pub returns : goal.returns
returns g c =
    let s = c.args.text.now in
    let by = collation_of g.L.Lookup.content c.args.self.now in
    ap (collation_elements by.rows by.ranges by.properties) (ap (left_of s) c.start.ensures ∙ left_of_start s)
