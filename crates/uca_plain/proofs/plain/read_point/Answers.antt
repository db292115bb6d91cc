use Rattle.std.proofs.Common.{◌∙◌}
use Rattle.std.specs.Str.{chars}
use Rattle.uca_elements.specs.Collations.{collation_of}
use Rattle.uca_plain.proofs.PlainEntries.{entry_of, leaf_of, same_decomposition}
use Rattle.uca_plain.proofs.plain.read_point.Goals as goal

pub returns-in-Ok : goal.returns-in-Ok
returns-in-Ok g c =
    let collation = collation_of g.L.Lookup.content c.args.collator.now in
    let made = c.read_entry.ensures in
    let bound = c.bound-bound.ensures in
    let point = made.point ∙ bound.point in (
      point,
      entry_of collation c.args.point c.encode_utf8.result.now _ c.read_entry.result c.is_plain-plain.result
          c.encode_utf8.utf8 c.encode_utf8.ensures.value c.is_plain-plain.ensures c.in-Ok.ensures.found point made.elements,
      same_decomposition collation c.bound-bound.result c.read_entry.result made.point made.len made.starts bound.decomposition,
      leaf_of collation c.args.point c.bound-bound.result.point (chars c.encode_utf8.result.now) _ c.read_entry.result c.is_leaf-leaf.result c.is_leaf-leaf.ensures
          c.in-Ok.ensures.found made.point bound.point made.leaf,
    )
