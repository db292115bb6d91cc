use Rattle.std.proofs.Common.{[], ◌∷◌, ◌++◌, refl, subst}
use Rattle.std.specs.Bool.{OnTrue}
use Rattle.uca_elements.specs.Collations.{collation_of}
use Rattle.uca_key_writer.specs.inside.Pieces.{HasRead}
use Rattle.uca_key_writer.specs.inside.Stretches.{ReadsUpTo}
use Rattle.uca_key_writer.proofs.key_buffer.push_plain.Goals as goal

pub returns-in-Ok-true : goal.returns-in-Ok-true
returns-in-Ok-true g c = record {
  entries = c.end.ensures.entries;
  read = λ xs reads.
      let collation = collation_of g.L.Lookup.content c.args.collator.now in
      let more = xs ++ c.args.known.point ∷ [] in
      let went : ReadsUpTo collation c.args.weighting more c.end.new.levels c.args.known = record {
        before = xs;
        split = refl;
        read = subst (λ accepted. OnTrue accepted (HasRead collation c.args.weighting xs c.end.new.levels)) c.in-Ok-true.field-0-test
            (c.in-Ok-true.ensures.read xs reads);
        few = c.requires.few;
        entry = c.requires.entry;
      } in
      c.go_on_plain.ensures collation more c.end.ensures.entries went;
}
