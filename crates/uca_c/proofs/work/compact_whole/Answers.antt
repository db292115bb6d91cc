-- The key of a text has a compact key.
use Rattle.std.proofs.Common.{arith}
use Rattle.uca_compact.proofs.ExpandedKeys.{bytes_are}
use Rattle.uca_c.proofs.CompactTexts.{found_text}
use Rattle.uca_c.proofs.work.compact_whole.Goals as goal

pub prove-unreachable-requires : goal.prove-unreachable-requires
prove-unreachable-requires c =
    let compacter = c.args.compacter.now in
    let yes = (found_text compacter.settings compacter.book c.requires.0 c.args.key.now c.write_compact.new.compact.items _
    (bytes_are c.args.key.now (λ k low. let fits = c.type_inv.key k in omega (arith, fits))) c.requires.1 c.in_ok-found.ensures.key).0 in
    let no = c.if-prove.true in cc

pub returns-clause-made : goal.returns-clause-made
returns-clause-made c t is =
    let compacter = c.args.compacter.now in
    (found_text compacter.settings compacter.book t c.args.key.now c.write_compact.new.compact.items _
    (bytes_are c.args.key.now (λ k low. let fits = c.type_inv.key k in omega (arith, fits))) is c.in_ok-found.ensures.key).1
