-- The key of a text has two levels, and the ends of compact keys by these are found.
use Rattle.std.proofs.Common.{arith}
use Rattle.uca_compact.proofs.ExpandedKeys.{bytes_are}
use Rattle.uca_c.proofs.RangeTexts.{two_compact_are_found}
use Rattle.uca_c.proofs.range_work.compact_range.Goals as goal

pub prove-unreachable-requires : goal.prove-unreachable-requires
prove-unreachable-requires c =
    let yes = (two_compact_are_found c.args.settings c.args.compacter.now.book c.requires.text.0 c.args.key.now c.in_ok-found-in-SameAccents.found _ _
    (bytes_are c.args.key.now (λ k low. let fits = c.type_inv.key k in omega (arith, fits))) c.requires.text.1 c.in_ok-found-in-SameAccents.ensures.levels).0 in
    let no = c.if-prove.true in cc

pub returns-in_ok-found-in-SameAccents-clause-low : goal.returns-in_ok-found-in-SameAccents-clause-low
returns-in_ok-found-in-SameAccents-clause-low c t is =
    rw c.in-SameAccents.is
    (two_compact_are_found c.args.settings c.args.compacter.now.book t c.args.key.now c.in_ok-found-in-SameAccents.found _ _
    (bytes_are c.args.key.now (λ k low. let fits = c.type_inv.key k in omega (arith, fits))) is c.in_ok-found-in-SameAccents.ensures.levels).1

pub returns-in_ok-found-in-SameAccents-clause-high : goal.returns-in_ok-found-in-SameAccents-clause-high
returns-in_ok-found-in-SameAccents-clause-high c t is =
    rw c.in-SameAccents.is
    (two_compact_are_found c.args.settings c.args.compacter.now.book t c.args.key.now c.in_ok-found-in-SameAccents.found _ _
    (bytes_are c.args.key.now (λ k low. let fits = c.type_inv.key k in omega (arith, fits))) is c.in_ok-found-in-SameAccents.ensures.levels).2
