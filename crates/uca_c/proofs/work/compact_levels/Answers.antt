-- The levels are those of the key of the text.
use Rattle.std.proofs.Common.{◌≡◌, List, ℕ, subst, sym}
use Rattle.uca_weights.specs.declared.Depth.TheVariants.{Weights}
use Rattle.uca_key_writer.specs.KeyLevels.{AreLevelsOf}
use Rattle.uca_key_writer.proofs.WriterSteps.{by_flag}
use Rattle.uca_owned.specs.Owned.{keying_in}
use Rattle.uca_order.specs.Keyings.{read_of}
use Rattle.uca_c.proofs.KeyLevels.{bytes_of_weights, key_of_levels}
use Rattle.uca_c.proofs.work.compact_levels.Goals as goal

pub write_levels-requires : goal.write_levels-requires
write_levels-requires c =
    let settings = c.args.collator.now.settings in
    let es = (read_of (keying_in c.args.collator.now) c.args.text.now).elements in
    let Are : List (List ℕ) → Type 0 = AreLevelsOf settings.weighting es in
    let are = by_flag c.in_ok-make_levels.field-0 (Are c.make_levels.new.self.levels) c.if-not-branch.false c.in_ok-make_levels.ensures.levels in
    record { levels = bytes_of_weights c.args.compacter.now.settings settings es c.levels-levels.result c.requires (subst Are (sym c.levels-levels.ensures) are) }

pub returns-clause-made : goal.returns-clause-made
returns-clause-made c =
    let settings = c.args.collator.now.settings in
    let es = (read_of (keying_in c.args.collator.now) c.args.text.now).elements in
    let Are : List (List ℕ) → Type 0 = AreLevelsOf settings.weighting es in
    let flag = c.in_ok-make_levels.field-0 in
    let are = by_flag flag (Are c.make_levels.new.self.levels) c.if-not-branch.false c.in_ok-make_levels.ensures.levels in
    let depth = by_flag flag (settings.depth ≡ Weights) c.if-not-branch.false c.in_ok-make_levels.ensures.depth in
    key_of_levels c.args.collator.now c.args.compacter.now c.args.text.now c.write_levels.new.compact.items c.levels-levels.result c.requires depth
    (subst Are (sym c.levels-levels.ensures) are) c.in_ok-write_levels.ensures.compact
