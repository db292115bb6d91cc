-- The compact key is that of the key of the text.
use Rattle.std.proofs.Common.{◌≡◌, ◌∙◌, Some, ap, sym}
use Rattle.uca_order.specs.Keyings.{Keying, read_of}
use Rattle.uca_compact.specs.Programs.{CompacterState}
use Rattle.uca_owned.specs.Owned.{keying_in}
use Rattle.uca_c.specs.OpenCollators.{key_by}
use Rattle.uca_c.proofs.KeyTexts.{compact_by, is_key}
use Rattle.uca_c.proofs.work.make_compact.Goals as goal

pub compact_whole-requires : goal.compact_whole-requires
compact_whole-requires c =
    let collator = c.compact_levels.new.collator in
    let compacter = c.compact_levels.new.compacter in
    let same : compacter.settings ≡ collator.settings =
    ap (λ (m : CompacterState). m.settings) c.compact_levels.ensures.same ∙ c.requires ∙ sym (ap (λ (k : Keying). k.settings) c.compact_levels.ensures.keying) in (
      read_of (keying_in collator) c.args.text.now,
      is_key collator compacter c.args.text.now c.key.result.now same
          c.in_ok-make_key-in-Ok-false.ensures.accepted.utf8 (c.key.ensures ∙ c.in_ok-make_key-in-Ok-false.ensures.key),
    )

pub returns-in-Ok-clause-made : goal.returns-in-Ok-clause-made
returns-in-Ok-clause-made c =
    let collator = c.compact_levels.new.collator in
    let compacter = c.compact_levels.new.compacter in
    let text = c.args.text.now in
    let same : compacter.settings ≡ collator.settings =
    ap (λ (m : CompacterState). m.settings) c.compact_levels.ensures.same ∙ c.requires ∙ sym (ap (λ (k : Keying). k.settings) c.compact_levels.ensures.keying) in
    c.in-Ok.ensures.made (read_of (keying_in collator) text)
    (is_key collator compacter text c.key.result.now same c.in_ok-make_key-in-Ok-false.ensures.accepted.utf8 (c.key.ensures ∙ c.in_ok-make_key-in-Ok-false.ensures.key))
    ∙ compact_by collator compacter text same
    ∙ (λ i. key_by (c.compact_levels.ensures.keying i) (Some (c.compact_levels.ensures.same i).book) text)
