-- The key is that of the collator and of its book.
use Rattle.std.proofs.Common.{◌∙◌, None, Some, refl, subst}
use Rattle.uca_c.specs.Results.{WritesKey, IsTooSmall}
use Rattle.uca_c.proofs.KeyTexts.{seen_key}
use Rattle.uca_c.proofs.work.write_key.Goals as goal

pub returns-in-None-clause-ok : goal.returns-in-None-clause-ok
returns-in-None-clause-ok c is_ok =
    subst (λ key. WritesKey key c.args.out.now c.write_whole.new.out c.write_whole.new.needed)
    (seen_key c.collator.inside.collator c.collator.inside.compacter None c.args.collator.now c.args.text.now _ c.in-None.is c.collator.view_is refl)
    (c.write_whole.ensures.ok is_ok)

pub returns-in-None-clause-small : goal.returns-in-None-clause-small
returns-in-None-clause-small c is_small =
    subst (λ key. IsTooSmall key c.args.out.now c.write_whole.new.needed)
    (seen_key c.collator.inside.collator c.collator.inside.compacter None c.args.collator.now c.args.text.now _ c.in-None.is c.collator.view_is refl)
    (c.write_whole.ensures.small is_small)

pub returns-in_default-clause-ok : goal.returns-in_default-clause-ok
returns-in_default-clause-ok c is_ok =
    subst (λ key. WritesKey key c.args.out.now c.copy_out.new.out c.copy_out.new.needed)
    (seen_key c.collator.inside.collator c.collator.inside.compacter (Some c.in-Some.compacter) c.args.collator.now c.args.text.now c.deref.result.now c.in-Some.is c.collator.view_is
    (c.deref.ensures.value ∙ c.in_default.ensures.made))
    (c.copy_out.ensures.ok is_ok)

pub returns-in_default-clause-small : goal.returns-in_default-clause-small
returns-in_default-clause-small c is_small =
    subst (λ key. IsTooSmall key c.args.out.now c.copy_out.new.needed)
    (seen_key c.collator.inside.collator c.collator.inside.compacter (Some c.in-Some.compacter) c.args.collator.now c.args.text.now c.deref.result.now c.in-Some.is c.collator.view_is
    (c.deref.ensures.value ∙ c.in_default.ensures.made))
    (c.copy_out.ensures.small is_small)
