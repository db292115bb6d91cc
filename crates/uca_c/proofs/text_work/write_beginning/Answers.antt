-- The bytes are the first ones of the key of the collator and of its book.
use Rattle.std.proofs.Common.{◌∙◌, None, Some, subst}
use Rattle.uca_c.specs.TextCalls.{WritesBeginning}
use Rattle.uca_c.proofs.KeyTexts.{seen_key}
use Rattle.uca_c.proofs.text_work.write_beginning.Goals as goal

pub returns-in_default-clause-ok : goal.returns-in_default-clause-ok
returns-in_default-clause-ok c is_ok =
    subst (λ key. WritesBeginning key c.args.out.now c.copy_beginning.new.out c.copy_beginning.new.needed)
    (seen_key c.collator.inside.collator c.collator.inside.compacter None c.args.collator.now c.args.text.now c.key.result.now c.in-None.is c.collator.view_is
    (c.key.ensures ∙ c.in_default.ensures.key))
    c.copy_beginning.ensures.writes

pub returns-in_default-make_compact-clause-ok : goal.returns-in_default-make_compact-clause-ok
returns-in_default-make_compact-clause-ok c is_ok =
    subst (λ key. WritesBeginning key c.args.out.now c.copy_beginning-in-Some.new.out c.copy_beginning-in-Some.new.needed)
    (seen_key c.collator.inside.collator c.collator.inside.compacter (Some c.in-Some.compacter) c.args.collator.now c.args.text.now c.deref.result.now c.in-Some.is c.collator.view_is
    (c.deref.ensures.value ∙ c.in_default-make_compact.ensures.made))
    c.copy_beginning-in-Some.ensures.writes
