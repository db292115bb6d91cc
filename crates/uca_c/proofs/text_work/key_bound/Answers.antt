-- The bound of whole keys is that of the collator inside, and that of compact keys goes by it.
use Rattle.std.proofs.Common.{◌≡◌, Some, None, arith}
use Rattle.uca_c.specs.TextCalls.{bound_by}
use Rattle.uca_c.proofs.KeyBounds.{seen_bound}
use Rattle.uca_c.proofs.text_work.key_bound.Goals as goal

pub returns-in-None-clause-bounds : goal.returns-in-None-clause-bounds
returns-in-None-clause-bounds c =
    seen_bound c.collator.inside.collator c.collator.inside.compacter None c.args.collator.now c.args.length c.key_bound-whole.result c.key_bound-whole.result
    c.in-None.is c.collator.view_is c.key_bound-whole.ensures.value c.key_bound-whole.ensures.bounds c.key_bound-whole.ensures.value

pub returns-in-Some-clause-bounds : goal.returns-in-Some-clause-bounds
returns-in-Some-clause-bounds c =
    let compacter = c.in-Some.field-0 in
    let same : c.saturating_add.result ≡ bound_by (Some compacter.book) c.args.length =
    omega (arith, c.saturating_mul.ensures, c.saturating_add.ensures, c.key_bound-whole.ensures.value) in
    seen_bound c.collator.inside.collator c.collator.inside.compacter (Some compacter) c.args.collator.now c.args.length c.key_bound-whole.result
    c.saturating_add.result c.in-Some.is c.collator.view_is c.key_bound-whole.ensures.value c.key_bound-whole.ensures.bounds same
