-- By the last of the symbols before, and by what is before it.
use Rattle.std.proofs.Common.{refl}
use Rattle.std.proofs.lemmas.Bool.{false≢true}
use Rattle.uca_rules.proofs.Hyphens.{after_hyphen, no_range_there, after_range, hyphen_after, letter_after}
use Rattle.uca_rules.proofs.texts.wrong_hyphen.Goals as goal

pub returns-in-Hyphen-default : goal.returns-in-Hyphen-default
returns-in-Hyphen-default c =
    after_hyphen c.args.before.now c.in-Some.front.now c.in-Hyphen-default.field-0-0 c.args.symbol _ c.in-Some.ensures.cases.0 c.in-Hyphen-default.is-0
    (c.if-begins_range.ensures.0 refl) c.requires

pub returns-in-Hyphen-default-2 : goal.returns-in-Hyphen-default-2
returns-in-Hyphen-default-2 c =
    no_range_there c.args.before.now c.in-Some.front.now c.in-Hyphen-default.field-0-0 c.args.symbol _ c.in-Some.ensures.cases.0 c.in-Hyphen-default.is-0
    (λ range. false≢true (c.if-begins_range.ensures.1 range))

pub returns-in-Some-last_hyphen : goal.returns-in-Some-last_hyphen
returns-in-Some-last_hyphen c =
    after_range c.args.before.now c.in-Some.front.now c.in-Literal-Hyphen.field-0-0 c.in-Literal-Hyphen.place c.args.symbol _ c.in-Some.ensures.cases.0
    c.in-Literal-Hyphen.is-0 c.in-Literal-Hyphen.is-1 c.in-Some-last_hyphen.field-0 c.in-Some-last_hyphen.ensures

pub returns-in-None : goal.returns-in-None
returns-in-None c =
    hyphen_after c.args.before.now c.in-Some.front.now c.in-Literal-Hyphen.field-0-0 c.args.symbol _ c.in-Some.ensures.cases.0 c.in-Literal-Hyphen.is-0 c.in-None.ensures c.requires

pub returns-in-Literal-Literal : goal.returns-in-Literal-Literal
returns-in-Literal-Literal c =
    letter_after c.args.before.now c.in-Some.front.now c.in-Literal-Literal.field-0-0 c.in-Literal-Literal.field-0-1 c.args.symbol _ c.in-Some.ensures.cases.0 c.in-Literal-Literal.is-0 c.in-Literal-Literal.is-1 c.requires
