-- By the second character of quotes that have no end, in a starred text, and by the first one otherwise.
use Rattle.std.proofs.Common.{inl}
use Rattle.uca_rules.proofs.Placing.{no_character}
use Rattle.uca_rules.proofs.Breaking.{some_character, escape_at, breaks_at, breaks_there}
use Rattle.uca_rules.proofs.texts.broken.Goals as goal

pub bounds-rest-0 : goal.bounds-rest-0
bounds-rest-0 c = some_character c.args.starred c.args.rest.now c.requires.begins

pub returns-then-first-eq92 : goal.returns-then-first-eq92
returns-then-first-eq92 c =
    escape_at c.args.rest.now no_character (some_character c.args.starred c.args.rest.now c.requires.begins) c.if-first-eq92.true

pub wrong_hyphen-hyphen-requires : goal.wrong_hyphen-hyphen-requires
wrong_hyphen-hyphen-requires c = c.requires.so_far c.if-starred.true

pub returns-in-Some : goal.returns-in-Some
returns-in-Some c =
    let second = c.in-Some.ensures.lookup.3 in
    breaks_there c.args.starred c.args.symbols.now c.args.rest.now no_character c.in-Some.c.now _ c.wrong_hyphen-hyphen.result c.unwrap_or-byte.result c.if-starred.true
    (breaks_at c.args.starred c.args.rest.now no_character c.requires.begins c.requires.none c.if-first-eq92.false) second.0 (second.1 no_character)
    c.if-c-ne39.true c.wrong_hyphen-hyphen.ensures c.unwrap_or-byte.ensures

pub returns-in_default : goal.returns-in_default
returns-in_default c = inl (breaks_at c.args.starred c.args.rest.now no_character c.requires.begins c.requires.none c.if-first-eq92.false)

pub returns-in_default-2 : goal.returns-in_default-2
returns-in_default-2 c = inl (breaks_at c.args.starred c.args.rest.now no_character c.requires.begins c.requires.none c.if-first-eq92.false)

pub returns-in_default-3 : goal.returns-in_default-3
returns-in_default-3 c = inl (breaks_at c.args.starred c.args.rest.now no_character c.requires.begins c.requires.none c.if-first-eq92.false)
