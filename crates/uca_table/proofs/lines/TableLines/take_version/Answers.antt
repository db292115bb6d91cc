-- A version is text, and nothing is before it.
use Rattle.std.proofs.Common.{sym, ap, ◌∙◌, Some}
use Rattle.std.proofs.lemmas.Result.{MatchResult-at_ok}
use Rattle.uca_table.proofs.TakeLaws.{takes_version, keeps_version, name_is_text, is_ok_by, absent, version_fault}
use Rattle.uca_table.proofs.lines.TableLines.take_version.Goals as goal

pub unwrap-name-requires : goal.unwrap-name-requires
unwrap-name-requires g c = is_ok_by _ _ _ _ c.from_utf8.ensures.cases
    (name_is_text c.argument-name.result.now (sym c.is_version_name.ensures ∙ c.if-not-is_version_name.false))

pub invariant_of-self : goal.invariant_of-self
invariant_of-self g c =
    let named = sym c.is_version_name.ensures ∙ c.if-not-is_version_name.false in
    let name = ap Some (c.in-Ok.ensures.ok ∙ (MatchResult-at_ok _ _ _ c.unwrap-name.ensures c.from_utf8.ensures.cases).0) in
    keeps_version _ _ _ c.args.self.now c.args.text.now c.argument-name.result.now _ c.self.invariant
    (takes_version c.args.self.now _ c.args.text.now c.argument-name.result.now _ c.self.view_is c.self.invariant.begun
    (absent _ c.self.inside.version _ c.is_some.ensures c.if-is_some.false) c.requires c.argument-name.ensures named name)
    name named

pub returns-in-Ok-clause-ok : goal.returns-in-Ok-clause-ok
returns-in-Ok-clause-ok g c =
    let named = sym c.is_version_name.ensures ∙ c.if-not-is_version_name.false in
    let name = ap Some (c.in-Ok.ensures.ok ∙ (MatchResult-at_ok _ _ _ c.unwrap-name.ensures c.from_utf8.ensures.cases).0) in
    takes_version c.args.self.now _ c.args.text.now c.argument-name.result.now _ c.self.view_is c.self.invariant.begun
    (absent _ c.self.inside.version _ c.is_some.ensures c.if-is_some.false) c.requires c.argument-name.ensures named name

pub returns-then-not-is_version_name-clause-fault : goal.returns-then-not-is_version_name-clause-fault
returns-then-not-is_version_name-clause-fault g c =
    version_fault c.args.self.now _ c.args.text.now c.argument-name.result.now c.self.view_is
    (absent _ c.self.inside.version _ c.is_some.ensures c.if-is_some.false) c.requires c.argument-name.ensures
    (sym c.is_version_name.ensures ∙ c.if-not-is_version_name.true)
