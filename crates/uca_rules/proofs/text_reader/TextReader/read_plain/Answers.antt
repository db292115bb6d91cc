-- The text of the symbols that were read, or what is wrong with them.
use Rattle.std.proofs.Common.{◌≡◌, ◌≢◌, ◌≤◌, List, [], length, ap, ◌∙◌, sym, subst, refl}
use Rattle.std.proofs.lemmas.Result.{err_from_is_err_and}
use Rattle.uca_text.specs.Texts.{NfdText, nfd_text}
use Rattle.uca_rules.specs.Characters.{place_of}
use Rattle.uca_rules.specs.inside.Reading.{IsNoRuleText, properties_in}
use Rattle.uca_rules.specs.declared.characters.Symbol.{Symbol}
use Rattle.uca_rules.specs.Pieces.{points_of}
use Rattle.uca_rules.proofs.RuleTexts.{text_fault}
use Rattle.uca_rules.proofs.text_reader.TextReader.read_plain.Goals as goal

pub rule_text-requires : goal.rule_text-requires
rule_text-requires g c =
    subst (λ (l : List Symbol). points_of l ≢ []) (sym c.deref.ensures.value) (c.in_ok-rest.ensures.points refl)

pub returns-in-Ok-clause-found : goal.returns-in-Ok-clause-found
returns-in-Ok-clause-found g c =
    let symbols : List Symbol = c.read_text.new.symbols.items in
    let said = c.in-Ok.ensures.found in
    let is : c.in-Ok.normal ≡ nfd_text (properties_in c.args.self.now) (points_of symbols) =
    said.0 ∙ ap (λ (l : List Symbol). nfd_text (properties_in c.args.self.now) (points_of l)) c.deref.ensures.value in (
      record { place = place_of 0 c.args.text.now; points = points_of symbols },
      record { symbols = symbols; begins = c.in_ok-rest.ensures.found; is = refl },
      record { is = is; short = subst (λ (t : NfdText). length t.points ≤ 16) is said.1.short; rule = said.1 },
    )

pub returns-in-Err-clause-fault : goal.returns-in-Err-clause-fault
returns-in-Err-clause-fault g c =
    text_fault c.args.self.now.end c.args.text.now c.in_ok-rest.rest.now c.read_text.new.symbols.items c.place_of-byte.result c.in-Err.kind c.place_of-byte.ensures c.in_ok-rest.ensures.found
    (subst (λ (l : List Symbol). IsNoRuleText (points_of l) c.in-Err.kind) c.deref.ensures.value c.in-Err.ensures.fault)

pub returns-in_err-rest-clause-fault : goal.returns-in_err-rest-clause-fault
returns-in_err-rest-clause-fault g c =
    let p = err_from_is_err_and c.from_residual.result c.from_residual.ensures.1 in
    rw (p.1, p.2) c.in_err-rest.ensures.fault
