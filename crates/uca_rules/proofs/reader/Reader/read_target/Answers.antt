-- A target, perhaps an expansion, and their relation.
use Rattle.std.proofs.Common.{◌≡◌, ◌⊎◌, ℕ, List, false, refl, ap, subst, ◌∙◌}
use Rattle.std.proofs.lemmas.Result.{err_from_is_err_and}
use Rattle.uca_values.specs.Content.{Properties}
use Rattle.uca_rules.specs.declared.characters.Character.{Character}
use Rattle.uca_rules.specs.Characters.{place_of}
use Rattle.uca_rules.specs.Faults.{RelationCause}
use Rattle.uca_rules.specs.inside.Views.{IsMemoryAt, IsTextFault}
use Rattle.uca_rules.specs.inside.Reading.{AreTextsOf, properties_in, relation_of, state_of}
use Rattle.uca_rules.proofs.Progress.{kept_properties, keeps_both}
use Rattle.uca_rules.proofs.StatementSteps.{expansion_fault, plain_adds, relation_fault, rule_expansion, target_fault, written_place}
use Rattle.uca_rules.proofs.reader.Reader.read_target.Goals as goal

pub returns-in_err-target-clause-fault : goal.returns-in_err-target-clause-fault
returns-in_err-target-clause-fault g c =
    let p = err_from_is_err_and c.from_residual.result c.from_residual.ensures.1 in
    let old = c.args.self.now in
    rw (p.1, p.2) (target_fault (properties_in old.texts) old.texts.end (state_of old) c.args.strength c.args.text.now c.in_err-target.field-0.0 c.in_err-target.ensures.fault)

pub returns-in-Err-clause-fault : goal.returns-in-Err-clause-fault
returns-in-Err-clause-fault g c =
    let old = c.args.self.now in
    let target = c.in_ok-target.ensures.found in
    let fault = c.in-Err.ensures.fault in
    expansion_fault (properties_in old.texts) old.texts.end (state_of old) c.args.strength c.args.text.now c.in_ok-target.tail.now fault.0 target.0 c.in-Err.fault
    target.1 fault.1 (subst (λ (n : ℕ). IsTextFault n false fault.0 c.in-Err.fault) c.in_ok-target.ensures.kept.end fault.2)

pub returns-in-Err-add-clause-fault : goal.returns-in-Err-add-clause-fault
returns-in-Err-add-clause-fault g c =
    let old = c.args.self.now in
    let target = c.in_ok-target.ensures.found in
    let expansion = c.in-Ok.ensures.found in
    let rest : List Character = c.in-Ok.rest.now in
    let same : properties_in c.read_plain.new.self ≡ properties_in old.texts = kept_properties old.texts c.read_plain.new.self c.in_ok-target.ensures.kept in
    let are : AreTextsOf (properties_in old.texts) expansion.0 c.in-Ok.expansion =
    subst (λ (p : Properties). AreTextsOf p expansion.0 c.in-Ok.expansion) same expansion.2 in
    let ends : c.read_expansion.new.self.end ≡ old.texts.end = c.in-Ok.ensures.kept.end ∙ c.in_ok-target.ensures.kept.end in
    let here : c.place_of-here.result ≡ place_of old.texts.end rest = c.place_of-here.ensures ∙ ap (λ (n : ℕ). place_of n rest) ends in
    let place : c.place_of-place.result ≡ target.0.place =
    c.place_of-place.ensures ∙ ap (λ (n : ℕ). place_of n c.args.text.now) ends ∙ written_place old.texts.end c.args.text.now target.0 c.in_ok-target.tail.now target.1 in
    let fault : IsMemoryAt (place_of old.texts.end rest) c.in-Err-add.fault ⊎ ((c.in-Err-add.fault.byte ≡ target.0.place) × RelationCause old.rules.relations.items (relation_of old c.args.strength c.in_ok-target.target c.in-Ok.expansion) c.in-Err-add.fault.kind) =
    subst (λ (n : ℕ). IsMemoryAt n c.in-Err-add.fault ⊎ ((c.in-Err-add.fault.byte ≡ target.0.place) × RelationCause old.rules.relations.items (relation_of old c.args.strength c.in_ok-target.target c.in-Ok.expansion) c.in-Err-add.fault.kind)) here
    (subst (λ (n : ℕ). IsMemoryAt c.place_of-here.result c.in-Err-add.fault ⊎ ((c.in-Err-add.fault.byte ≡ n) × RelationCause old.rules.relations.items (relation_of old c.args.strength c.in_ok-target.target c.in-Ok.expansion) c.in-Err-add.fault.kind)) place
    c.in-Err-add.ensures.fault) in
    relation_fault (properties_in old.texts) old.texts.end (state_of old) c.args.strength c.args.text.now c.in_ok-target.tail.now rest target.0 expansion.0
    c.in_ok-target.target c.in-Ok.expansion c.in-Err-add.fault target.1 expansion.1 target.2 are fault

pub returns-in-Ok-add-clause-found : goal.returns-in-Ok-add-clause-found
returns-in-Ok-add-clause-found g c =
    let old = c.args.self.now in
    let target = c.in_ok-target.ensures.found in
    let expansion = c.in-Ok.ensures.found in
    let same : properties_in c.read_plain.new.self ≡ properties_in old.texts = kept_properties old.texts c.read_plain.new.self c.in_ok-target.ensures.kept in
    let are : AreTextsOf (properties_in old.texts) expansion.0 c.in-Ok.expansion =
    subst (λ (p : Properties). AreTextsOf p expansion.0 c.in-Ok.expansion) same expansion.2 in
    plain_adds old _ c.add.new.self c.args.strength c.args.text.now c.in_ok-target.tail.now c.in-Ok.rest.now target.0 expansion.0
    c.in_ok-target.target c.in-Ok.expansion target.1 expansion.1 target.2 are
    (keeps_both old.texts c.read_plain.new.self c.read_expansion.new.self c.in_ok-target.ensures.kept c.in-Ok.ensures.kept)
    refl refl refl c.in-Ok-add.ensures.added

pub add-requires-clause-ready : goal.add-requires-clause-ready
add-requires-clause-ready g c = record { growing = c.requires.ready.growing; anchored = c.requires.ready.anchored }

pub add-requires-clause-target : goal.add-requires-clause-target
add-requires-clause-target g c = c.in_ok-target.ensures.found.2.rule

pub add-requires-clause-expansion : goal.add-requires-clause-expansion
add-requires-clause-expansion g c = rule_expansion _ c.in-Ok.ensures.found.0 c.in-Ok.expansion c.in-Ok.ensures.found.2
