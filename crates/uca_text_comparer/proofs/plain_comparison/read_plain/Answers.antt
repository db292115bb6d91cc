use Rattle.std.proofs.Common.{◌≡◌, ◌++◌, refl, rules, sym, subst, ◌∙◌}
use Rattle.std.specs.Bool.{OnTrue}
use Rattle.std.specs.Str.{chars}
use Rattle.std.proofs.lemmas.Iterator.{YieldsList-from_chars}
use Rattle.std.proofs.lemmas.Iterator.Consumers.{YieldsList-end}
use Rattle.std.proofs.lemmas.List.{map-id}
use Rattle.uca_elements.specs.Collations.{collation_of}
use Rattle.uca_plain.specs.Plain.{IsPlain, elements_alone}
use Rattle.uca_text_comparer.specs.inside.Shared.{HasElements}
use Rattle.uca_text_comparer.proofs.SharedSteps.{plain_on, elements_on}
use Rattle.uca_text_comparer.proofs.plain_comparison.read_plain.Goals as goal

pub loop-point-init : goal.loop-point-init
loop-point-init g c = record { entries = c.requires; plain = tt; elements = search rules }

pub loop-point-preserved : goal.loop-point-preserved
loop-point-preserved g c =
    let collation = collation_of g.L.Lookup.content c.args.collator.now in
    let read = subst (λ b. OnTrue b (IsPlain collation c.in-Some.point
    × (c.read_next.new.elements.items ≡ c.loop-point.elements.items ++ elements_alone collation c.in-Some.point))) c.if-not-branch.false c.in_ok-read_next.ensures.read in
    record {
      entries = c.read_next.ensures.entries;
      plain = plain_on collation c.loop-point.yielded c.in-Some.point c.in-Some.point refl c.loop-point.invariant.plain read.0;
      elements = elements_on collation c.loop-point.yielded c.in-Some.point c.in-Some.point c.loop-point.elements.items _ _
          refl c.loop-point.invariant.elements refl read.1;
    }

pub returns-clause-read : goal.returns-clause-read
returns-clause-read g c =
    let end = YieldsList-end (YieldsList-from_chars c.args.text.now c.utf8.text cc) c.loop-point.yielded _ c.loop-point.yielded_by _ _ c.in-None.is
    c.next.ensures.steps in
    let all : c.loop-point.yielded ≡ chars c.args.text.now = sym (map-id c.loop-point.yielded) ∙ end.0 in
    subst (λ xs. HasElements (collation_of g.L.Lookup.content c.args.collator.now) xs c.loop-point.elements.items) all
    (c.loop-point.invariant.plain, c.loop-point.invariant.elements)

pub returns-clause-entries : goal.returns-clause-entries
returns-clause-entries g c = c.loop-point.invariant.entries
