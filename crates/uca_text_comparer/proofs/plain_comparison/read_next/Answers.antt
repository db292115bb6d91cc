use Rattle.std.proofs.Common.{◌≡◌, ◌++◌, subst}
use Rattle.std.specs.Bool.{OnTrue}
use Rattle.std.specs.Prelude.{IfOk}
use Rattle.uca_elements.specs.Collations.{collation_of}
use Rattle.uca_plain.specs.Plain.{IsPlain, elements_alone}
use Rattle.uca_text_comparer.proofs.plain_comparison.read_next.Goals as goal

pub returns-in-Some-clause-read : goal.returns-in-Some-clause-read
returns-in-Some-clause-read g c =
    let collation = collation_of g.L.Lookup.content c.args.collator.now in
    let read = c.push_elements.ensures collation (c.in-Some.ensures.entry collation c.requires) in
    subst (λ x. IfOk c.push_elements.result (λ plain. OnTrue plain (IsPlain collation x
    × (c.push_elements.new.elements.items ≡ c.args.elements.now.items ++ elements_alone collation x)))) c.in-Some.ensures.point read

pub returns-in_ok-known-in-None-clause-read : goal.returns-in_ok-known-in-None-clause-read
returns-in_ok-known-in-None-clause-read g c =
    let collation = collation_of g.L.Lookup.content c.args.collator.now in
    let known = c.in_ok-known-in-None.ensures.known in
    subst (λ x. IfOk c.push_elements-in-None.result (λ plain. OnTrue plain (IsPlain collation x
    × (c.push_elements-in-None.new.elements.items ≡ c.args.elements.now.items ++ elements_alone collation x)))) known.0
    (c.push_elements-in-None.ensures collation known.1)
