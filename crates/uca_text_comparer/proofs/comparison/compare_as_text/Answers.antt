-- The texts are compared without being normalized.
use Rattle.std.proofs.Common.{Option, refl, subst}
use Rattle.std.specs.Prelude.{IfSome}
use Rattle.std.specs.Str.{chars}
use Rattle.uca_text.specs.Texts.{nfd_text}
use Rattle.uca_text.specs.Limits.{IsAccepted}
use Rattle.uca_elements.specs.Collations.{collation_of}
use Rattle.uca_comparison.specs.declared.comparison.Compared.{Compared}
use Rattle.uca_text_comparer.proofs.PairSteps.{Compares, Fetches, normals_compare}
use Rattle.uca_text_comparer.proofs.comparison.compare_as_text.Goals as goal

pub returns-in-Some-clause-compared : goal.returns-in-Some-clause-compared
returns-in-Some-clause-compared g c =
    let by = collation_of g.L.Lookup.content c.args.collator.now in
    let xs = chars c.args.left.now in
    let ys = chars c.args.right.now in
    let left = nfd_text by.properties xs in
    let right = nfd_text by.properties ys in
    let found = c.in_ok-found.ensures in
    let compares = subst (λ (o : Option Compared). IfSome o (λ it. Compares by c.args.weighting c.args.depth left right it.order it.level)) c.in-Some.is found.compared in
    let fetches = subst (λ (o : Option Compared). IfSome o (λ it. Fetches by c.args.weighting left right it.fetched_left it.fetched_right)) c.in-Some.is found.fetched in
    let accepted = subst (λ (o : Option Compared). IfSome o (λ _. IsAccepted left × IsAccepted right)) c.in-Some.is found.accepted in
    normals_compare by c.args.weighting c.args.depth xs ys left right c.in-Some.compared refl refl accepted.0 accepted.1 compares fetches
