use Rattle.std.proofs.Common.{Result, ap, subst, sym}
use Rattle.std.specs.Str.{chars}
use Rattle.uca_text.specs.declared.normalize.TextFault.{TextFault}
use Rattle.uca_elements.specs.Collations.{collation_of}
use Rattle.uca_order.specs.Depths.{written_text}
use Rattle.uca_comparison.specs.declared.comparison.Compared.{Compared}
use Rattle.uca_text_comparer.specs.Comparers.{ComparerState, collation_by}
use Rattle.uca_text_comparer.proofs.ComparerSteps.{IsTextAnswer, IsAnswerBy}
use Rattle.uca_text_comparer.proofs.text_comparer.TextComparer.compare.Goals as goal
use Rattle.uca_text_comparer.proofs.text_comparer.TextComparer.compare.Goals.{in-Ok, in-Err}

pub returns : goal.returns
returns g c =
    let content = g.L.Lookup.content in
    let xs = chars c.args.left.now in
    let ys = chars c.args.right.now in
    let inside = c.self.inside in
    let by = collation_of content inside.collator in
    let left = written_text inside.settings.numbers by.properties xs in
    let right = written_text inside.settings.numbers by.properties ys in
    let answer : IsTextAnswer by inside.settings xs ys c.match-compare.result = elim c.match-compare.branch [
      | in-Ok w ↦
          subst (λ (r : Result Compared TextFault). IsTextAnswer by inside.settings xs ys r) (sym w.result-is)
          (record { compared = w.in-Ok.ensures.compared; fetched = w.in-Ok.ensures.fetched; accepted = w.in-Ok.ensures.accepted; fault = tt })
      | in-Err w ↦
          subst (λ (r : Result Compared TextFault). IsTextAnswer by inside.settings xs ys r) (sym w.result-is)
          (record { compared = tt; fetched = tt; accepted = tt; fault = w.text_fault.ensures left right w.in-Err.ensures.fault })
    ] in
    let said = subst (λ (s : ComparerState _). IsAnswerBy content s xs ys c.match-compare.result) c.self.view_is answer in
    record {
      compared = said.compared;
      fetched = said.fetched;
      accepted = said.accepted;
      fault = said.fault;
      collation = ap (collation_by content) c.self.view_is;
      settings = ap (λ (s : ComparerState _). s.settings) c.self.view_is;
    }
