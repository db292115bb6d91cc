-- An empty line, a header, and a range where it must come.
use Rattle.std.proofs.Common.{◌≢◌, ℕ, Bool, List, [], ap, sym, subst, ◌∙◌, inl, inr, refl}
use Rattle.std.proofs.lemmas.Result.{err_from_is_err_and, on_ok_weaker, IfErr-weaker}
use Rattle.std.proofs.lemmas.List.{nil_from_length}
use Rattle.std.proofs.lemmas.Slice.Eq.{bytes_eq-Decides}
use borrow.Author.Tests.{eqb-true}
use Rattle.uca_table.specs.DataLines.{Nothing, Start, header}
use Rattle.uca_table.specs.DataSoFar.{IsRangeDue, summary}
use Rattle.uca_table.proofs.DataWords.{some_from_test}
use Rattle.uca_table.proofs.DataTaken.{not_header, words_cause, added_takes, refused_cause}
use Rattle.uca_table.proofs.data_file.so_far.DataSoFar.take_line.Goals as goal

pub returns-in_err-range_line-clause-fault : goal.returns-in_err-range_line-clause-fault
returns-in_err-range_line-clause-fault g c =
    let text = c.line_text-text.result.now in
    let self = c.args.self.now in
    let due : IsRangeDue (summary self.started self.«data») text = record {
      started = c.if-not-self.false;
      some = some_from_test text _ c.is_empty.ensures c.if-is_empty.false;
      other = not_header text _ c.eq.ensures c.if-eq.false;
    } in
    let p = err_from_is_err_and c.from_residual.result c.from_residual.ensures.1 in
    rw (p.1, p.2) (inr (words_cause (summary self.started self.«data») c.args.line.now text c.line_text-text.ensures due _
    c.in_err-range_line.ensures.value _ refl))

pub returns-clause-ok : goal.returns-clause-ok
returns-clause-ok g c =
    let text = c.line_text-text.result.now in
    let self = c.args.self.now in
    let due : IsRangeDue (summary self.started self.«data») text = record {
      started = c.if-not-self.false;
      some = some_from_test text _ c.is_empty.ensures c.if-is_empty.false;
      other = not_header text _ c.eq.ensures c.if-eq.false;
    } in
    added_takes self.«data» c.add.new.«data» self.started c.args.line.now text c.line_text-text.ensures due _ c.in_ok-range_line.ensures.value _
    c.add.ensures.ok

pub returns-clause-fault : goal.returns-clause-fault
returns-clause-fault g c =
    let text = c.line_text-text.result.now in
    let self = c.args.self.now in
    let due : IsRangeDue (summary self.started self.«data») text = record {
      started = c.if-not-self.false;
      some = some_from_test text _ c.is_empty.ensures c.if-is_empty.false;
      other = not_header text _ c.eq.ensures c.if-eq.false;
    } in
    refused_cause self.«data» c.add.new.«data» self.started c.args.line.now text c.line_text-text.ensures due _ c.in_ok-range_line.ensures.value _
    c.add.ensures.err

pub returns-then-is_empty-clause-ok : goal.returns-then-is_empty-clause-ok
returns-then-is_empty-clause-ok g c = record {
  item = Nothing;
  form = sym c.line_text-text.ensures ∙ nil_from_length _ (eqb-true _ 0 (sym c.if-is_empty.ensures));
  adds = refl;
}

pub returns-then-eq-clause-ok : goal.returns-then-eq-clause-ok
returns-then-eq-clause-ok g c =
    let form = sym c.line_text-text.ensures ∙ (bytes_eq-Decides c.line_text-text.result.now header).0 (sym c.if-eq.ensures) in
    on_ok_weaker c.start.result (λ started. record {
      item = Start;
      form = form;
      adds = (started.0, ap (λ (b : Bool). summary b c.args.self.now.«data») started.1);
    }) c.start.ensures.ok

pub returns-then-eq-clause-fault : goal.returns-then-eq-clause-fault
returns-then-eq-clause-fault g c =
    let form = sym c.line_text-text.ensures ∙ (bytes_eq-Decides c.line_text-text.result.now header).0 (sym c.if-eq.ensures) in
    IfErr-weaker c.start.result _ _ (λ kind fault. inr (inl (fault.0, inl (fault.1, form)))) c.start.ensures.err

pub returns-then-not-self-clause-fault : goal.returns-then-not-self-clause-fault
returns-then-not-self-clause-fault g c =
    let text = c.line_text-text.result.now in
    let Other : List ℕ → Type 0 = λ t. (t ≢ []) × (t ≢ header) in
    let other = subst Other c.line_text-text.ensures
    (some_from_test text _ c.is_empty.ensures c.if-is_empty.false, not_header text _ c.eq.ensures c.if-eq.false) in
    inr (inl (refl, inr (c.if-not-self.true, other.0, other.1)))
