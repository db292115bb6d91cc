use Rattle.std.proofs.Common.{ap, ◌∙◌, sym, Some}
use Rattle.uca_elements.specs.Rows.{rows_of}
use Rattle.std.specs.Str.{bytes_eq}
use Rattle.uca_match.proofs.RowPlaces.{row_here, row_later}
use Rattle.uca_match.proofs.row_list.RowListLookup.elements.Goals as goal

pub returns-then-eq : goal.returns-then-eq
returns-then-eq g c = λ key is.
    let rows = c.args.self.now.rows.now in
    let same = is ∙ sym c.beginning-key.ensures in
    let row_key = c.as_slice.ensures.value ∙ ap (λ row. row.key) c.row.view_is in
    let test = c.eq.ensures ∙ ap (λ k. bytes_eq k c.beginning-key.result.now) row_key in
    let there = row_here rows c.loop-row.row-index c.row-item.result c.beginning-key.result.now c.eq.result c.loop-row-test.true c.row-item.is test
    c.if-eq.true in
    ap (rows_of rows) same ∙ sym c.loop-row.invariant ∙ there ∙ ap (λ row. Some row.elements) (sym c.row.view_is) ∙ ap Some (sym c.deref.ensures.value)

pub loop-row-preserved : goal.loop-row-preserved
loop-row-preserved g c =
    let rows = c.args.self.now.rows.now in
    let row_key = c.as_slice.ensures.value ∙ ap (λ row. row.key) c.row.view_is in
    let test = c.eq.ensures ∙ ap (λ k. bytes_eq k c.beginning-key.result.now) row_key in
    sym (row_later rows c.loop-row.row-index c.row-item.result c.beginning-key.result.now c.eq.result c.loop-row-test.true c.row-item.is test
    c.if-eq.false) ∙ c.loop-row.invariant
