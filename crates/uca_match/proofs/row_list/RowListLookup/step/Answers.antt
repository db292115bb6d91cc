use Rattle.std.proofs.Common.{◌≡◌, ◌+◌, ◌<◌, ℕ, [], ◌∷◌, ◌++◌, length, take, ap, subst, ◌∙◌, sym, below_more, arith}
use Rattle.std.proofs.lemmas.List.{length_push}
use Rattle.std.proofs.lemmas.Bool.{false≢true}
use Rattle.uca_elements.specs.Rows.{rows_of}
use Rattle.uca_match.specs.RowLists.{key_at}
use Rattle.uca_elements.specs.Lookups.{BeginsSomeKey, BeginsNoKey}
use Rattle.uca_match.proofs.RowPlaces.{begins_later, begins_some, begins_none}
use Rattle.uca_match.proofs.row_list.RowListLookup.step.Goals as goal

pub returns-then-begins : goal.returns-then-begins
returns-then-begins g c = λ key is.
    let rows = c.args.self.now.rows.now in
    let start = c.beginning-start.result.now in
    let same = is ∙ sym c.beginning-start.ensures in
    let row_key = c.deref.ensures.value ∙ ap (λ row. row.key) c.row.view_is in
    let tested = begins_later rows c.loop-i.i c.row-item.result c.deref.result.now start c.args.c c.begins.result c.loop-i-test.true c.row-item.is
    row_key c.begins.ensures in
    let begins = tested.0 c.if-begins.true in
    let longer : take (length (start ++ c.args.c ∷ [])) (key_at rows c.loop-i.i) ≡ start ++ c.args.c ∷ [] =
    ap (λ n. take n (key_at rows c.loop-i.i)) (length_push start c.args.c) ∙ begins in
    subst (λ k. BeginsSomeKey (rows_of rows) (k ++ c.args.c ∷ []) × k ++ c.args.c ∷ [] ≡ take (length start + 1) (key_at rows c.loop-i.i)) (sym same)
    (begins_some rows c.loop-i.i (start ++ c.args.c ∷ []) c.loop-i-test.true longer, sym begins)

pub loop-i-preserved : goal.loop-i-preserved
loop-i-preserved g c =
    let rows = c.args.self.now.rows.now in
    let row_key = c.deref.ensures.value ∙ ap (λ row. row.key) c.row.view_is in
    let tested = begins_later rows c.loop-i.i c.row-item.result c.deref.result.now c.beginning-start.result.now c.args.c c.begins.result
    c.loop-i-test.true c.row-item.is row_key c.begins.ensures in
    below_more _ _ c.loop-i.invariant (λ begins. false≢true (sym c.if-begins.false ∙ tested.1 begins))

pub returns : goal.returns
returns g c = λ key is.
    let rows = c.args.self.now.rows.now in
    let start = c.beginning-start.result.now in
    let same = is ∙ sym c.beginning-start.ensures in
    let none : (k : ℕ) → k < length rows → take (length (start ++ c.args.c ∷ [])) (key_at rows k) ≡ start ++ c.args.c ∷ [] →
    ⊥ = λ k within begins. c.loop-i.invariant k (omega arith) (ap (λ n. take n (key_at rows k)) (sym (length_push start c.args.c)) ∙ begins) in
    subst (λ k. BeginsNoKey (rows_of rows) (k ++ c.args.c ∷ [])) (sym same) (begins_none rows (start ++ c.args.c ∷ []) none)
