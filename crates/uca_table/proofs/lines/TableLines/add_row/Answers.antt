-- The set has the keys of the rows, and the row's is new.
use Rattle.std.proofs.Common.{◌≡◌, ℕ, List, ◌++◌, ◌∷◌, [], ◌<◌, ◌≤◌, length, take, sym, ap, ap₂, subst, ◌∙◌, inl, inr, arith, refl}
use Rattle.std.specs.Prelude.{IsSome}
use Rattle.std.proofs.lemmas.List.{take_at}
use Rattle.std.proofs.lemmas.Result.{err_from_is_err_and}
use Rattle.uca_weights.specs.declared.Element.{Element}
use Rattle.uca_values.specs.Content.{Entry}
use Rattle.uca_table.specs.TableSoFar.{TableSoFar}
use Rattle.uca_table.proofs.KeepingLaws.{with_rows, keeps_row, keeps_same, contained, not_contained, added_key}
use Rattle.uca_table.proofs.lines.TableLines.add_row.Goals as goal

-- what is pushed, copies of a row's key and elements, is the row
pushed : (rows : List Entry) {new : List Entry} {key k : List ℕ} {elements e : List Element} {row : Entry}
    → new ≡ rows ++ record { key = key; elements = elements } ∷ [] → key ≡ k → elements ≡ e → record { key = k; elements = e } ≡ row
    → new ≡ rows ++ row ∷ []
pushed rows added of_key of_elements is =
    added ∙ ap (λ (r : Entry). rows ++ r ∷ []) (ap₂ (λ k e. record { key = k; elements = e }) of_key of_elements ∙ is)

pub returns-then-contains-clause-fault : goal.returns-then-contains-clause-fault
returns-then-contains-clause-fault g c =
    let rows = ap (λ (b : TableSoFar). b.rows) c.self.view_is in
    let key = ap (λ (r : Entry). r.key) c.row.view_is in
    inr (contained _ _ _ _ rows key ((c.self.invariant.keys c.row.inside.key).0 (sym c.contains.ensures ∙ c.if-contains.true)))

pub invariant_of-self-in-Err : goal.invariant_of-self-in-Err
invariant_of-self-in-Err g c =
    let rows : List Entry = c.self.inside.rows in
    let back : c.truncate.new.self ≡ rows = c.truncate.ensures ∙ ap (take c.len-before.result) c.in_ok-push.ensures.added
    ∙ take_at rows _ c.len-before.result (sym c.len-before.ensures) in
    keeps_same _ _ _ _ _ c.self.invariant (ap (with_rows _ _ _) back) c.in-Err.ensures.same

pub invariant_of-self-in-Ok : goal.invariant_of-self-in-Ok
invariant_of-self-in-Ok g c =
    let key = ap (λ (r : Entry). r.key) c.row.view_is in
    keeps_row _ _ _ _ _ c.args.row.now c.self.invariant c.requires.entry
    (not_contained _ _ _ _ refl key _ (c.self.invariant.keys c.row.inside.key) (sym c.contains.ensures ∙ c.if-contains.false))
    (omega arith)
    (let P : TableSoFar → Type 0 = λ b. IsSome b.version in subst P (sym c.self.view_is) c.requires.versioned)
    (ap (with_rows _ _ _) (pushed c.self.inside.rows c.in_ok-push.ensures.added c.deref.ensures.value c.deref-2.ensures.value c.row.view_is))
    (λ q. added_key _ _ _ _ _ (c.deref-3.ensures.value ∙ key) (c.in-Ok.ensures.added q))

pub returns-in-Ok-clause-new : goal.returns-in-Ok-clause-new
returns-in-Ok-clause-new g c =
    let rows = ap (λ (b : TableSoFar). b.rows) c.self.view_is in
    let key = ap (λ (r : Entry). r.key) c.row.view_is in
    not_contained _ _ _ _ rows key _ (c.self.invariant.keys c.row.inside.key) (sym c.contains.ensures ∙ c.if-contains.false)

pub returns-then-len-ge-MOST_ROWS-clause-fault : goal.returns-then-len-ge-MOST_ROWS-clause-fault
returns-then-len-ge-MOST_ROWS-clause-fault g c =
    let rows = ap (λ (b : TableSoFar). b.rows) c.self.view_is in
    let key = ap (λ (r : Entry). r.key) c.row.view_is in
    let Full : TableSoFar → Type 0 = λ b. 200000 ≤ length b.rows in
    inr (
      not_contained _ _ _ _ rows key _ (c.self.invariant.keys c.row.inside.key) (sym c.contains.ensures ∙ c.if-contains.false),
      subst Full c.self.view_is (omega arith),
    )

pub returns-in-Ok-clause-few : goal.returns-in-Ok-clause-few
returns-in-Ok-clause-few g c =
    let Few : TableSoFar → Type 0 = λ b. length b.rows < 200000 in
    subst Few c.self.view_is (omega arith)

pub returns-in-Ok-clause-ok : goal.returns-in-Ok-clause-ok
returns-in-Ok-clause-ok g c =
    let added : TableSoFar → TableSoFar = λ b. record b { rows = b.rows ++ c.args.row.now ∷ [] } in
    ap (with_rows _ _ _) (pushed c.self.inside.rows c.in_ok-push.ensures.added c.deref.ensures.value c.deref-2.ensures.value c.row.view_is)
    ∙ ap added c.self.view_is

pub invariant_of-self : goal.invariant_of-self
invariant_of-self g c = keeps_same _ _ _ _ _ c.self.invariant (ap (with_rows _ _ _) c.in_err-push.ensures.unchanged) (λ q. refl)

pub returns-in_err-push-clause-fault : goal.returns-in_err-push-clause-fault
returns-in_err-push-clause-fault g c = let p = err_from_is_err_and c.from_residual.result c.from_residual.ensures.1 in rw p.1 (inl p.2)

pub returns-in_err-push-clause-unchanged : goal.returns-in_err-push-clause-unchanged
returns-in_err-push-clause-unchanged g c =
    let p = err_from_is_err_and c.from_residual.result c.from_residual.ensures.1 in
    rw p.1 (ap (with_rows _ _ _) c.in_err-push.ensures.unchanged ∙ c.self.view_is)

pub returns-in-Err-clause-fault : goal.returns-in-Err-clause-fault
returns-in-Err-clause-fault g c = inl c.into.ensures

pub returns-in-Err-clause-unchanged : goal.returns-in-Err-clause-unchanged
returns-in-Err-clause-unchanged g c =
    let rows : List Entry = c.self.inside.rows in
    let back : c.truncate.new.self ≡ rows = c.truncate.ensures ∙ ap (take c.len-before.result) c.in_ok-push.ensures.added
    ∙ take_at rows _ c.len-before.result (sym c.len-before.ensures) in
    ap (with_rows _ _ _) back ∙ c.self.view_is
