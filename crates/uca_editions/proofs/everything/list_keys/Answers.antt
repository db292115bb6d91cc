use Rattle.std.proofs.Common.{◌≡◌, ◌∙◌, ◌++◌, ℕ, List, Bor, ap, ap₂, map, subst}
use Rattle.std.proofs.lemmas.Result.{on_ok_weaker}
use Rattle.uca_values.specs.Content.{Entry, TableContent, keys_of}
use Rattle.uca_editions.specs.inside.Everything.{ListsAll}
use Rattle.uca_editions.proofs.EveryKey.{may_list_keys}
use Rattle.uca_editions.proofs.everything.list_keys.Goals as goal

-- the texts of borrowed keys
abbrev texts_of : List (Bor (List ℕ)) → List (List ℕ)
texts_of keys = map (λ k. k.now) keys

pub returns : goal.returns
returns g c =
    let old = c.args.editions.now.old.now in
    let new = c.args.editions.now.new.now in
    let same : texts_of c.deref_mut.result.now ≡ keys_of old.rows ++ keys_of new.rows =
    ap texts_of c.deref_mut.ensures.value ∙ (c.in_ok-push_all-2.ensures
    ∙ ap₂ (λ (front : List (List ℕ)) (rows : List Entry). front ++ keys_of rows)
    (c.in_ok-push_all.ensures
    ∙ ap₂ (λ (keys : List (Bor (List ℕ))) (rows : List Entry). texts_of keys ++ keys_of rows) c.new-keys.ensures.items
    (c.deref.ensures.value ∙ ap (λ (t : TableContent). t.rows) c.old.view_is))
    (c.deref-2.ensures.value ∙ ap (λ (t : TableContent). t.rows) c.new.view_is)) in
    on_ok_weaker c.push_texts.result
    (λ lists. subst (λ (texts : List (List ℕ)). ListsAll texts c.push_texts.new.list) same
    (lists (may_list_keys old new c.args.list.now (texts_of c.deref_mut.result.now) c.know_table.ensures c.know_table-2.ensures c.requires same)))
    c.push_texts.ensures
