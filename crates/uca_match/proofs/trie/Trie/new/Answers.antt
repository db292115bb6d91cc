-- The rows are copies of those of the table.
use Rattle.std.proofs.Common.{◌≡◌, List, IfOk, ap, subst, sym, ◌∙◌}
use Rattle.uca_values.specs.Content.{Entry, TableContent, AreRows}
use Rattle.uca_elements.specs.Rows.{rows_of}
use Rattle.uca_match.specs.NumberedKeys.{rows_at}
use Rattle.uca_match.proofs.trie.Trie.new.Goals as goal

pub trie_of-requires : goal.trie_of-requires
trie_of-requires g c =
    let rows = c.in_ok-rows.ensures ∙ c.deref.ensures.value ∙ ap (λ (t : TableContent). t.rows) c.table.view_is in
    subst AreRows (sym rows) (subst (λ (t : TableContent). AreRows t.rows) c.table.view_is c.table.invariant)

pub returns : goal.returns
returns g c =
    let rows = c.in_ok-rows.ensures ∙ c.deref.ensures.value ∙ ap (λ (t : TableContent). t.rows) c.table.view_is in
    subst (λ (rs : List Entry). IfOk c.trie_of.result (λ trie. (key : _) → rows_at trie key ≡ rows_of rs key)) rows c.trie_of.ensures
