use Rattle.std.proofs.Common.{List, ℕ, Bor}
use Rattle.uca_editions.proofs.ListedKeys.{lists_all, lists_next, may_list_sorted}
use Rattle.uca_editions.proofs.changed_texts.push_texts.Goals as goal

-- the text of a borrowed key
abbrev text_of : Bor (List ℕ) → List ℕ
text_of key = key.now

pub loop-text-preserved : goal.loop-text-preserved
loop-text-preserved g c may =
    lists_next text_of c.sort_unstable.new.self c.loop-text.text-index _ c.loop-text.list c.push_text.new.list c.sort_unstable.ensures.sorted
    c.loop-text-test.true may.fit may.few (c.loop-text.invariant may) c.in_ok-push_text.ensures

pub returns : goal.returns
returns g c may =
    let sorted = may_list_sorted text_of c.args.texts.now c.sort_unstable.new.self c.args.list.now c.sort_unstable.ensures.permutation may in
    lists_all text_of c.args.texts.now c.sort_unstable.new.self c.loop-text.list c.loop-text.text-index c.sort_unstable.ensures.permutation
    c.loop-text-test.false sorted.few (c.loop-text.invariant sorted)
