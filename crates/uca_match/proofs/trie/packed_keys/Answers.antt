-- The key of one more row is lent.
use Rattle.std.proofs.Common.{◌<◌, List, [], ◌∷◌, ◌++◌, ℕ, length, ap, ap₂, sym, ◌∙◌, arith}
use Rattle.std.specs.Borrow.{Bor}
use Rattle.std.proofs.lemmas.List.{map_more, map_push, take_all}
use Rattle.uca_values.specs.Content.{Entry, keys_of}
use Rattle.uca_match.specs.NumberedKeys.{points_of}
use Rattle.uca_match.proofs.trie.packed_keys.Goals as goal

pub loop-at-preserved : goal.loop-at-preserved
loop-at-preserved g c =
    let rows : List Entry = c.args.rows.now in
    let no_row : Entry = record { key = []; elements = [] } in
    let within : c.loop-at.at < length rows = omega arith in
    record {
      lent = ap points_of c.in_ok-push.ensures.items ∙ map_push (λ (key : Bor (List ℕ)). key.now) c.loop-at.list.items c.key.result
          ∙ ap₂ (λ (keys : List (List ℕ)) key. keys ++ key ∷ []) c.loop-at.invariant.lent (c.key.ensures no_row)
          ∙ sym (map_more (λ (row : Entry). row.key) rows c.loop-at.at no_row within);
      within = omega (arith, within);
    }

pub returns : goal.returns
returns g c = c.loop-at.invariant.lent ∙ ap keys_of (take_all c.loop-at.at c.args.rows.now (omega arith))
