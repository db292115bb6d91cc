-- Each row is at the position of its key.
use Rattle.std.proofs.Common.{ℕ, List, [], Option, length, get_or, option_map, ap, sym, ◌∙◌, arith}
use Rattle.std.proofs.lemmas.List.{length-map}
use Rattle.uca_values.specs.Content.{Entry, keys_of}
use Rattle.uca_match.specs.NumberedKeys.{elements_of}
use Rattle.uca_match.proofs.PlacedKeys.{distinct_keys, placed_within, rows_by_position}
use Rattle.uca_match.proofs.trie.trie_of.Goals as goal

pub row_map-requires : goal.row_map-requires
row_map-requires g c = distinct_keys c.args.rows c.requires.distinct

pub invariant_of-result : goal.invariant_of-result
invariant_of-result g c = λ key position found.
    let rows : List Entry = c.args.rows in
    let there = placed_within 0 (keys_of rows) key position (sym (c.in-Ok.ensures key) ∙ found) in
    omega (arith, there.1, there.2, length-map rows (λ (r : Entry). r.key))

pub returns-in-Ok : goal.returns-in-Ok
returns-in-Ok g c = λ key.
    let rows : List Entry = c.args.rows in
    ap (option_map (λ p. get_or (elements_of rows) p [])) (c.in-Ok.ensures key) ∙ sym (rows_by_position rows key)
