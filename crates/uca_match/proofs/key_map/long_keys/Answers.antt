-- Sorting moves the keys, and leaves them the same.
use Rattle.std.proofs.Common.{◌+◌, ◌<◌, length, map, take, subst, sym, arith, refl}
use Rattle.std.proofs.lemmas.List.{take_all, get_or_default}
use Rattle.std.proofs.lemmas.List.Sorted.{IsPermutation-map}
use Rattle.uca_elements.specs.Positions.{AreLongKeys}
use Rattle.uca_match.specs.NumberedKeys.{points_of, placed_of}
use Rattle.uca_match.proofs.PlacedKeys.{long_moved, long_keys_more, long_keys_same}
use Rattle.uca_match.proofs.key_map.long_keys.Goals as goal

pub loop-position-preserved-then-key-eq1 : goal.loop-position-preserved-then-key-eq1
loop-position-preserved-then-key-eq1 g c =
    let keys = c.args.keys.now in
    let i = c.loop-position.position in
    let within : i < length keys = omega arith in
    long_keys_same (map placed_of c.loop-position.list.items) keys i _ within (get_or_default keys i _ _ within) c.if-key-eq1.true c.loop-position.invariant

pub loop-position-preserved : goal.loop-position-preserved
loop-position-preserved g c =
    let keys = c.args.keys.now in
    let i = c.loop-position.position in
    let within : i < length keys = omega arith in
    subst (λ list. AreLongKeys (points_of (take (i + 1) keys)) (map placed_of list)) (sym c.in_ok-push.ensures.items)
    (long_keys_more c.loop-position.list.items keys i _ within (get_or_default keys i _ _ within) refl c.if-key-eq1.false c.loop-position.invariant)

pub returns : goal.returns
returns g c =
    let keys = c.args.keys.now in
    let before = c.loop-position.list.items in
    let after = c.sort_unstable_by.new.self.items in
    long_moved (points_of keys) (map placed_of before) (map placed_of after) (IsPermutation-map placed_of before after c.sort_unstable_by.ensures.permutation)
    (subst (λ ks. AreLongKeys (points_of ks) (map placed_of before)) (take_all c.loop-position.position keys (omega arith)) c.loop-position.invariant)
