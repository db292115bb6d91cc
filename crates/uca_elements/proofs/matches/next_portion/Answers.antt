use Rattle.std.proofs.Common.{◌<◌, suc, take, length, ap, sym, ◌∙◌, arith}
use Rattle.uca_text.specs.Texts.{code_points}
use Rattle.uca_elements.specs.Places.{left_at}
use Rattle.uca_elements.proofs.Leaves.{extended_at_leaf}
use Rattle.uca_elements.proofs.ExtensionSteps.{read_at}
use Rattle.uca_elements.proofs.PlaceLemmas.{left_end}
use Rattle.uca_elements.proofs.Portions.{portion_unlisted, portion_listed}
use Rattle.uca_elements.proofs.matches.next_portion.Goals as goal

pub returns-then-first-chars : goal.returns-then-first-chars
returns-then-first-chars g c =
    let s = c.args.text.now in
    sym c.first_left-first.ensures.left ∙ left_end s c.args.place c.first_left-first.result c.chars-chars.ensures.accepted.same
    (omega (arith, ap length c.chars-chars.ensures.value))

pub returns-in_default : goal.returns-in_default
returns-in_default g c =
    let s = c.args.text.now in
    let first = c.first_left-first in
    let within : first.result < length s.points = omega (arith, ap length c.chars-chars.ensures.value) in
    let letter = read_at c.chars-chars.result.now s.points first.result c.index-chars-first.result c.chars-chars.ensures.value within
    c.index-chars-first.is in
    portion_unlisted (g.K.KeySet.stands_for c.args.keys.now) (g.K.KeySet.keys c.args.keys.now) s c.args.place first.result first.ensures.after first.ensures.left c.moved.result
    c.index-chars-first.result c.chars-chars.ensures.accepted.same within (first.ensures.kept within) c.in_default.ensures letter
    c.moved.ensures.place c.moved.ensures.at c.moved.ensures.left

pub returns : goal.returns
returns g c =
    let s = c.args.text.now in
    let first = c.first_left-first in
    let longest = c.in-Some.ensures in
    let front = take (suc longest.count) (left_at s c.args.place first.result) in
    portion_listed (g.K.KeySet.stands_for c.args.keys.now) (g.K.KeySet.keys c.args.keys.now) s c.args.place first.result first.ensures.after
    first.ensures.left c.in-Some.key c.moved-after.result c.extend.result longest c.moved-after.ensures.at
    c.moved-after.ensures.left (c.extend.ensures front longest.stands)

pub returns-then-not-may_go_on : goal.returns-then-not-may_go_on
returns-then-not-may_go_on g c =
    let s = c.args.text.now in
    let first = c.first_left-first in
    let longest = c.in-Some.ensures in
    let front = take (suc longest.count) (left_at s c.args.place first.result) in
    portion_listed (g.K.KeySet.stands_for c.args.keys.now) (g.K.KeySet.keys c.args.keys.now) s c.args.place first.result first.ensures.after
    first.ensures.left c.in-Some.key c.moved-after.result _ longest c.moved-after.ensures.at c.moved-after.ensures.left
    (extended_at_leaf (g.K.KeySet.stands_for c.args.keys.now) (g.K.KeySet.keys c.args.keys.now) s front c.moved-after.result c.in-Some.key.node
    (c.may_go_on.ensures (code_points front) longest.stands c.if-not-may_go_on.true) longest.stands c.moved-after.ensures.place)
