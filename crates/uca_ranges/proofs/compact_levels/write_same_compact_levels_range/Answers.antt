use Rattle.std.proofs.Common.{ℕ, List, ◌++◌, true, false, take, ap, sym, ◌∙◌, arith}
use Rattle.std.proofs.lemmas.Bool.{false≢true}
use Rattle.uca_compact.proofs.ExpandedKeys.{bytes_are}
use Rattle.uca_ranges.proofs.CompactFinds.{made_as, compact_found, compact_has, compact_not_found, no_compact_end, no_such_levels}
use Rattle.uca_ranges.proofs.compact_levels.write_same_compact_levels_range.Goals as goal

pub returns-in-None-clause-levels : goal.returns-in-None-clause-levels
returns-in-None-clause-levels g c =
    no_compact_end c.args.settings c.args.compacter.now.book c.args.count c.args.key.now c.args.low.now.items c.args.high.now.items c.in-None.ensures.value

pub returns-then-not-branch-clause-levels : goal.returns-then-not-branch-clause-levels
returns-then-not-branch-clause-levels g c =
    let front = take c.in-Some.end c.args.key.now in
    let book = c.args.compacter.now.book in
    let made = c.write_compact.new.compact.items in
    compact_not_found c.args.settings book c.args.count c.level_total-all.result c.args.key.now c.extend_from_slice.new.self.items c.push_plain_levels.new.bytes.items
    c.push_no_points.new.key.items made c.push_no_points.new.key.items made c.in-Some.end c.level_total-all.ensures.is c.in-Some.ensures.value
    (c.in_ok-extend_from_slice.ensures.items ∙ ap (λ (xs : List ℕ). xs ++ front) c.clear.ensures.items) c.in_ok-push_plain_levels.ensures c.in_ok-push_no_points.ensures
    (made_as c.args.compacter.now.settings c.args.settings book c.deref.result.now c.push_no_points.new.key.items made c.in_ok-write_compact.field-0 false
    c.requires.settings c.deref.ensures.value c.if-not-branch.true c.in_ok-write_compact.ensures.key)

pub returns-clause-levels : goal.returns-clause-levels
returns-clause-levels g c =
    let front = take c.in-Some.end c.args.key.now in
    let book = c.args.compacter.now.book in
    let made = c.write_compact.new.compact.items in
    compact_found c.args.settings book c.args.count c.level_total-all.result c.saturating_sub.result c.args.key.now c.extend_from_slice.new.self.items
    c.push_plain_levels.new.bytes.items c.push_no_points.new.key.items made c.part_ends.new.low.items c.part_ends.new.high.items c.in-Some.end
    c.level_total-all.ensures.is c.saturating_sub.ensures c.in-Some.ensures.value
    (c.in_ok-extend_from_slice.ensures.items ∙ ap (λ (xs : List ℕ). xs ++ front) c.clear.ensures.items) c.in_ok-push_plain_levels.ensures c.in_ok-push_no_points.ensures
    (made_as c.args.compacter.now.settings c.args.settings book c.deref.result.now c.push_no_points.new.key.items made c.in_ok-write_compact.field-0 true
    c.requires.settings c.deref.ensures.value c.if-not-branch.false c.in_ok-write_compact.ensures.key)
    c.in_ok-part_ends.ensures.low c.in_ok-part_ends.ensures.high

pub returns-then-not-are_some_of-clause-levels : goal.returns-then-not-are_some_of-clause-levels
returns-then-not-are_some_of-clause-levels g c =
    no_such_levels c.args.settings c.args.compacter.now.book c.args.count c.level_total-all.result c.args.key.now c.args.low.now.items c.args.high.now.items
    c.level_total-all.ensures.is (λ counts. false≢true (sym c.if-not-are_some_of.true ∙ c.are_some_of.ensures.1 counts))

pub returns-clause-found : goal.returns-clause-found
returns-clause-found g c _ =
    let front = take c.in-Some.end c.args.key.now in
    let book = c.args.compacter.now.book in
    let made = c.write_compact.new.compact.items in
    compact_has c.args.settings book c.args.count c.level_total-all.result c.saturating_sub.result c.args.key.now c.extend_from_slice.new.self.items
    c.push_plain_levels.new.bytes.items c.push_no_points.new.key.items made c.part_ends.new.low.items c.part_ends.new.high.items c.in-Some.end
    (bytes_are c.args.key.now (λ k low. let fits = c.type_inv.key k in omega (arith, fits))) (c.are_some_of.ensures.0 c.if-not-are_some_of.false)
    c.level_total-all.ensures.is c.saturating_sub.ensures c.in-Some.ensures.value
    (c.in_ok-extend_from_slice.ensures.items ∙ ap (λ (xs : List ℕ). xs ++ front) c.clear.ensures.items) c.in_ok-push_plain_levels.ensures c.in_ok-push_no_points.ensures
    (made_as c.args.compacter.now.settings c.args.settings book c.deref.result.now c.push_no_points.new.key.items made c.in_ok-write_compact.field-0 true
    c.requires.settings c.deref.ensures.value c.if-not-branch.false c.in_ok-write_compact.ensures.key)
    c.in_ok-part_ends.ensures.low c.in_ok-part_ends.ensures.high
