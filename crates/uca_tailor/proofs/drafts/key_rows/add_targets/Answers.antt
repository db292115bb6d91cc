-- A target that is no key of the base comes after the keys so far, if there is room for it.
use Rattle.std.proofs.Common.{◌∷◌, ◌++◌, [], List, Bor, refl, ap, sym, ◌∙◌, arith}
use Rattle.std.proofs.lemmas.List.{length-map}
use Rattle.uca_match.specs.NumberedKeys.{points_of}
use Rattle.uca_tailor.proofs.DraftLemmas.ListedKeys.{points_push, target_found, target_there, target_more, listed_some, listed_all}
use Rattle.uca_tailor.proofs.drafts.key_rows.add_targets.Goals as goal

pub loop-relation-init : goal.loop-relation-init
loop-relation-init g c = record { are = refl; few = c.requires.few }

pub loop-relation-preserved-then-is_some : goal.loop-relation-preserved-then-is_some
loop-relation-preserved-then-is_some g c =
    let base = points_of c.args.keys.items in
    target_there base c.args.relations.now (points_of c.loop-relation.keys.items) c.loop-relation.relation-index c.relation-item.result
    c.loop-relation-test.true c.relation-item.is c.loop-relation.invariant
    (target_found base base c.chars-target.result.now c.relation-item.result.target.points c.position.result refl c.chars-target.ensures.value
    (c.position.ensures ∙ c.requires.rows c.chars-target.result.now)
    ∙ sym c.is_some.ensures ∙ c.if-is_some.true)

pub returns-then-len-ge-MOST_ROWS : goal.returns-then-len-ge-MOST_ROWS
returns-then-len-ge-MOST_ROWS g c =
    let base = points_of c.args.keys.items in
    listed_some base c.args.relations.now (points_of c.loop-relation.keys.items) c.loop-relation.relation-index c.relation-item.result
    c.loop-relation-test.true c.relation-item.is c.loop-relation.invariant c.requires.rules.distinct
    (target_found base base c.chars-target.result.now c.relation-item.result.target.points c.position.result refl c.chars-target.ensures.value
    (c.position.ensures ∙ c.requires.rows c.chars-target.result.now)
    ∙ sym c.is_some.ensures ∙ c.if-is_some.false)
    (omega (arith, length-map c.loop-relation.keys.items (λ (k : Bor (List _)). k.now)))

pub loop-relation-preserved : goal.loop-relation-preserved
loop-relation-preserved g c =
    let base = points_of c.args.keys.items in
    let points = points_of c.loop-relation.keys.items in
    target_more base c.args.relations.now points c.loop-relation.relation-index c.relation-item.result
    c.loop-relation-test.true c.relation-item.is c.loop-relation.invariant (points_of c.push.new.self.items) c.requires.rules.distinct
    (target_found base base c.chars-target.result.now c.relation-item.result.target.points c.position.result refl c.chars-target.ensures.value
    (c.position.ensures ∙ c.requires.rows c.chars-target.result.now)
    ∙ sym c.is_some.ensures ∙ c.if-is_some.false)
    (omega (arith, length-map c.loop-relation.keys.items (λ (k : Bor (List _)). k.now)))
    (ap points_of c.in_ok-push.ensures.items ∙ points_push c.loop-relation.keys.items c.chars-target.result
    ∙ ap (λ k. points ++ k ∷ []) c.chars-target.ensures.value)

pub returns : goal.returns
returns g c =
    listed_all (points_of c.args.keys.items) c.args.relations.now (points_of c.loop-relation.keys.items) c.loop-relation.relation-index
    c.loop-relation-test.false c.loop-relation.invariant
