use Rattle.std.proofs.Common.{◌≡◌, ◌<◌, ◌∷◌, [], ◌++◌, ◌+◌, Some, true, false, length, take, get_or, ap, sym, subst, ◌∙◌, arith}
use Rattle.uca_text.specs.Texts.{code_points}
use Rattle.uca_elements.specs.Places.{left_at}
use Rattle.uca_elements.specs.Lookups.{BeginsNoKeyIn}
use Rattle.uca_elements.proofs.ExtensionSteps.{read_at}
use Rattle.uca_elements.proofs.MatchLemmas.{IsWalked, walked_gone, walked_out, walked_on, walked_through, walked_to_leaf, longest_as_before, longest_now}
use Rattle.uca_elements.proofs.matches.longest_match.Goals as goal
use Rattle.uca_elements.proofs.matches.longest_match.Goals.{then-is_key, else-is_key}

pub loop-i-preserved-then-is_removed : goal.loop-i-preserved-then-is_removed
loop-i-preserved-then-is_removed g c =
    let s = c.args.text.now in
    let within : c.loop-i.i < length s.points = omega (arith, ap length c.chars-chars.ensures.value) in
    walked_gone _ _ s c.args.place c.args.first c.loop-i.i c.loop-i.node c.loop-i.best c.chars-chars.ensures.accepted.same within
    (sym c.is_removed.ensures ∙ c.if-is_removed.true) c.loop-i.invariant

pub returns-in_default : goal.returns-in_default
returns-in_default g c =
    let s = c.args.text.now in
    let i = c.loop-i.i in
    let keys = g.K.KeySet.keys c.args.keys.now in
    let walked = c.loop-i.invariant in
    let within : i < length s.points = omega (arith, ap length c.chars-chars.ensures.value) in
    let letter = read_at c.chars-chars.result.now s.points i c.index-chars-i.result c.chars-chars.ensures.value within c.index-chars-i.is in
    let key = code_points (take walked.count (left_at s c.args.place c.args.first)) in
    let none : BeginsNoKeyIn keys (key ++ get_or s.points i 0 ∷ []) =
    subst (λ p. BeginsNoKeyIn keys (key ++ p ∷ [])) letter (c.in_default.ensures key walked.node_is) in
    walked_out _ _ s c.args.place c.args.first i c.loop-i.node c.loop-i.best c.chars-chars.ensures.accepted.same within
    (sym c.is_removed.ensures ∙ c.if-is_removed.false) walked none

pub loop-i-preserved : goal.loop-i-preserved
loop-i-preserved g c =
    let s = c.args.text.now in
    let i = c.loop-i.i in
    let keys = g.K.KeySet.keys c.args.keys.now in
    let stands = g.K.KeySet.stands_for c.args.keys.now in
    let walked = c.loop-i.invariant in
    let same = c.chars-chars.ensures.accepted.same in
    let kept = sym c.is_removed.ensures ∙ c.if-is_removed.false in
    let within : i < length s.points = omega (arith, ap length c.chars-chars.ensures.value) in
    let letter = read_at c.chars-chars.result.now s.points i c.index-chars-i.result c.chars-chars.ensures.value within c.index-chars-i.is in
    let key = code_points (take walked.count (left_at s c.args.place c.args.first)) in
    let next : stands c.in-Some.next (key ++ get_or s.points i 0 ∷ []) =
    subst (λ p. stands c.in-Some.next (key ++ p ∷ [])) letter (c.in-Some.ensures key walked.node_is).1 in
    let on = walked_on stands keys s c.args.place c.args.first i c.loop-i.node c.loop-i.best same within kept walked c.in-Some.next in
    let longer = key ++ get_or s.points i 0 ∷ [] in
    elim c.if-is_key.branch [
      | then-is_key w ↦
          let some : keys longer ≡ true = sym (c.is_key.ensures longer next) ∙ w.if-is_key.true in
          let now = longest_now stands keys s c.args.place c.args.first i c.loop-i.node c.loop-i.best same within kept walked c.in-Some.next
          next some in
          subst (λ best. IsWalked stands keys s c.args.place c.args.first (i + 1) c.in-Some.next best) (sym w.best-is)
          (on (Some (record { node = c.in-Some.next; after = i + 1 })) next now)
      | else-is_key w ↦
          let none : keys longer ≡ false = sym (c.is_key.ensures longer next) ∙ w.if-is_key.false in
          let before = longest_as_before stands keys s c.args.place c.args.first i c.loop-i.node c.loop-i.best same within kept walked none in
          subst (λ best. IsWalked stands keys s c.args.place c.args.first (i + 1) c.in-Some.next best) (sym w.best-is) (on c.loop-i.best next before)
    ]

pub returns : goal.returns
returns g c =
    let s = c.args.text.now in
    walked_through _ _ s c.args.place c.args.first c.loop-i.i c.loop-i.node c.loop-i.best c.chars-chars.ensures.accepted.same
    (omega (arith, ap length c.chars-chars.ensures.value)) c.loop-i.invariant

pub returns-then-not-may_go_on : goal.returns-then-not-may_go_on
returns-then-not-may_go_on g c =
    let s = c.args.text.now in
    let walked = c.loop-i.invariant in
    let key = code_points (take walked.count (left_at s c.args.place c.args.first)) in
    walked_to_leaf _ _ s c.args.place c.args.first c.loop-i.i c.loop-i.node c.loop-i.best walked
    (c.may_go_on.ensures key walked.node_is c.if-not-may_go_on.true)
