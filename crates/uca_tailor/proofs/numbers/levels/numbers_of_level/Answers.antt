-- The numbers below the weight that stays, and those above it.
use Rattle.std.proofs.Common.{◌≡◌, ℕ, ◌∷◌, ◌++◌, [], List, true, ap, ap₂, ◌∙◌, append_assoc, arith}
use Rattle.std.proofs.lemmas.Bool.Decides.{nat_tests}
use Rattle.uca_weights.specs.declared.Level.{Level}
use Rattle.uca_plans.specs.declared.drafts.DraftWeight.{DraftWeight}
use Rattle.uca_plans.specs.Lists.{level_has_room, low_segment, low_members, high_segment, high_members}
use Rattle.uca_plans.specs.Numbering.{HasPlaces, numbers_of}
use Rattle.uca_tailor.proofs.numbers.levels.numbers_of_level.Goals as goal

-- A level with room has places in both segments.
rooms : (level : Level) (members : List DraftWeight) → level_has_room level members ≡ true
    → HasPlaces (low_segment level) (low_members level members) × HasPlaces (high_segment level) (high_members level members)
rooms level members room = grind (arith, nat_tests)

-- The numbers below, the weight and the numbers above.
joined : (whole so_far low below high above : List ℕ) (w fixed : ℕ) → whole ≡ so_far ++ high → so_far ≡ low ++ w ∷ [] → low ≡ below → w ≡ fixed → high ≡ above
    → whole ≡ below ++ fixed ∷ above
joined whole so_far low below high above w fixed all front is_below is_fixed is_above =
    all ∙ ap (λ l. l ++ high) front ∙ append_assoc low (w ∷ []) high ∙ ap (λ l. l ++ w ∷ high) is_below ∙ ap (λ n. below ++ n ∷ high) is_fixed
    ∙ ap (λ l. below ++ fixed ∷ l) is_above

pub numbers-requires : goal.numbers-requires
numbers-requires g c = rw (c.low_segment.ensures, c.low_members.ensures) (rooms c.args.level c.args.members.now c.requires).0

pub numbers-requires-2 : goal.numbers-requires-2
numbers-requires-2 g c = rw (c.high_segment.ensures, c.high_members.ensures) (rooms c.args.level c.args.members.now c.requires).1

pub returns : goal.returns
returns g c =
    joined c.append.new.self.items c.push.new.self.items c.in_ok-all.all.items _ c.in_ok-high.high.items _ c.fixed_weight.result _
    c.in_ok-append.ensures.items c.in_ok-push.ensures.items (c.in_ok-all.ensures ∙ ap₂ numbers_of c.low_segment.ensures c.low_members.ensures) c.fixed_weight.ensures
    (c.in_ok-high.ensures ∙ ap₂ numbers_of c.high_segment.ensures c.high_members.ensures)
