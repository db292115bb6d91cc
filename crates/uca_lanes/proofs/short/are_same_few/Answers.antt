-- Bytes of one length are the same if they spell the same numbers.
use Rattle.std.proofs.Common.{◌≡◌, ◌-◌, ◌∙◌, List, ℕ, length, sym, ap, arith, eq-eqb, eqb-true}
use Rattle.std.specs.Simd.Lanes.{chunk, number_l}
use Rattle.std.proofs.lemmas.Bool.{cases_from_iff}
use Rattle.uca_lanes.proofs.ShortTexts.{same_eights, same_number}
use Rattle.uca_lanes.proofs.short.are_same_few.Goals as goal

pub returns-then-len-lt8 : goal.returns-then-len-lt8
returns-then-len-lt8 c =
    let left = c.args.left.now in
    let right = c.args.right.now in
    let one = c.number_of_few in
    let other = c.number_of_few-then-len-lt8 in
    cases_from_iff (
      λ yes. same_number 8 left right c.type_inv.left c.type_inv.right (omega (arith, c.if-len-lt8.true)) c.requires.long
          (sym one.ensures ∙ eqb-true one.result other.result yes ∙ other.ensures),
      λ same. eq-eqb one.result other.result (one.ensures ∙ ap (number_l 256) same ∙ sym other.ensures),
    )

pub returns-then-number_of_eight : goal.returns-then-number_of_eight
returns-then-number_of_eight c =
    let left = c.args.left.now in
    let right = c.args.right.now in
    let long = c.requires.long in
    let at = length left - 8 in
    let one = c.number_of_eight-then-number_of_eight in
    let other = c.number_of_eight-then-number_of_eight-2 in
    let first : number_l 256 (chunk 0 8 left) ≡ number_l 256 (chunk 0 8 right) =
    sym c.number_of_eight.ensures ∙ c.if-number_of_eight.true ∙ c.number_of_eight-2.ensures in
    cases_from_iff (
      λ yes. same_eights left right c.type_inv.left c.type_inv.right long (omega (arith, c.if-len-lt8.false)) c.requires.few first
          (sym one.ensures ∙ eqb-true one.result other.result yes ∙ other.ensures),
      λ same. eq-eqb one.result other.result (one.ensures ∙ ap (λ (bytes : List ℕ). number_l 256 (chunk at 8 bytes)) same ∙ sym other.ensures),
    )
