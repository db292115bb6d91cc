-- The first sixteen bytes and the last sixteen are all.
use Rattle.std.proofs.Common.{false, true, ◌≡◌, ◌-◌, List, ℕ, length, refl, sym, subst, arith}
use Rattle.std.specs.Str.{IsUtf8}
use Rattle.std.specs.Simd.Lanes.{chunk}
use Rattle.std.proofs.lemmas.Simd.{length-chunk}
use Rattle.uca_lanes.specs.inside.Marks.{joined, marks_from}
use Rattle.uca_lanes.proofs.Ends.{ends_judged}
use Rattle.uca_lanes.proofs.MaskSteps.{none_joined}
use Rattle.uca_lanes.proofs.Narrow.{narrow_drop, narrow_marks, narrow_take}
use Rattle.uca_lanes.proofs.Whole.{ends}
use Rattle.uca_lanes.proofs.narrow_texts.is_narrow_text.Goals as goal

pub returns-then-len-le-SHORT : goal.returns-then-len-le-SHORT
returns-then-len-le-SHORT c =
    let judged = ends_judged c.args.bytes.now c.ends_of.result c.if-len-le-SHORT.true c.ends_of.ensures in
    (λ yes. judged.0 (c.is_narrow.ensures.0 yes), λ both. c.is_narrow.ensures.1 (judged.1 both))

pub returns-then-has_from : goal.returns-then-has_from
returns-then-has_from c =
    let bytes = c.args.bytes.now in
    let at = length bytes - 16 in (
      λ yes. (let wrong : false ≡ true = yes in absurd cc),
      λ both. absurd (c.has_from.ensures.some c.if-has_from.true (
        (narrow_marks (chunk 0 16 bytes)).1 (narrow_take 16 bytes both.1),
        (narrow_marks (chunk at 16 bytes)).1 (narrow_take 16 _ (narrow_drop at bytes both.1)),
      )),
    )

pub are_utf8_if_narrow-requires-clause-narrow : goal.are_utf8_if_narrow-requires-clause-narrow
are_utf8_if_narrow-requires-clause-narrow c =
    let bytes = c.args.bytes.now in
    let none = c.if-has_from.ensures in
    none_joined 0xe0 (chunk 0 16 bytes) (chunk (length bytes - 16) 16 bytes) (32 - length bytes) (length-chunk 0 16 bytes (omega (arith, c.if-len-le-SHORT.false)))
    (none.front refl) (none.back refl)

pub returns : goal.returns
returns c =
    let bytes = c.args.bytes.now in
    let some = c.if-len-le-SHORT.false in
    let front = chunk 0 16 bytes in
    let back = chunk (length bytes - 16) 16 bytes in
    let both = 32 - length bytes in
    let none = c.if-has_from.ensures in
    let narrow = none_joined 0xe0 front back both (length-chunk 0 16 bytes (omega (arith, some))) (none.front refl) (none.back refl) in
    let whole : joined front back both ≡ bytes = ends 16 bytes (omega (arith, some)) c.requires in
    let judged = c.are_utf8_if_narrow.ensures in (
      λ yes. (subst IsUtf8 whole (judged.0 yes), (narrow_marks bytes).0 (subst (λ (l : List ℕ). marks_from 0xe0 l ≡ 0) whole narrow)),
      λ it. judged.1 (subst IsUtf8 (sym whole) it.0),
    )
