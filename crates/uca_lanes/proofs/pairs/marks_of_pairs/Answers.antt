use Rattle.std.proofs.Common.{List, ℕ, ◌-◌, ◌/◌, length, drop, min, max, subst, arith}
use Rattle.std.proofs.lemmas.List.{take_all, length-drop}
use Rattle.uca_lanes.specs.Pairs.{AreMarks}
use Rattle.uca_lanes.proofs.PairSteps.{first_marked, two_marked}
use Rattle.uca_lanes.proofs.pairs.marks_of_pairs.Goals as goal

pub returns-then-bytes-le32 : goal.returns-then-bytes-le32
returns-then-bytes-le32 c = first_marked c.args.bytes.now c.args.number c.marks_of_sixteen-first.result c.if-bytes-le32.true c.marks_of_sixteen-first.ensures.marks

pub returns : goal.returns
returns c =
    let bytes = c.args.bytes.now in
    let rest = take_all (length bytes - 32) (drop 32 bytes) (omega (arith, length-drop 32 bytes)) in
    two_marked bytes c.args.number c.marks_of_sixteen-first.result c.marks_of_sixteen.result c.if-bytes-le32.false c.marks_of_sixteen-first.ensures.marks
    (subst (λ (xs : List ℕ). AreMarks xs c.args.number (max 8 (min 32 (length xs) / 2)) c.marks_of_sixteen.result) rest c.marks_of_sixteen.ensures.marks)
