use Rattle.std.proofs.Common.{◌≡◌, ◌∙◌, ◌&&◌, ◌==◌, false, sym, refl, length, arith}
use Rattle.std.proofs.lemmas.List.{take_all}
use Rattle.std.proofs.lemmas.Bool.{ne_eqb}
use Rattle.uca_rules.specs.Characters.{hyphen}
use Rattle.uca_rules.proofs.TextSteps.{quoted_piece, escaped_piece, plain_piece, hyphen_piece, no_piece}
use Rattle.uca_rules.proofs.pieces.take_piece.Goals as goal
use Rattle.uca_rules.proofs.pieces.take_piece.Goals.{else-starred-via-then-starred+else-first-eq45, else-starred-via-else-starred}

pub returns-then-first-eq39 : goal.returns-then-first-eq39
returns-then-first-eq39 g c =
    rw (quoted_piece c.args.starred c.args.characters.now c.in-Some.first.now _ c.in-Some.ensures.cases.0 c.if-first-eq39.true) c.after_apostrophe.ensures

pub returns-then-first-eq92 : goal.returns-then-first-eq92
returns-then-first-eq92 g c =
    rw (escaped_piece c.args.starred c.args.characters.now c.in-Some.first.now _ c.in-Some.ensures.cases.0 c.if-first-eq92.true) c.after_backslash.ensures

pub returns-then-is_plain : goal.returns-then-is_plain
returns-then-is_plain g c =
    rw (plain_piece c.args.starred c.args.characters.now c.in-Some.first.now _ c.in-Some.ensures.cases.0 c.if-first-eq39.false c.if-first-eq92.false (sym c.is_plain.ensures ∙ c.if-is_plain.true)) c.push_symbol.ensures

pub returns-then-first-eq45 : goal.returns-then-first-eq45
returns-then-first-eq45 g c =
    rw (hyphen_piece c.args.starred c.args.characters.now c.in-Some.first.now _ c.in-Some.ensures.cases.0 c.if-starred.true c.if-first-eq45.true) c.push_symbol-then-first-eq45.ensures

pub returns : goal.returns
returns g c =
    let first = c.in-Some.first.now in
    let other : (c.args.starred && first.code == hyphen) ≡ false =
    elim c.else-starred.branch [
      | else-starred-via-then-starred+else-first-eq45 w ↦ rw (w.if-starred.true, ne_eqb first.code hyphen w.if-first-eq45.false) refl
      | else-starred-via-else-starred w ↦ rw w.if-starred.false refl
    ] in (
      no_piece c.args.starred c.args.characters.now first _ c.in-Some.ensures.cases.0 c.if-first-eq39.false c.if-first-eq92.false (sym c.is_plain.ensures ∙ c.if-is_plain.false) other,
      take_all (length c.args.symbols.now.items) c.args.symbols.now.items (omega arith),
    )
