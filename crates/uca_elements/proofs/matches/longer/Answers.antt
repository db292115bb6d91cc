use Rattle.std.proofs.Common.{◌≡◌, false, ◌∷◌, [], ◌++◌, MatchOption, subst, sym, ◌∙◌}
use Rattle.uca_elements.specs.Matches.{IsFound}
use Rattle.uca_elements.proofs.Prefixes.{no_key_itself}
use Rattle.uca_elements.proofs.matches.longer.Goals as goal

pub returns-in_err-next : goal.returns-in_err-next
returns-in_err-next g c = λ key stands.
    let keys = g.K.KeySet.keys c.args.keys.now in
    let more = key ++ c.args.c ∷ [] in
    subst (λ r. MatchOption r (keys more ≡ false) (IsFound (g.K.KeySet.stands_for c.args.keys.now) keys more)) (sym c.from_residual.ensures)
    (no_key_itself keys more (c.in_err-next.ensures key stands))

pub returns-then-is_key : goal.returns-then-is_key
returns-then-is_key g c = λ key stands.
    let there = (c.in_ok-next.ensures key stands).1 in
    record { stands = there; is_key = sym (c.is_key.ensures (key ++ c.args.c ∷ []) there) ∙ c.if-is_key.true }

pub returns-else-is_key : goal.returns-else-is_key
returns-else-is_key g c = λ key stands. sym (c.is_key.ensures (key ++ c.args.c ∷ []) (c.in_ok-next.ensures key stands).1) ∙ c.if-is_key.false
