use Rattle.std.proofs.Common.{List, ℕ, [], ◌∷◌, ◌++◌, ap, ◌∙◌}
use Rattle.uca_weights.specs.declared.Weighting.TheVariants.{NonIgnorable}
use Rattle.uca_order.specs.Levels.{level_bytes}
use Rattle.uca_compact.proofs.KeySteps.{key_written, three_bytes}
use Rattle.uca_compact.proofs.expander.expand_three.Goals as goal

pub returns : goal.returns
returns g c =
    let read = c.read_three.new.levels in
    let a = read.letters.items in
    let b = read.accents.items in
    let d = read.cases.items in
    let start = c.args.key.now.items in
    let one = c.push_weights.new.key.items in
    let two = c.push_next.new.key.items in
    let three = c.push_next-2.new.key.items in
    key_written NonIgnorable c.args.depth c.args.book.now c.args.compact.now c.in_ok-last.field-0 c.in-Some.last (a ∷ b ∷ d ∷ []) three c.push_end.new.key.items c.in_ok-found.found
    c.in_ok-last.ensures c.in-Some.is
    (three_bytes start one two three a b d c.requires
    (c.in_ok-push_weights.ensures ∙ ap (λ (xs : List ℕ). start ++ level_bytes xs) c.as_slice.ensures.value)
    (c.in_ok-push_next.ensures ∙ ap (λ (xs : List ℕ). one ++ (0 ∷ 0 ∷ level_bytes xs)) c.as_slice-2.ensures.value)
    (c.in_ok-push_next-2.ensures ∙ ap (λ (xs : List ℕ). two ++ (0 ∷ 0 ∷ level_bytes xs)) c.as_slice-3.ensures.value))
    c.in_ok-found.ensures
