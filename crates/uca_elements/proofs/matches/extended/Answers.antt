use Rattle.std.proofs.Common.{◌≡◌, ◌<◌, ◌≤◌, ◌∷◌, [], ◌++◌, true, nat_lt, get_or, sym, ap, subst, ◌∙◌, arith, ⊎_elim}
use Rattle.std.proofs.lemmas.Bool.{cases_Bool}
use Rattle.std.proofs.lemmas.Bool.Decides.{nat_tests}
use Rattle.uca_text.specs.Texts.{code_points}
use Rattle.uca_elements.specs.Places.{is_gone}
use Rattle.uca_elements.specs.Matches.{IsFound}
use Rattle.uca_elements.proofs.PlaceLemmas.{classed_at}
use Rattle.uca_elements.proofs.ExtensionSteps.{going_gone, going_skipped, going_taken, lt_covers, lt_covered, blocked, no_key, read_at}
use Rattle.uca_elements.proofs.matches.extended.Goals as goal
use Rattle.uca_elements.proofs.matches.extended.Goals.{then-class-so_far-via-then-class-so_far, then-class-so_far-via-else-class-so_far+then-is_removed}

pub returns-then-class-so_far-clause-matched : goal.returns-then-class-so_far-clause-matched
returns-then-class-so_far-clause-matched g c = λ place front after going.
    let s = c.args.text.now in
    let i = c.args.i in
    let so_far = c.args.so_far in
    let same = c.classes.ensures.accepted.same in
    elim c.then-class-so_far.branch [
      | then-class-so_far-via-then-class-so_far w ↦
          let low : get_or s.classes i 0 ≤ so_far.highest = omega (arith, ap (λ xs. get_or xs i 0) c.classes.ensures.value) in
          ⊎_elim
          (λ gone. going_gone _ _ s place front i same c.requires.within so_far after gone going)
          (λ kept. going_skipped _ _ s place front i same c.requires.within so_far.node so_far.next so_far.highest so_far.highest after
          c.requires.non_starter kept (λ key stands. blocked so_far.highest (get_or s.classes i 0) _ low)
          (λ class. lt_covers so_far.highest (get_or s.classes i 0) class low) going)
          (cases_Bool (is_gone so_far.next i))
      | then-class-so_far-via-else-class-so_far+then-is_removed w ↦
          going_gone _ _ s place front i same c.requires.within so_far after (sym w.is_removed.ensures ∙ w.if-is_removed.true) going
    ]

pub returns-in-Some-clause-matched : goal.returns-in-Some-clause-matched
returns-in-Some-clause-matched g c = λ place front after going.
    let s = c.args.text.now in
    let i = c.args.i in
    let so_far = c.args.so_far in
    let high : so_far.highest < get_or s.classes i 0 = omega (arith, ap (λ xs. get_or xs i 0) c.classes.ensures.value) in
    let free : nat_lt so_far.highest (get_or s.classes i 0) ≡ true = grind (arith, nat_tests) in
    let letter = read_at c.chars.result.now s.points i c.index-chars-i.result c.chars.ensures.value c.requires.within c.index-chars-i.is in
    going_taken _ _ s place front i c.classes.ensures.accepted.same c.requires.within so_far.node so_far.next c.with_removed.result
    so_far.highest c.in-Some.taken after c.requires.non_starter (sym c.is_removed.ensures ∙ c.if-is_removed.false) free
    (λ key stands. subst (λ p. IsFound (g.K.KeySet.stands_for c.args.keys.now) (g.K.KeySet.keys c.args.keys.now) (key ++ p ∷ [])
    c.in-Some.taken) letter (c.in-Some.ensures key stands)) c.with_removed.ensures.here c.with_removed.ensures.elsewhere going

pub returns-in-None-clause-matched : goal.returns-in-None-clause-matched
returns-in-None-clause-matched g c = λ place front after going.
    let s = c.args.text.now in
    let i = c.args.i in
    let so_far = c.args.so_far in
    let class = ap (λ xs. get_or xs i 0) c.classes.ensures.value in
    let high : so_far.highest < get_or s.classes i 0 = omega (arith, class) in
    let letter = read_at c.chars.result.now s.points i c.index-chars-i.result c.chars.ensures.value c.requires.within c.index-chars-i.is in
    let keys = g.K.KeySet.keys c.args.keys.now in
    going_skipped _ _ s place front i c.classes.ensures.accepted.same c.requires.within so_far.node so_far.next so_far.highest
    (get_or c.classes.result.now i 0) after c.requires.non_starter (sym c.is_removed.ensures ∙ c.if-is_removed.false)
    (λ key stands. no_key keys key (classed_at s i) (nat_lt so_far.highest (get_or s.classes i 0))
    (ap (λ p. keys (code_points key ++ p ∷ [])) (sym letter) ∙ c.in-None.ensures (code_points key) stands))
    (λ n. lt_covered so_far.highest (get_or s.classes i 0) n high ∙ ap (λ k. nat_lt k n) (sym class)) going
