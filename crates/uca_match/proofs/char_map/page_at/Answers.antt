-- One more page after the others is full of 0. Where memory fails there are the same pages.
use Rattle.std.proofs.Common.{ℕ, List, ap, subst, sym, arith}
use Rattle.std.proofs.lemmas.Grind.{common_steps}
use Rattle.uca_match.specs.CharMaps.{number_in, ArePages}
use Rattle.uca_match.proofs.char_map.page_at.Goals as goal

pub overflow_cast-page : goal.overflow_cast-page
overflow_cast-page g c = grind (arith, common_steps)

pub returns-in-Ok-clause-pages : goal.returns-in-Ok-clause-pages
returns-in-Ok-clause-pages g c = grind (arith, common_steps)

pub returns-in-Ok-clause-page : goal.returns-in-Ok-clause-page
returns-in-Ok-clause-page g c = grind (arith, common_steps)

pub returns-in-Ok-clause-same : goal.returns-in-Ok-clause-same
returns-in-Ok-clause-same g c = λ point. grind (arith, common_steps)

pub returns-in-Err-clause-pages : goal.returns-in-Err-clause-pages
returns-in-Err-clause-pages g c = subst (λ (numbers : List ℕ). ArePages c.args.pages.now.items numbers) (sym c.in-Err.ensures.items) c.requires.pages

pub returns-in-Err-clause-same : goal.returns-in-Err-clause-same
returns-in-Err-clause-same g c = λ point. ap (λ (numbers : List ℕ). number_in c.args.pages.now.items numbers point) c.in-Err.ensures.items
