-- The key is that of the weighting.
use Rattle.std.proofs.Common.{IfOk, sym, subst, arith}
use Rattle.std.specs.Bool.{MatchBool}
use Rattle.uca_weights.specs.declared.Weighting.{Weighting}
use Rattle.uca_weights.specs.declared.Weighting.TheVariants.{NonIgnorable, Shifted}
use Rattle.uca_compact.specs.StoredParts.{IsCompactOf, IsOfNoKey}
use Rattle.uca_compact.proofs.ExpandedKeys.{bytes_are, promised_if_ok}
use Rattle.uca_compact.proofs.expander.expand.Goals as goal

pub returns-in-NonIgnorable : goal.returns-in-NonIgnorable
returns-in-NonIgnorable g c =
    let compact = c.args.compact.now in
    let key = c.expand_three.new.key.items in
    subst (λ (w : Weighting). IfOk c.expand_three.result (λ found. MatchBool found
    (IsCompactOf c.args.settings.depth w c.args.book.now key compact) (IsOfNoKey c.args.settings.depth w c.args.book.now compact))) (sym c.in-NonIgnorable.is)
    (promised_if_ok c.expand_three.result c.args.settings.depth NonIgnorable c.args.book.now compact key
    (bytes_are compact (λ k low. let fits = c.type_inv.compact k in omega (arith, fits))) c.expand_three.ensures)

pub returns-in-Shifted : goal.returns-in-Shifted
returns-in-Shifted g c =
    let compact = c.args.compact.now in
    let key = c.expand_four.new.key.items in
    subst (λ (w : Weighting). IfOk c.expand_four.result (λ found. MatchBool found
    (IsCompactOf c.args.settings.depth w c.args.book.now key compact) (IsOfNoKey c.args.settings.depth w c.args.book.now compact))) (sym c.in-Shifted.is)
    (promised_if_ok c.expand_four.result c.args.settings.depth Shifted c.args.book.now compact key
    (bytes_are compact (λ k low. let fits = c.type_inv.compact k in omega (arith, fits))) c.expand_four.ensures)
