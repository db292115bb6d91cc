use Rattle.std.proofs.Common.{List, ℕ, ◌++◌, take, ap, ap₂, sym, ◌∙◌, arith}
use Rattle.std.proofs.lemmas.List.{length-take-le}
use Rattle.uca_compact.specs.CompactKeys.{cell}
use Rattle.uca_compact.specs.Forms.{first_cell}
use Rattle.uca_compact.proofs.letters.put_found.Goals as goal

pub returns-clause-true_entries : goal.returns-clause-true_entries
returns-clause-true_entries c f number starts all =
    let front = take c.args.at c.args.codes.now in
    let room = c.requires.room in
    c.keep.ensures f front all (length-take-le c.args.at c.args.codes.now (omega (arith, room)))
    (c.put_in_cell-next.ensures.put
    ∙ ap₂ (λ (n : ℕ) (xs : List ℕ). front ++ cell n 1 xs 65536 c.from-letter.result) (sym number) (sym starts)
    ∙ ap (λ (w : ℕ). front ++ cell (first_cell f) 1 f.greater 65536 w) c.from-letter.ensures)
