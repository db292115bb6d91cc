use Rattle.std.proofs.Common.{◌≡◌, ℕ, List, suc, ◌+◌, ◌*◌, ◌-◌, ◌∷◌, [], ◌++◌, take, ap, sym, ⊎_elim, ◌∙◌, arith}
use Rattle.std.proofs.lemmas.List.{take_more_set}
use Rattle.uca_compact.specs.Forms.{AreRising, first_cell}
use Rattle.uca_compact.specs.Programs.{form_of}
use Rattle.uca_compact.specs.inside.Places.{start_at}
use Rattle.uca_compact.proofs.Places.{single_cell}
use Rattle.uca_compact.proofs.levels.put_greater.Goals as goal

pub returns-then-from-weight-clause-put : goal.returns-then-from-weight-clause-put
returns-then-from-weight-clause-put c =
    let f = form_of c.args.form.now in
    let room = c.requires.room in
    let front = take c.args.at c.args.codes.now in
    let common = c.from-start.ensures in
    let longest = c.from-longest.ensures in
    let ends = c.from.ensures in
    let least = c.requires.greater in
    let most = c.requires.two_bytes in
    let index = c.args.weight - (c.from-start.result + 1) in
    let start : c.from-start.result + 1 ≡ suc c.args.form.now.common = omega (arith, common) in
    let number : c.from-longest.result * (c.from.result + 1) + c.from-longest.result ≡ first_cell f =
    ap (λ (n : ℕ). c.from-longest.result * n + c.from-longest.result) (let e : c.from.result + 1 ≡ suc c.args.form.now.ends = omega (arith, ends) in e)
    ∙ ap (λ (n : ℕ). n * suc c.args.form.now.ends + n) longest in
    let rising : AreRising (suc c.args.form.now.common) c.args.form.now.greater.now 65536 =
    ⊎_elim (λ few. absurd (let le = few.0 in omega (arith, le, least, most))) (λ rise. rise) c.requires.form.greater in
    take_more_set c.args.codes.now c.args.at _ (omega (arith, room))
    ∙ ap (λ (n : ℕ). front ++ (n + index) ∷ []) number
    ∙ ap (λ (xs : List ℕ). front ++ xs)
    (single_cell (first_cell f) (suc c.args.form.now.common) c.args.form.now.greater.now 65536 c.args.weight index rising c.if-index-form.true
    (ap (λ (n : ℕ). start_at n c.args.form.now.greater.now index) (sym start) ∙ sym c.cell_start.ensures.is ∙ c.if-cell_start-weight.true)
    (sym c.from-then-cell_start-weight.ensures ∙ c.if-from-weight.true))
