use Rattle.std.proofs.Common.{◌≡◌, List, ℕ, [], ◌++◌, ◌-◌, sym, ap, subst, ◌∙◌, arith}
use Rattle.uca_compact.specs.Forms.{Form, IsForm}
use Rattle.uca_compact.specs.CompactKeys.{level_code}
use Rattle.uca_ranges.proofs.CompactLetters.{letters_form_fits}
use Rattle.uca_ranges.proofs.OneLevel.{form_is, without_end}
use Rattle.uca_ranges.proofs.compact.write_cells.Goals as goal

pub push_level-requires-clause-form : goal.push_level-requires-clause-form
push_level-requires-clause-form g c =
    subst IsForm (sym (form_is c.args.weighting c.args.book.now c.end_count.result c.letters.result.now c.end_count.ensures c.letters.ensures.value))
    (letters_form_fits c.args.weighting c.args.book.now c.letters.ensures.book)

pub returns : goal.returns
returns g c =
    let f : Form = record { common = 0; longest = 1; ends = c.end_count.result; lesser = []; greater = c.letters.result.now } in
    let out = c.push_level.new.out.items in
    let code : out ≡ level_code f 0 0 c.args.letters.now =
    c.in_ok-push_level.ensures ∙ ap (λ (xs : List ℕ). xs ++ level_code f 0 0 c.args.letters.now) c.clear.ensures.items in
    without_end c.args.weighting c.args.book.now f c.args.letters.now out c.pop.new.self.items (c.push_level.new.out.len - 1)
    (form_is c.args.weighting c.args.book.now c.end_count.result c.letters.result.now c.end_count.ensures c.letters.ensures.value)
    c.requires code (omega (arith, c.push_level.new.out.ok.0)) c.pop.ensures.rest
