-- No weight yet, one more by an entry or by its cell, and the end of the level.
use Rattle.std.proofs.Common.{ℕ, List, ◌+◌, ◌%◌, ◌<◌, ◌++◌, take, length, not, ◌&&◌, ap, sym, subst, ◌∙◌, refl, arith}
use Rattle.uca_compact.specs.Programs.{form_of}
use Rattle.uca_compact.specs.PlainLevels.{is_lead}
use Rattle.uca_compact.specs.CompactKeys.{cell}
use Rattle.uca_compact.specs.Forms.{first_cell}
use Rattle.uca_compact.specs.inside.Places.{AreTrueEntries}
use Rattle.uca_compact.proofs.Places.{true_entry}
use Rattle.uca_compact.proofs.LevelsPut.{weight_read, none_put, letter_put, known_put, put_as, letters_put, letters_counted, two_left, some_there}
use Rattle.uca_compact.proofs.letters.put_letters.Goals as goal
use Rattle.uca_compact.proofs.letters.put_letters.Goals.{then-entry-weight+then-not-after_lead, else-entry-weight}

pub loop-at-init : goal.loop-at-init
loop-at-init c = record {
  put = none_put (form_of c.args.form.now) c.args.level.now;
  size = omega arith;
  codes = refl;
  entries = c.requires.entries;
  true_entries = c.requires.true_entries;
  hints = c.requires.hints;
}

pub put_entry-size-requires-clause-len : goal.put_entry-size-requires-clause-len
put_entry-size-requires-clause-len c =
    let here = true_entry (form_of c.args.form.now) c.loop-at.entries (c.from.result % 2048) _ c.loop-at.invariant.true_entries (omega (arith, c.loop-at.invariant.entries)) in
    here.few

pub put_found-size-requires-clause-weight : goal.put_found-size-requires-clause-weight
put_found-size-requires-clause-weight c =
    let before = c.loop-at.invariant.put.before in
    let within = two_left c.args.level.now c.loop-at.invariant.put.weights c.loop-at.at c.requires.level before c.loop-at-test.true in
    subst (λ (n : ℕ). 0 < n) (sym (weight_read c.args.level.now c.loop-at.at _ c.from_be_bytes-weight.ensures))
    (some_there c.args.level.now c.loop-at.invariant.put.weights c.loop-at.at c.requires.level before within)

pub loop-at-preserved : goal.loop-at-preserved
loop-at-preserved c =
    let f = form_of c.args.form.now in
    let level = c.args.level.now in
    let i = c.loop-at.invariant in
    let at = c.loop-at.at in
    let so_far = i.put in
    let v = c.from_be_bytes-weight.result in
    let is = weight_read level at v c.from_be_bytes-weight.ensures in
    let within = two_left level so_far.weights at c.requires.level so_far.before c.loop-at-test.true in
    let some = subst (λ (n : ℕ). 0 < n) (sym is) (some_there level so_far.weights at c.requires.level so_far.before within) in
    let out = take c.loop-at.size c.loop-at.codes in
    let size = i.size in
    elim c.if-entry-weight.branch [
      | then-entry-weight+then-not-after_lead w ↦
          let here = true_entry f c.loop-at.entries (c.from.result % 2048) _ i.true_entries (omega (arith, i.entries)) in
          let same = w.if-entry-weight.true in
          let few = w.put_entry-size.ensures.few in
          let size_is = w.size-is in
          record {
            put = put_as f level w.put_entry-size.new.codes _ w.put_entry-size.result _ (at + 2) (c.loop-at.count + 1) _ c.loop-at.after_lead _ w.codes-is w.size-is w.count-is w.after_lead-is
                (known_put f level out (take w.put_entry-size.result w.put_entry-size.new.codes) at c.loop-at.count v c.loop-at.after_lead w.if-not-after_lead.true c.requires.no_common so_far
                within is some (let low = here.no_lead in omega (arith, low, same))
                (w.put_entry-size.ensures.put ∙ ap (λ (xs : List ℕ). out ++ xs) (sym (here.code (omega (arith, some, same))) ∙ ap (λ (n : ℕ). cell (first_cell f) 1 f.greater 65536 n) same)));
            size = omega (arith, size, few, size_is);
            codes = ap length w.codes-is ∙ w.put_entry-size.auto.codes ∙ i.codes;
            entries = ap length w.entries-is ∙ i.entries;
            true_entries = subst (AreTrueEntries f) (sym w.entries-is) i.true_entries;
            hints = ap length w.hints-is ∙ i.hints;
          }
      | else-entry-weight w ↦
          let few = w.put_found-size.ensures.few in
          let size_is = w.size-is in
          record {
            put = put_as f level w.put_found-size.new.codes _ w.put_found-size.result _ (at + 2) w.with_letter-count.result _ (not c.loop-at.after_lead && is_lead v) _ w.codes-is w.size-is w.count-is
                (w.after_lead-is ∙ w.leads-after_lead.ensures)
                (letter_put f level out (take w.put_found-size.result w.put_found-size.new.codes) at c.loop-at.count w.with_letter-count.result v c.loop-at.after_lead c.requires.no_common so_far
                within is some
                (w.put_found-size.ensures.put ∙ ap (λ (n : ℕ). out ++ cell n 1 c.args.form.now.greater.now 65536 v) c.first_cell-number.ensures.is)
                w.with_letter-count.ensures);
            size = omega (arith, size, few, size_is);
            codes = ap length w.codes-is ∙ w.put_found-size.auto.codes ∙ i.codes;
            entries = ap length w.entries-is ∙ w.put_found-size.auto.entries ∙ i.entries;
            true_entries = subst (AreTrueEntries f) (sym w.entries-is)
                (w.put_found-size.ensures.true_entries f (sym c.first_cell-number.ensures.is) refl i.true_entries);
            hints = ap length w.hints-is ∙ w.put_found-size.auto.hints ∙ i.hints;
          }
    ]

pub returns-clause-put : goal.returns-clause-put
returns-clause-put c =
    letters_put (form_of c.args.form.now) c.args.level.now _ c.loop-at.at c.loop-at.count c.loop-at.after_lead c.loop-at.invariant.put (omega (arith, c.loop-at-test.false))

pub returns-clause-count : goal.returns-clause-count
returns-clause-count c =
    letters_counted (form_of c.args.form.now) c.args.level.now _ c.loop-at.at c.loop-at.count c.loop-at.after_lead c.loop-at.invariant.put (omega (arith, c.loop-at-test.false))

pub returns-clause-few : goal.returns-clause-few
returns-clause-few c =
    let so_far = c.loop-at.invariant.put in
    let few = so_far.few in
    let size = so_far.before.size in
    let within = so_far.before.within in
    omega (arith, few, size, within)
