-- The beginning is known, or the whole key is written.
use Rattle.std.proofs.Common.{◌≡◌, ◌∙◌, take, ap, subst}
use Rattle.std.specs.Result.{OnOk, IfErr}
use Rattle.std.specs.Str.{chars}
use Rattle.uca_weights.specs.declared.Numbers.{Numbers}
use Rattle.uca_weights.specs.declared.Settings.{Settings}
use Rattle.uca_text.specs.Limits.{IsAccepted}
use Rattle.uca_text.specs.Faults.{IsCause}
use Rattle.uca_elements.specs.Collations.{collation_of}
use Rattle.uca_order.specs.Depths.{text_key, written_text}
use Rattle.uca_key_writer.specs.Memories.{settings_in}
use Rattle.uca_key_writer.proofs.WriterSteps.{by_flag, beginning_of_whole}
use Rattle.uca_key_writer.proofs.key_memory.KeyMemory.write_beginning.Goals as goal

pub returns-in-Ok-true : goal.returns-in-Ok-true
returns-in-Ok-true g c =
    let by = collation_of g.L.Lookup.content c.args.collator.now in
    let xs = chars c.args.text.now in
    let old = c.args.self.now in
    let begun = c.in-Ok-true.field-0 in
    let is = c.in-Ok-true.field-0-test in
    record {
      known = c.begin.ensures.known;
      beginning = by_flag begun (take 16 c.begin.new.self.buffer.key ≡ take 16 (text_key by (settings_in old) xs)) is c.in-Ok-true.ensures.beginning;
      accepted = by_flag begun (IsAccepted (written_text old.numbers by.properties xs)) is c.in-Ok-true.ensures.accepted;
      fault = tt;
      settings = c.begin.ensures.settings;
    }

pub returns-in-Ok-false : goal.returns-in-Ok-false
returns-in-Ok-false g c =
    let by = collation_of g.L.Lookup.content c.args.collator.now in
    let xs = chars c.args.text.now in
    let r = c.write.result in
    let same = ap (λ (s : Settings). s.numbers) c.begin.ensures.settings in
    record {
      known = c.write.ensures.known;
      beginning = beginning_of_whole by _ _ xs _ r c.begin.ensures.settings c.write.ensures.key;
      accepted = subst (λ (n : Numbers). OnOk r (IsAccepted (written_text n by.properties xs))) same c.write.ensures.accepted;
      fault = subst (λ (n : Numbers). IfErr r (IsCause (written_text n by.properties xs))) same c.write.ensures.fault;
      settings = c.write.ensures.settings ∙ c.begin.ensures.settings;
    }
