-- The key is that of the text as it is, or by value.
use Rattle.std.proofs.Common.{◌≡◌, ℕ, List, sym, subst}
use Rattle.std.specs.Result.{OnOk, IfErr}
use Rattle.std.specs.Str.{chars}
use Rattle.uca_text.specs.Texts.{nfd_text}
use Rattle.uca_text.specs.Limits.{IsAccepted}
use Rattle.uca_text.specs.Faults.{IsCause}
use Rattle.uca_elements.specs.Collations.{collation_of}
use Rattle.uca_order.specs.Depths.{written}
use Rattle.uca_key_writer.specs.Memories.{settings_in}
use Rattle.uca_key_writer.proofs.ByValue.{key_stays, same_settings, short_by_value}
use Rattle.uca_key_writer.proofs.key_memory.KeyMemory.write.Goals as goal

pub returns-then-is_read_as_it_is : goal.returns-then-is_read_as_it_is
returns-then-is_read_as_it_is g c =
    let by = collation_of g.L.Lookup.content c.args.collator.now in
    let xs = chars c.args.text.now in
    let old = c.args.self.now in
    let r = c.write_as_is.result in
    let key = c.write_as_is.new.self.key in
    let same : written old.numbers xs ≡ xs = c.if-is_read_as_it_is.ensures in
    record {
      known = c.write_as_is.ensures.entries;
      key = subst (λ (l : List ℕ). OnOk r (key ≡ l)) (key_stays by (settings_in old) xs same) c.write_as_is.ensures.key;
      accepted = subst (λ (l : List ℕ). OnOk r (IsAccepted (nfd_text by.properties l))) (sym same) c.write_as_is.ensures.accepted;
      fault = subst (λ (l : List ℕ). IfErr r (IsCause (nfd_text by.properties l))) (sym same) c.write_as_is.ensures.fault;
      short = λ short any. c.write_as_is.ensures.short short;
      settings = same_settings old.buffer c.write_as_is.new.self old.numbers c.write_as_is.ensures.weighting c.write_as_is.ensures.depth;
    }

pub returns : goal.returns
returns g c = record {
  known = c.write_by_value.ensures.known;
  key = c.write_by_value.ensures.key;
  accepted = c.write_by_value.ensures.accepted;
  fault = c.write_by_value.ensures.fault;
  short = λ short any. c.write_by_value.ensures.short short (short_by_value c.args.self.now.numbers c.args.text.now c.if-is_read_as_it_is.ensures any);
  settings = c.write_by_value.ensures.settings;
}
