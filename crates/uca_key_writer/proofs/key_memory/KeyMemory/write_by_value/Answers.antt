-- The key is that of what was written. At an identical level the code points of the text itself come last.
use Rattle.std.proofs.Common.{◌≡◌, ◌<◌, ◌^◌, ℕ, List, length, refl, sym, ap, subst, ◌∙◌}
use Rattle.std.specs.Result.{OnOk, IfErr}
use Rattle.std.specs.Str.{chars}
use Rattle.uca_text.specs.Texts.{nfd_text}
use Rattle.uca_text.specs.Limits.{IsAccepted}
use Rattle.uca_text.specs.Faults.{IsCause}
use Rattle.uca_elements.specs.Collations.{collation_of}
use Rattle.uca_order.specs.Depths.{written, written_text}
use Rattle.uca_plain.proofs.Results.{no_result, fault_is}
use Rattle.uca_key_writer.specs.Memories.{settings_in}
use Rattle.uca_key_writer.proofs.WriterSteps.{memory_is_cause}
use Rattle.uca_key_writer.proofs.ByValue.{key_by_value, key_with_points, same_settings, with_points_short, few_points, written_is}
use Rattle.uca_key_writer.proofs.key_memory.KeyMemory.write_by_value.Goals as goal

-- ---- Memory ran out before anything is read

pub returns-in_err-renew : goal.returns-in_err-renew
returns-in_err-renew g c =
    let by = collation_of g.L.Lookup.content c.args.collator.now in
    let r = c.from_residual.result in
    record {
      known = c.requires.entries;
      key = no_result r _ c.from_residual.ensures.0;
      accepted = no_result r _ c.from_residual.ensures.0;
      fault = memory_is_cause (written_text c.args.self.now.numbers by.properties (chars c.args.text.now)) r c.from_residual.ensures.1;
      short = λ short few. no_result r _ c.from_residual.ensures.0;
      settings = refl;
    }

-- ---- Without an identical level

pub returns-in-Weights : goal.returns-in-Weights
returns-in-Weights g c =
    let by = collation_of g.L.Lookup.content c.args.collator.now in
    let old = c.args.self.now in
    let xs = chars c.args.text.now in
    let ys = chars c.as_str.result.now in
    let r = c.write_as_is.result in
    let key = c.write_as_is.new.self.key in
    let is = ap chars c.as_str.ensures ∙ c.in_ok-renew.ensures in
    let read : ys ≡ written old.numbers xs = written_is old.numbers xs ys c.requires.numbers is in
    record {
      known = c.write_as_is.ensures.entries;
      key = subst (λ (l : List ℕ). OnOk r (key ≡ l)) (key_by_value by (settings_in old) xs ys c.requires.numbers (sym c.depth.ensures ∙ c.in-Weights.is) is)
          c.write_as_is.ensures.key;
      accepted = subst (λ (l : List ℕ). OnOk r (IsAccepted (nfd_text by.properties l))) read c.write_as_is.ensures.accepted;
      fault = subst (λ (l : List ℕ). IfErr r (IsCause (nfd_text by.properties l))) read c.write_as_is.ensures.fault;
      short = λ short few. c.write_as_is.ensures.short short;
      settings = same_settings old.buffer c.write_as_is.new.self old.numbers c.write_as_is.ensures.weighting c.write_as_is.ensures.depth;
    }

-- ---- With one

pub returns-in_err-renew-in-Identical : goal.returns-in_err-renew-in-Identical
returns-in_err-renew-in-Identical g c =
    let by = collation_of g.L.Lookup.content c.args.collator.now in
    let old = c.args.self.now in
    let xs = chars c.args.text.now in
    let ys = chars c.as_str-in-Identical.result.now in
    let r = c.from_residual-in_err-renew-in-Identical.result in
    let is = ap chars c.as_str-in-Identical.ensures ∙ c.in_ok-renew.ensures in
    let read : ys ≡ written old.numbers xs = written_is old.numbers xs ys c.requires.numbers is in
    record {
      known = c.requires.entries;
      key = no_result r _ c.from_residual-in_err-renew-in-Identical.ensures.0;
      accepted = no_result r _ c.from_residual-in_err-renew-in-Identical.ensures.0;
      fault = fault_is (IsCause (written_text old.numbers by.properties xs)) r c.in_err-renew-in-Identical.field-0.0 c.from_residual-in_err-renew-in-Identical.ensures.1
          (subst (λ (l : List ℕ). IsCause (nfd_text by.properties l) c.in_err-renew-in-Identical.field-0.0) read c.in_err-renew-in-Identical.ensures.fault);
      short = λ short few. no_result r _ c.from_residual-in_err-renew-in-Identical.ensures.0;
      settings = refl;
    }

pub returns-in_ok-write_with-in-Identical : goal.returns-in_ok-write_with-in-Identical
returns-in_ok-write_with-in-Identical g c =
    let by = collation_of g.L.Lookup.content c.args.collator.now in
    let old = c.args.self.now in
    let xs = chars c.args.text.now in
    let ys = chars c.as_str-in-Identical.result.now in
    let text = c.renew-in-Identical.new.self in
    let points = c.deref.result.now in
    let is = ap chars c.as_str-in-Identical.ensures ∙ c.in_ok-renew.ensures in
    let read : ys ≡ written old.numbers xs = written_is old.numbers xs ys c.requires.numbers is in
    let points_are = c.deref.ensures.value ∙ c.in_ok-decompose-in-Identical.ensures in
    record {
      known = c.requires.entries;
      key = c.in_ok-write_with-in-Identical.ensures.key
          ∙ key_with_points by (settings_in old) xs ys points text c.requires.numbers is c.in_ok-renew-in-Identical.ensures.found points_are;
      accepted = subst IsAccepted (c.in_ok-renew-in-Identical.ensures.found ∙ ap (nfd_text by.properties) read) c.renew-in-Identical.ensures.accepted;
      fault = tt;
      short = λ short few. subst (λ (l : List ℕ). length l < 2 ^ 40) (sym c.in_ok-write_with-in-Identical.ensures.key)
          (with_points_short by old.buffer.depth old.buffer.weighting text points short c.renew-in-Identical.ensures.accepted
          (few_points c.args.text.now points c.utf8.text few points_are));
      settings = same_settings old.buffer c.write_with.new.self old.numbers c.write_with.ensures.weighting c.write_with.ensures.depth;
    }
