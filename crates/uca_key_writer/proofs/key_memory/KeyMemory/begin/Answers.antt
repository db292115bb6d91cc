-- The beginning is that of the text as it is, or by value.
use Rattle.std.proofs.Common.{◌≡◌, ℕ, List, refl, take, sym, ap, subst, ◌∙◌}
use Rattle.std.specs.Prelude.{IfOk}
use Rattle.std.specs.Bool.{OnTrue}
use Rattle.std.specs.Str.{chars}
use Rattle.uca_text.specs.Texts.{nfd_text}
use Rattle.uca_text.specs.Limits.{IsAccepted}
use Rattle.uca_elements.specs.Collations.{collation_of}
use Rattle.uca_order.specs.Depths.{written}
use Rattle.uca_plain.proofs.Results.{no_result}
use Rattle.uca_key_writer.specs.Memories.{settings_in}
use Rattle.uca_key_writer.proofs.ByValue.{key_stays, key_by_value, same_settings, written_is}
use Rattle.uca_key_writer.proofs.key_memory.KeyMemory.begin.Goals as goal

pub returns-then-is_read_as_it_is : goal.returns-then-is_read_as_it_is
returns-then-is_read_as_it_is g c =
    let by = collation_of g.L.Lookup.content c.args.collator.now in
    let xs = chars c.args.text.now in
    let old = c.args.self.now in
    let r = c.write_beginning.result in
    let key = c.write_beginning.new.self.key in
    let same : written old.numbers xs ≡ xs = c.if-is_read_as_it_is.ensures in
    record {
      known = c.write_beginning.ensures.entries;
      beginning = subst (λ (l : List ℕ). IfOk r (λ begun. OnTrue begun (take 16 key ≡ take 16 l))) (key_stays by (settings_in old) xs same)
          c.write_beginning.ensures.beginning;
      accepted = subst (λ (l : List ℕ). IfOk r (λ begun. OnTrue begun (IsAccepted (nfd_text by.properties l)))) (sym same) c.write_beginning.ensures.accepted;
      settings = same_settings old.buffer c.write_beginning.new.self old.numbers c.write_beginning.ensures.weighting c.write_beginning.ensures.depth;
    }

pub returns-in_err-renew-in-Weights : goal.returns-in_err-renew-in-Weights
returns-in_err-renew-in-Weights g c = record {
  known = c.requires;
  beginning = no_result c.from_residual.result _ c.from_residual.ensures.0;
  accepted = no_result c.from_residual.result _ c.from_residual.ensures.0;
  settings = refl;
}

pub returns-in_ok-renew-in-Weights : goal.returns-in_ok-renew-in-Weights
returns-in_ok-renew-in-Weights g c =
    let by = collation_of g.L.Lookup.content c.args.collator.now in
    let xs = chars c.args.text.now in
    let ys = chars c.as_str.result.now in
    let old = c.args.self.now in
    let r = c.write_beginning-in-Weights.result in
    let key = c.write_beginning-in-Weights.new.self.key in
    let numbers = c.if-is_read_as_it_is.ensures in
    let is = ap chars c.as_str.ensures ∙ c.in_ok-renew-in-Weights.ensures in
    let read : ys ≡ written old.numbers xs = written_is old.numbers xs ys numbers is in
    record {
      known = c.write_beginning-in-Weights.ensures.entries;
      beginning = subst (λ (l : List ℕ). IfOk r (λ begun. OnTrue begun (take 16 key ≡ take 16 l)))
          (key_by_value by (settings_in old) xs ys numbers (sym c.depth.ensures ∙ c.in-Weights.is) is) c.write_beginning-in-Weights.ensures.beginning;
      accepted = subst (λ (l : List ℕ). IfOk r (λ begun. OnTrue begun (IsAccepted (nfd_text by.properties l)))) read c.write_beginning-in-Weights.ensures.accepted;
      settings = same_settings old.buffer c.write_beginning-in-Weights.new.self old.numbers c.write_beginning-in-Weights.ensures.weighting
          c.write_beginning-in-Weights.ensures.depth;
    }
