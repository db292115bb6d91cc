-- The key is written by what the writer's state says.
use Rattle.std.proofs.Common.{◌<◌, ◌≡◌, ◌∙◌, ◌^◌, ◌⊎◌, length, ap, subst}
use Rattle.std.specs.Result.{OnOk, IfErr}
use Rattle.std.specs.Str.{chars}
use Rattle.uca_weights.specs.declared.Numbers.TheVariants.{AsText}
use Rattle.uca_values.specs.Content.{properties_of}
use Rattle.uca_text.specs.Limits.{IsAccepted}
use Rattle.uca_text.specs.Faults.{IsCause}
use Rattle.uca_order.specs.Depths.{written_text}
use Rattle.uca_order.specs.Lengths.{HasShortRows}
use Rattle.uca_key_writer.specs.Writers.{WriterState, collation_by}
use Rattle.uca_key_writer.proofs.WriterSteps.{key_by}
use Rattle.uca_key_writer.proofs.key_writer.KeyWriter.write.Goals as goal

pub returns : goal.returns
returns g c =
    let content = g.L.Lookup.content in
    let xs = chars c.args.text.now in
    let key = c.write.new.self.buffer.key in
    let r = c.write.result in
    record {
      key = subst (λ (w : WriterState _). OnOk r (key ≡ key_by content w xs)) c.self.view_is c.write.ensures.key;
      accepted = subst (λ (w : WriterState _). OnOk r (IsAccepted (written_text w.settings.numbers (properties_of w.data_file) xs))) c.self.view_is c.write.ensures.accepted;
      fault = subst (λ (w : WriterState _). IfErr r (IsCause (written_text w.settings.numbers (properties_of w.data_file) xs))) c.self.view_is c.write.ensures.fault;
      short = subst (λ (w : WriterState _). HasShortRows (content w.lookup) → (w.settings.numbers ≡ AsText) ⊎ (length c.args.text.now < 2 ^ 36) → OnOk r (length key < 2 ^ 40))
          c.self.view_is c.write.ensures.short;
      collation = ap (collation_by content) c.self.view_is;
      settings = c.write.ensures.settings ∙ ap (λ (w : WriterState _). w.settings) c.self.view_is;
    }
