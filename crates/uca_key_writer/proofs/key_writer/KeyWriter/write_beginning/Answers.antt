-- The beginning is written by what the writer's state says.
use Rattle.std.proofs.Common.{◌≡◌, ◌∙◌, take, ap, subst}
use Rattle.std.specs.Result.{OnOk, IfErr}
use Rattle.std.specs.Str.{chars}
use Rattle.uca_values.specs.Content.{properties_of}
use Rattle.uca_text.specs.Limits.{IsAccepted}
use Rattle.uca_text.specs.Faults.{IsCause}
use Rattle.uca_order.specs.Depths.{written_text}
use Rattle.uca_key_writer.specs.Writers.{WriterState, collation_by}
use Rattle.uca_key_writer.proofs.WriterSteps.{key_by}
use Rattle.uca_key_writer.proofs.key_writer.KeyWriter.write_beginning.Goals as goal

pub returns : goal.returns
returns g c =
    let content = g.L.Lookup.content in
    let xs = chars c.args.text.now in
    let key = c.write_beginning.new.self.buffer.key in
    let r = c.write_beginning.result in
    record {
      beginning = subst (λ (w : WriterState _). OnOk r (take 16 key ≡ take 16 (key_by content w xs))) c.self.view_is c.write_beginning.ensures.beginning;
      accepted = subst (λ (w : WriterState _). OnOk r (IsAccepted (written_text w.settings.numbers (properties_of w.data_file) xs))) c.self.view_is
          c.write_beginning.ensures.accepted;
      fault = subst (λ (w : WriterState _). IfErr r (IsCause (written_text w.settings.numbers (properties_of w.data_file) xs))) c.self.view_is c.write_beginning.ensures.fault;
      collation = ap (collation_by content) c.self.view_is;
      settings = c.write_beginning.ensures.settings ∙ ap (λ (w : WriterState _). w.settings) c.self.view_is;
    }
