-- The code points at the end of the key are those of the text.
use Rattle.std.proofs.Common.{◌≡◌, ℕ, List, subst}
use Rattle.std.specs.Result.{OnOk}
use Rattle.uca_elements.specs.Collations.{collation_of, elements_of}
use Rattle.uca_order.specs.Depths.{key_at}
use Rattle.uca_order.proofs.KeyLength.{keys_short}
use Rattle.uca_key_writer.proofs.ByValue.{as_short}
use Rattle.uca_key_writer.proofs.key_buffer.KeyBuffer.write_text.Goals as goal

pub returns : goal.returns
returns g c =
    let by = collation_of g.L.Lookup.content c.args.collator.now in
    let state = c.args.self.now in
    let text = c.args.text.now in
    let r = c.write_with.result in
    let key = c.write_with.new.self.key in
    let is = subst (λ (l : List ℕ). OnOk r (key ≡ key_at state.depth state.weighting (record { elements = elements_of by text; points = l }))) c.chars.ensures.value
    c.write_with.ensures.key in
    record {
      key = is;
      short = λ short. as_short r key _ (keys_short by state.depth state.weighting text short c.chars.ensures.accepted) is;
      weighting = c.write_with.ensures.weighting;
      depth = c.write_with.ensures.depth;
    }
