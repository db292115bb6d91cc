use Rattle.std.proofs.Common.{vec_len, ◌∙◌, arith}
use Rattle.std.proofs.lemmas.List.{with_items_is}
use Rattle.uca_compact.proofs.KeyBytes.{weights_added}
use Rattle.uca_compact.proofs.stored_bytes.push_weights.Goals as goal

pub returns : goal.returns
returns g c =
    let key = c.args.key.now in
    with_items_is c.resize.new.self c.put_weights.new.bytes (c.put_weights.auto.bytes ∙ c.as_mut_slice.ensures.len)
    ∙ weights_added key.items c.resize.new.self.items c.as_mut_slice.result.now c.put_weights.new.bytes c.args.weights.now c.len-start.result (vec_len key) _
    key.ok.0 c.len-start.ensures (omega arith) c.in_ok-resize.ensures.items c.as_mut_slice.ensures.value c.put_weights.ensures
