use Rattle.uca_table.proofs.KeyBits.{has_bit-set}
use Rattle.uca_table.proofs.keys.set_bit.Goals as goal

pub returns : goal.returns
returns c = λ other. has_bit-set c.args.bits.now c.args.code other c.requires
