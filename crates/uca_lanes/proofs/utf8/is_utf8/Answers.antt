use Rattle.uca_lanes.proofs.Whole.{of_few, of_more}
use Rattle.uca_lanes.proofs.utf8.is_utf8.Goals as goal

pub returns-then-len-le16 : goal.returns-then-len-le16
returns-then-len-le16 c = of_few c.args.bytes.now c.with_zeros.result c.are_utf8.result c.with_zeros.ensures c.are_utf8.ensures

pub returns : goal.returns
returns c = of_more c.args.bytes.now c.are_utf8-2.result c.if-len-le16.false c.if-len-gt32.false c.are_utf8-2.ensures
