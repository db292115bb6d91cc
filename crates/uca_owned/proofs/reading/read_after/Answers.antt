-- The bytes are UTF-8 if and only if those after the cut are.
use Rattle.uca_owned.proofs.SharedBytes.{whole_is, rest_is}
use Rattle.uca_owned.proofs.reading.read_after.Goals as goal

pub from_utf8_unchecked-requires : goal.from_utf8_unchecked-requires
from_utf8_unchecked-requires c =
    let cut = c.floor_char_boundary-cut.ensures in
    whole_is c.args.text.now c.args.bytes.now c.args.shared c.floor_char_boundary-cut.result c.utf8.text c.requires.same cut.bound cut.boundary c.if-is_utf8.ensures

pub returns-else-is_utf8 : goal.returns-else-is_utf8
returns-else-is_utf8 c whole =
    let cut = c.floor_char_boundary-cut.ensures in
    c.if-is_utf8.ensures
    (rest_is c.args.text.now c.args.bytes.now c.args.shared c.floor_char_boundary-cut.result c.utf8.text c.requires.same c.requires.within cut.bound cut.boundary whole)
