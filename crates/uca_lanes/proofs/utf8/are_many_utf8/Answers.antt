use Rattle.std.proofs.lemmas.Str.{IsUtf8-from_ascii}
use Rattle.uca_lanes.proofs.utf8.are_many_utf8.Goals as goal

pub returns-then-is_ascii : goal.returns-then-is_ascii
returns-then-is_ascii c = IsUtf8-from_ascii c.args.bytes.now c.if-is_ascii.ensures.cases
