use Rattle.std.proofs.Common.{◌≡◌, take, string_bytes}
use lib.Utf8.{encodes}
use Rattle.uca_rules.specs.Pieces.{points_of}
use Rattle.uca_rules.proofs.texts.rule_text.Given as goal

abbrev pub invariant-loop-symbol : goal.invariant-loop-symbol
invariant-loop-symbol g l = string_bytes l.letters ≡ encodes (points_of (take l.symbol-index l.symbols))
