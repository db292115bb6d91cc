-- One more byte of the key, its end, and why there is none.
use Rattle.std.proofs.Common.{◌≡◌, ◌++◌, ◌∷◌, [], rules}
use Rattle.uca_rekey.specs.ChangedLines.{key_in}
use Rattle.uca_rekey.proofs.LineKeys.{key_read, more_read, no_key_read}
use Rattle.uca_rekey.proofs.line.read_key.Goals as goal

pub loop-byte-preserved : goal.loop-byte-preserved
loop-byte-preserved g c =
    let pushed : c.push.new.self.items ≡ c.loop-byte.key.items ++ c.in-Byte.byte ∷ [] = search rules in
    more_read c.args.line.now c.loop-byte.key.items c.loop-byte.text.now (c.in-Byte.byte ∷ []) c.in-Byte.rest.now c.push.new.self.items c.loop-byte.invariant
    (record { key = c.in-Byte.ensures.0; tab = c.in-Byte.ensures.1 }) pushed

pub loop-byte-smaller : goal.loop-byte-smaller
loop-byte-smaller g c = c.in-Byte.ensures.2

pub returns-in-End-clause-key : goal.returns-in-End-clause-key
returns-in-End-clause-key g c = key_read (key_in c.args.line.now) c.loop-byte.key.items c.loop-byte.text.now c.loop-byte.invariant.key c.in-End.ensures

pub returns-in-NoByte-clause-cause : goal.returns-in-NoByte-clause-cause
returns-in-NoByte-clause-cause g c = no_key_read (key_in c.args.line.now) c.loop-byte.key.items c.loop-byte.text.now c.loop-byte.invariant.key c.in-NoByte.ensures
