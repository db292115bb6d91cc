-- What went out of the text went out after what was written before.
use Rattle.std.proofs.Common.{ℕ, ◌+◌, ◌^◌, ◌<◌, Fits, w64, arith}
use Rattle.std.proofs.KnownBytes.{Appends-trans}
use Rattle.uca_lines.proofs.OutputLemmas.{sent_part}
use Rattle.uca_lines.proofs.output.send.Goals as goal

-- a part of the count is a number of 64 bits
fits_64 : (w n len : ℕ) → w + len < 2 ^ 64 → n < len → Fits w64 (w + n)
fits_64 w n len all few = omega arith

pub overflow_add-result-in-Err : goal.overflow_add-result-in-Err
overflow_add-result-in-Err g c = fits_64 _ _ _ c.requires c.in-Err.ensures.not_all

pub returns-in-Ok-clause-text : goal.returns-in-Ok-clause-text
returns-in-Ok-clause-text g c start before h is =
    Appends-trans start c.args.out.now.contents c.write_all.new.self.contents before c.args.text.now h c.in-Ok.ensures.bytes

pub returns-in-Err-clause-text : goal.returns-in-Err-clause-text
returns-in-Err-clause-text g c start before h is =
    sent_part start c.args.out.now.contents c.write_all.new.self.contents before c.args.text.now c.args.written c.in-Err.fault.written h is
    c.in-Err.ensures.bytes
