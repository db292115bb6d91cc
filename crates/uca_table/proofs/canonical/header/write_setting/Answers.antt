use Rattle.std.proofs.Common.{ℕ, List, sym, subst, length}
use Rattle.uca_lines.specs.Buffered.{HasRoom, HasWrittenThrough, WritesThrough}
use Rattle.uca_lines.proofs.BufferedLemmas.{written_none}
use Rattle.uca_table.proofs.CanonicalTexts.{setting_text_some, setting_text_none}
use Rattle.uca_table.proofs.canonical.header.write_setting.Goals as goal

pub write-requires : goal.write-requires
write-requires g c = subst (λ (l : List ℕ). HasRoom c.args.buffer.now (length l))
    (setting_text_some c.args.setting _ _ c.in-Some.is c.setting_line.ensures) c.requires

pub returns-in-Some : goal.returns-in-Some
returns-in-Some g c = subst (λ (l : List ℕ). WritesThrough l c.args.buffer.now c.write.new.self c.args.out.now c.write.new.out c.write.result)
    (sym (setting_text_some c.args.setting _ _ c.in-Some.is c.setting_line.ensures)) c.write.ensures.writes

pub returns-in-None : goal.returns-in-None
returns-in-None g c = subst (λ (l : List ℕ). HasWrittenThrough l c.args.buffer.now c.args.buffer.now c.args.out.now c.args.out.now)
    (sym (setting_text_none c.args.setting c.in-None.is)) (written_none c.args.buffer.now c.args.out.now)
