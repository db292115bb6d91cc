use Rattle.std.proofs.Common.{[], refl, arith}
use Rattle.uca_lines.proofs.BufferedLemmas.{part, written_none, part_fits, part_written, returns_fault, returns_last}
use Rattle.uca_table.proofs.CanonicalTexts.{version_parts, version_text_is}
use Rattle.uca_table.proofs.canonical.header.write_version.Goals as goal

pub write-requires : goal.write-requires
write-requires g c = part_fits part (version_parts c.args.name.now) 0 [] _ _ (version_text_is c.args.name.now) refl (omega arith)
    (written_none c.args.buffer.now c.args.out.now) c.requires

pub returns-in_err-write : goal.returns-in_err-write
returns-in_err-write g c = returns_fault part (version_parts c.args.name.now) 0 [] _ _ c.from_residual.result (version_text_is c.args.name.now) refl
    (omega arith) (written_none c.args.buffer.now c.args.out.now) c.in_err-write.ensures.writes c.from_residual.ensures.1

pub write-requires-2 : goal.write-requires-2
write-requires-2 g c = part_fits part (version_parts c.args.name.now) 1 [] _ _ (version_text_is c.args.name.now) refl (omega arith)
    (part_written part (version_parts c.args.name.now) 0 [] refl (omega arith) (written_none c.args.buffer.now c.args.out.now) c.in_ok-write.ensures.writes) c.requires

pub returns-in_err-write-2 : goal.returns-in_err-write-2
returns-in_err-write-2 g c = returns_fault part (version_parts c.args.name.now) 1 [] _ _ c.from_residual-in_err-write-2.result
    (version_text_is c.args.name.now) refl (omega arith) (part_written part (version_parts c.args.name.now) 0 [] refl (omega arith)
    (written_none c.args.buffer.now c.args.out.now) c.in_ok-write.ensures.writes) c.in_err-write-2.ensures.writes c.from_residual-in_err-write-2.ensures.1

pub write-requires-3 : goal.write-requires-3
write-requires-3 g c = part_fits part (version_parts c.args.name.now) 2 [] _ _ (version_text_is c.args.name.now) refl (omega arith)
    (part_written part (version_parts c.args.name.now) 1 [] refl (omega arith)
    (part_written part (version_parts c.args.name.now) 0 [] refl (omega arith) (written_none c.args.buffer.now c.args.out.now) c.in_ok-write.ensures.writes)
    c.in_ok-write-2.ensures.writes) c.requires

pub returns : goal.returns
returns g c = returns_last part (version_parts c.args.name.now) 2 [] _ _ _ _ c.write-3.result (version_text_is c.args.name.now) refl (omega arith)
    (part_written part (version_parts c.args.name.now) 1 [] refl (omega arith)
    (part_written part (version_parts c.args.name.now) 0 [] refl (omega arith) (written_none c.args.buffer.now c.args.out.now) c.in_ok-write.ensures.writes)
    c.in_ok-write-2.ensures.writes) c.write-3.ensures.writes
