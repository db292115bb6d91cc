use Rattle.std.proofs.Common.{[], ap, subst, ◌∙◌, arith}
use Rattle.uca_values.specs.Content.{HeaderContent, IsHeader}
use Rattle.uca_lines.specs.Lines.{ended}
use Rattle.uca_table.specs.Canonical.{version_line}
use Rattle.uca_table.specs.inside.CanonicalLineTexts.{setting_text, range_lines}
use Rattle.uca_lines.proofs.BufferedLemmas.{part, written_none, part_fits, part_written, returns_fault, returns_last}
use Rattle.uca_table.proofs.CanonicalSizes.{length-header_text, header_fits}
use Rattle.uca_table.proofs.CanonicalTexts.{header_parts, header_text_is}
use Rattle.uca_table.proofs.canonical.header.write_header.Goals as goal

pub write_version-requires : goal.write_version-requires
write_version-requires g c = part_fits part (header_parts c.args.header.now) 0 [] _ _ (header_text_is c.args.header.now)
    (ap (λ name. ended (version_line name)) (c.as_bytes.ensures.value ∙ ap (λ (h : HeaderContent). h.version) c.header.view_is)) (omega arith)
    (written_none c.args.buffer.now c.args.out.now) (header_fits c.args.header.now c.args.buffer.now c.requires
    (subst IsHeader c.header.view_is c.header.invariant))

pub returns-in_err-write_version-clause-text : goal.returns-in_err-write_version-clause-text
returns-in_err-write_version-clause-text g c = returns_fault part (header_parts c.args.header.now) 0 [] _ _ c.from_residual.result
    (header_text_is c.args.header.now) (ap (λ name. ended (version_line name))
    (c.as_bytes.ensures.value ∙ ap (λ (h : HeaderContent). h.version) c.header.view_is)) (omega arith) (written_none c.args.buffer.now c.args.out.now)
    c.in_err-write_version.ensures c.from_residual.ensures.1

pub write_setting-requires : goal.write_setting-requires
write_setting-requires g c = part_fits part (header_parts c.args.header.now) 1 [] _ _ (header_text_is c.args.header.now)
    (ap (λ (h : HeaderContent). setting_text h.setting) c.header.view_is) (omega arith)
    (part_written part (header_parts c.args.header.now) 0 [] (ap (λ name. ended (version_line name))
    (c.as_bytes.ensures.value ∙ ap (λ (h : HeaderContent). h.version) c.header.view_is)) (omega arith) (written_none c.args.buffer.now c.args.out.now)
    c.in_ok-write_version.ensures) (header_fits c.args.header.now c.args.buffer.now c.requires (subst IsHeader c.header.view_is c.header.invariant))

pub returns-in_err-write_setting-clause-text : goal.returns-in_err-write_setting-clause-text
returns-in_err-write_setting-clause-text g c = returns_fault part (header_parts c.args.header.now) 1 [] _ _ c.from_residual-in_err-write_setting.result
    (header_text_is c.args.header.now) (ap (λ (h : HeaderContent). setting_text h.setting) c.header.view_is) (omega arith)
    (part_written part (header_parts c.args.header.now) 0 [] (ap (λ name. ended (version_line name))
    (c.as_bytes.ensures.value ∙ ap (λ (h : HeaderContent). h.version) c.header.view_is)) (omega arith) (written_none c.args.buffer.now c.args.out.now)
    c.in_ok-write_version.ensures) c.in_err-write_setting.ensures c.from_residual-in_err-write_setting.ensures.1

pub write_ranges-requires : goal.write_ranges-requires
write_ranges-requires g c = part_fits part (header_parts c.args.header.now) 2 [] _ _ (header_text_is c.args.header.now)
    (ap range_lines (c.deref.ensures.value ∙ ap (λ (h : HeaderContent). h.ranges) c.header.view_is)) (omega arith)
    (part_written part (header_parts c.args.header.now) 1 [] (ap (λ (h : HeaderContent). setting_text h.setting) c.header.view_is) (omega arith)
    (part_written part (header_parts c.args.header.now) 0 [] (ap (λ name. ended (version_line name))
    (c.as_bytes.ensures.value ∙ ap (λ (h : HeaderContent). h.version) c.header.view_is)) (omega arith) (written_none c.args.buffer.now c.args.out.now)
    c.in_ok-write_version.ensures) c.in_ok-write_setting.ensures) (header_fits c.args.header.now c.args.buffer.now c.requires
    (subst IsHeader c.header.view_is c.header.invariant))

pub returns-clause-text : goal.returns-clause-text
returns-clause-text g c = returns_last part (header_parts c.args.header.now) 2 [] _ _ _ _ c.write_ranges.result (header_text_is c.args.header.now)
    (ap range_lines (c.deref.ensures.value ∙ ap (λ (h : HeaderContent). h.ranges) c.header.view_is)) (omega arith)
    (part_written part (header_parts c.args.header.now) 1 [] (ap (λ (h : HeaderContent). setting_text h.setting) c.header.view_is) (omega arith)
    (part_written part (header_parts c.args.header.now) 0 [] (ap (λ name. ended (version_line name))
    (c.as_bytes.ensures.value ∙ ap (λ (h : HeaderContent). h.version) c.header.view_is)) (omega arith) (written_none c.args.buffer.now c.args.out.now)
    c.in_ok-write_version.ensures) c.in_ok-write_setting.ensures) c.write_ranges.ensures

pub returns-in_err-write_version-clause-short : goal.returns-in_err-write_version-clause-short
returns-in_err-write_version-clause-short g c = length-header_text c.args.header.now (subst IsHeader c.header.view_is c.header.invariant)

pub returns-in_err-write_setting-clause-short : goal.returns-in_err-write_setting-clause-short
returns-in_err-write_setting-clause-short g c = length-header_text c.args.header.now (subst IsHeader c.header.view_is c.header.invariant)

pub returns-clause-short : goal.returns-clause-short
returns-clause-short g c = length-header_text c.args.header.now (subst IsHeader c.header.view_is c.header.invariant)
