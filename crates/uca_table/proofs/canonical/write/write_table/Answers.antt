use Rattle.std.proofs.Common.{[], ap, sym, subst, ◌∙◌, arith}
use Rattle.uca_values.specs.Content.{TableContent, AreRows}
use Rattle.uca_table.specs.Canonical.{canonical}
use Rattle.uca_table.specs.inside.CanonicalLineTexts.{header_text, row_lines}
use Rattle.uca_lines.proofs.BufferedLemmas.{part, written_none, part_written, part_fails, all_parts_written, none_buffered, nothing_counted, fault_writes, fault_leaves_some, flush_leaves_some}
use Rattle.uca_table.proofs.CanonicalTexts.{table_parts, canonical_is}
use Rattle.uca_table.proofs.CanonicalSizes.{rows_fit}
use Rattle.uca_table.proofs.canonical.write.write_table.Goals as goal

pub write_header-requires : goal.write_header-requires
write_header-requires g c = nothing_counted c.new-buffer.result c.new-buffer.ensures.held c.new-buffer.ensures.written

pub returns-in_err-write_header-clause-text : goal.returns-in_err-write_header-clause-text
returns-in_err-write_header-clause-text g c = fault_writes c.from_residual.result c.new-buffer.ensures.held c.new-buffer.ensures.written
    (part_fails part (table_parts c.args.table.now) 0 [] _ (canonical_is c.args.table.now)
    (ap (λ (t : TableContent). header_text t.header) c.table.view_is) (omega arith) (written_none c.new-buffer.result c.args.out.now)
    c.in_err-write_header.ensures.text) c.from_residual.ensures.1

pub returns-in_err-write_header-clause-not_all : goal.returns-in_err-write_header-clause-not_all
returns-in_err-write_header-clause-not_all g c =
    fault_leaves_some c.from_residual.result c.new-buffer.ensures.held c.new-buffer.ensures.written
    (part_fails part (table_parts c.args.table.now) 0 [] _ (canonical_is c.args.table.now)
    (ap (λ (t : TableContent). header_text t.header) c.table.view_is) (omega arith) (written_none c.new-buffer.result c.args.out.now)
    c.in_err-write_header.ensures.text) c.from_residual.ensures.1

pub write_rows-requires : goal.write_rows-requires
write_rows-requires g c =
    rows_fit c.table.inside.header c.deref.result.now c.new-buffer.result _ _ _
    (nothing_counted c.new-buffer.result c.new-buffer.ensures.held c.new-buffer.ensures.written)
    c.in_ok-write_header.ensures.text c.in_ok-write_header.ensures.short (subst AreRows (sym c.deref.ensures.value) c.table.invariant)

pub returns-in_err-write_rows-clause-text : goal.returns-in_err-write_rows-clause-text
returns-in_err-write_rows-clause-text g c = fault_writes c.from_residual-in_err-write_rows.result c.new-buffer.ensures.held c.new-buffer.ensures.written
    (part_fails part (table_parts c.args.table.now) 1 [] _ (canonical_is c.args.table.now)
    (ap row_lines (c.deref.ensures.value ∙ ap (λ (t : TableContent). t.rows) c.table.view_is)) (omega arith)
    (part_written part (table_parts c.args.table.now) 0 [] (ap (λ (t : TableContent). header_text t.header) c.table.view_is) (omega arith)
    (written_none c.new-buffer.result c.args.out.now) c.in_ok-write_header.ensures.text) c.in_err-write_rows.ensures) c.from_residual-in_err-write_rows.ensures.1

pub returns-in_err-write_rows-clause-not_all : goal.returns-in_err-write_rows-clause-not_all
returns-in_err-write_rows-clause-not_all g c = fault_leaves_some c.from_residual-in_err-write_rows.result c.new-buffer.ensures.held
    c.new-buffer.ensures.written (part_fails part (table_parts c.args.table.now) 1 [] _ (canonical_is c.args.table.now)
    (ap row_lines (c.deref.ensures.value ∙ ap (λ (t : TableContent). t.rows) c.table.view_is)) (omega arith)
    (part_written part (table_parts c.args.table.now) 0 [] (ap (λ (t : TableContent). header_text t.header) c.table.view_is) (omega arith)
    (written_none c.new-buffer.result c.args.out.now) c.in_ok-write_header.ensures.text) c.in_err-write_rows.ensures) c.from_residual-in_err-write_rows.ensures.1

pub returns-clause-text : goal.returns-clause-text
returns-clause-text g c =
    c.flush.ensures.text c.args.out.now.contents (canonical c.args.table.now)
    ((all_parts_written part (table_parts c.args.table.now) 2 _ (canonical_is c.args.table.now) (omega arith)
    (part_written part (table_parts c.args.table.now) 1 [] (ap row_lines
    (c.deref.ensures.value ∙ ap (λ (t : TableContent). t.rows) c.table.view_is)) (omega arith)
    (part_written part (table_parts c.args.table.now) 0 [] (ap (λ (t : TableContent). header_text t.header) c.table.view_is) (omega arith)
    (written_none c.new-buffer.result c.args.out.now) c.in_ok-write_header.ensures.text) c.in_ok-write_rows.ensures)).writes c.args.out.now.contents
    [] (none_buffered c.args.out.now.contents c.new-buffer.result c.new-buffer.ensures.held c.new-buffer.ensures.written))

pub returns-clause-not_all : goal.returns-clause-not_all
returns-clause-not_all g c = flush_leaves_some c.flush.result c.new-buffer.ensures.held c.new-buffer.ensures.written
    (all_parts_written part (table_parts c.args.table.now) 2 _ (canonical_is c.args.table.now) (omega arith)
    (part_written part (table_parts c.args.table.now) 1 [] (ap row_lines (c.deref.ensures.value ∙ ap (λ (t : TableContent). t.rows) c.table.view_is))
    (omega arith) (part_written part (table_parts c.args.table.now) 0 [] (ap (λ (t : TableContent). header_text t.header) c.table.view_is)
    (omega arith) (written_none c.new-buffer.result c.args.out.now) c.in_ok-write_header.ensures.text) c.in_ok-write_rows.ensures)) c.flush.ensures.not_all
