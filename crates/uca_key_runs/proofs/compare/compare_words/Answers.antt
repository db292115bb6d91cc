-- What is written of two texts, from how they compare and what went out of the line.
use Rattle.std.proofs.Common.{◌≡◌, ap₂, ◌∙◌}
use Rattle.uca_order.proofs.DepthOrder.{five_levels}
use Rattle.uca_order.specs.Keyings.{keying_of, bytes_compared}
use Rattle.uca_key_runs.specs.CompareRun.{comparison_line}
use Rattle.uca_key_runs.proofs.Comparing.{writes_line}
use Rattle.uca_key_runs.proofs.compare.compare_words.Goals as goal

pub compare-found-requires : goal.compare-found-requires
compare-found-requires g c = (c.new-comparison.ensures _).entries

pub line_of-requires : goal.line_of-requires
line_of-requires g c = rw c.in-Ok.ensures.compared.1 (five_levels c.args.settings.depth c.args.settings.weighting _ _)

pub returns-in-Ok-clause-writes : goal.returns-in-Ok-clause-writes
returns-in-Ok-clause-writes g c =
    let keying = keying_of g.L.Lookup.content c.args.collator.now c.args.settings in
    let compared = c.in-Ok.ensures.compared in
    let same : c.line_of.result ≡ comparison_line (bytes_compared keying c.args.left.now c.args.right.now) =
    c.line_of.ensures ∙ ap₂ (λ o n. comparison_line (record { order = o; level = n })) compared.0 compared.1 in
    writes_line keying c.args.left.now c.args.right.now c.args.out.now.contents c.write_text.new.out.contents c.line_of.result c.write_text.result
    c.in-Ok.ensures.accepted same c.write_text.ensures.written c.write_text.ensures.failed_in
