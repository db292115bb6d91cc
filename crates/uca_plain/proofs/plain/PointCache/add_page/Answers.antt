use Rattle.std.proofs.Common.{refl, arith}
use Rattle.uca_plain.proofs.PlainEntries.{more_entries}
use Rattle.uca_plain.proofs.plain.PointCache.add_page.Goals as goal

-- the entries of the new page have nothing to give
pub returns-in_ok-resize : goal.returns-in_ok-resize
returns-in_ok-resize g c = λ collation true.
    more_entries collation c.args.self.now.entries.items _ _ _ _ (omega arith) (omega arith) (omega arith) refl (omega arith) c.in_ok-resize.ensures.items true
