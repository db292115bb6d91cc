-- A handle follows what it holds.
use Rattle.std.specs.Borrow.{Lends, MutBor, Fml}
use Rattle.uca_c.specs.declared.handle.Handle.{Handle}
use Rattle.uca_c.specs.declared.held.Held.{Held}
use Rattle.uca_c.specs.contracts.held.Held as held
use Rattle.uca_c.specs.contracts.handle.Handle.{the_row}

abbrev pub with_held : Handle → Held → Handle
with_held h w = record h { kept = w }

abbrev pub LendsHeld : MutBor Handle → MutBor Held → Fml
LendsHeld s r = Lends the_row held.the_row s r (with_held s.now)
