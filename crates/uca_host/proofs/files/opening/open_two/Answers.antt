-- The first file opens, and the second does not.
use Rattle.std.proofs.Common.{inl, inr, refl}
use Rattle.uca_host.proofs.files.opening.open_two.Goals as goal

pub returns-in_default-open : goal.returns-in_default-open
returns-in_default-open g c = inr (c.open.new.self, _, (c.in-Ok.one, c.in-Ok.ensures, refl), inl (refl, c.in_default-open.field-0, c.in_default-open.ensures))
