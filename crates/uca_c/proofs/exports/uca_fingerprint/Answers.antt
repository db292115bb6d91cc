-- What is written is the fingerprint that was made.
use Rattle.std.proofs.Common.{inl, inr, refl}
use Rattle.uca_c.proofs.exports.uca_fingerprint.Goals as goal

pub returns-in-Ok-clause-only : goal.returns-in-Ok-clause-only
returns-in-Ok-clause-only c asked meant properties asks = inl (refl, c.in-Ok.ensures.only asked meant properties asks)

pub returns-in-Err-clause-only : goal.returns-in-Err-clause-only
returns-in-Err-clause-only c asked meant properties asks = inr (c.in-Err.ensures.only asked meant properties asks)
