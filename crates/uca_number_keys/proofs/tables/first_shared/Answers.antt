use Rattle.std.proofs.Common.{◌<◌, length, arith}
use Rattle.std.proofs.lemmas.Bool.{false≢true}
use Rattle.uca_number_keys.proofs.TableChecks.{alone_more}
use Rattle.uca_number_keys.proofs.tables.first_shared.Goals as goal

pub loop-at-preserved : goal.loop-at-preserved
loop-at-preserved g c =
    let within : c.loop-at.at < length c.args.rows.now = omega (arith, c.loop-at-test.true, c.len-at-end.ensures) in
    alone_more c.args.rows.now c.loop-at.at c.key.result.now within c.key.ensures (λ shares. false≢true (c.if-shares_digit.ensures.1 shares)) c.loop-at.invariant
