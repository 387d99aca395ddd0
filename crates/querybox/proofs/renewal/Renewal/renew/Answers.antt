use Rattle.std.proofs.Common.{arith}
use Rattle.querybox.proofs.Renewing.{midway-more}
use Rattle.querybox.proofs.renewal.Renewal.renew.Goals as goal

pub loop-place-preserved : goal.loop-place-preserved
loop-place-preserved g c = midway-more _ _ c.loop-place.invariant (omega (arith, c.len-place-end.ensures.count)) c.rejudge.ensures
