use Rattle.histories.proofs.Promised.{promised}
use Rattle.histories.proofs.promise.promise_kept.Goals as goal

pub returns : goal.returns
returns g c = promised (g.met.C.Censor.keeps c.args.censor.now)
