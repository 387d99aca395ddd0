use Rattle.querybox.proofs.Rounds.{done_more}
use Rattle.querybox.proofs.renewal.Renewal.renew_all.Goals as goal

pub loop-p-preserved : goal.loop-p-preserved
loop-p-preserved g c =
    done_more _ c.loop-p.invariant c.loop-p-test.true c.renew_one-end.ensures.moves c.renew_one-end.ensures.writes c.renew_one-end.ensures.most
