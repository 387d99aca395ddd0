use Rattle.desks.proofs.Moving.{last_out}
use Rattle.desks.proofs.Desk.close.Goals as goal

pub loop-kept-preserved : goal.loop-kept-preserved
loop-kept-preserved g c =
    let l = c.loop-kept in
    last_out g.C.Censor.good g.C.Censor.decided g.C.Censor.after c.in-Some.kept l.query_box _ c.enter_kept.ensures.enters l.places.items _ l.invariant c.in-Some.ensures.items
