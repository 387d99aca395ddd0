use Rattle.desks.proofs.Moving.{entered_out}
use Rattle.desks.proofs.Places.{still_eight}
use Rattle.desks.proofs.Desk.enter.Goals as goal

pub invariant_of-self : goal.invariant_of-self
invariant_of-self g c =
    let d = c.args.self.now in
    let took = c.take-kept.ensures in
    record {
      eight = still_eight d.slips _ _ took.left d.eight;
      out = entered_out g.C.Censor.good g.C.Censor.decided g.C.Censor.after c.take-kept.result d.query_box _ c.enter_kept.ensures.enters d.slips _ d.out c.args.counterparty took.value took.left;
    }
