use Rattle.desks.proofs.Moving.{judged_out}
use Rattle.desks.proofs.Places.{still_eight}
use Rattle.desks.proofs.Desk.judge.Goals as goal

pub invariant_of-self-2 : goal.invariant_of-self-2
invariant_of-self-2 g c =
    let d = c.args.self.now in
    let kept = c.keep.ensures.kept in
    record { eight = still_eight d.slips _ _ kept d.eight; out = judged_out d.slips c.in_ok-slip.ensures d.out kept }
