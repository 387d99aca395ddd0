use Rattle.desks.proofs.Moving.{amended_out}
use Rattle.desks.proofs.Desk.amend.Goals as goal

pub invariant_of-self : goal.invariant_of-self
invariant_of-self g c = record { eight = c.args.self.now.eight; out = amended_out c.args.self.now.slips c.amend.ensures.step c.args.self.now.out }
