use Rattle.std.proofs.Common.{sym, refl, ◌∙◌}
use Rattle.querybox.specs.States.{state_of}
use Rattle.desks.proofs.Moving.{back_there}
use Rattle.desks.proofs.Desk.read.Goals as goal

pub returns-clause-slips : goal.returns-clause-slips
returns-clause-slips g c =
    let d = c.args.self.now in
    let b = d.query_box in
    back_there b.number (state_of b).parties d.slips d.out c.args.counterparty (sym c.take.ensures.value ∙ c.in_ok-slip.was) c.take.ensures.left refl c.keep.ensures.kept
