use Rattle.std.proofs.Common.{refl, ap}
use Rattle.histories.specs.Calls.{State, Enrol, next}
use Rattle.querybox.specs.Enrolling.{prior_text}
use Rattle.querybox.specs.States.{state_of, house_of}
use Rattle.desks.proofs.Kept.{same_out, all_stay}
use Rattle.desks.proofs.Staying.{enrol-stays}
use Rattle.desks.proofs.Desk.enrol.Goals as goal

pub invariant_of-self : goal.invariant_of-self
invariant_of-self g c =
    let d = c.args.self.now in
    let b = d.query_box in
    let st = state_of b in
    let h = house_of g.C.Censor.good g.C.Censor.decided g.C.Censor.after b in
    let prior = prior_text c.args.prior in
    let list = c.args.secrets.now in
    let does = c.enrol.ensures in
    record {
      eight = d.eight;
      out = same_out does.number (ap (λ (x : State). x.parties) does.leaves) refl (all_stay b.number st (next h st (Enrol prior list)) d.slips d.out (enrol-stays h st prior list));
    }
