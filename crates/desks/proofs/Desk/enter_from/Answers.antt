use Rattle.std.proofs.Common.{List, set, Option, None, sym, ap, ◌∙◌}
use Rattle.std.proofs.lemmas.List.{set-set}
use Rattle.querybox.specs.declared.slip.Slip.{Slip}
use Rattle.querybox.specs.States.{state_of}
use Rattle.desks.specs.Slots.{slip_at}
use Rattle.desks.proofs.Moving.{own_out, same_back, back_below, back_there}
use Rattle.desks.proofs.Places.{still_eight}
use Rattle.desks.proofs.Desk.enter_from.Goals as goal

-- ---- this box takes the slip

pub invariant_of-self : goal.invariant_of-self
invariant_of-self g c =
    let d = c.args.self.now in
    let e = c.args.other.now in
    let took = c.take.ensures in
    let own = c.exchange.ensures.own in
    record {
      eight = still_eight d.slips _ _ own d.eight;
      out = own_out d.slips d.out e.query_box e.slips e.out c.args.counterparty (sym took.value ∙ c.in_ok-slip.was) c.in-Ok.ensures took.left own;
    }

pub returns-in-Ok-clause-others : goal.returns-in-Ok-clause-others
returns-in-Ok-clause-others g c =
    let p = c.args.counterparty in
    let v = slip_at c.args.self.now.slips p in
    c.exchange.ensures.others ∙ ap (λ (xs : List (Option Slip)). set xs p v) c.take.ensures.left ∙ set-set c.args.other.now.slips p None v

-- ---- it comes back

pub keep-requires-clause-within : goal.keep-requires-clause-within
keep-requires-clause-within g c =
    let d = c.args.self.now in
    let e = c.args.other.now in
    back_below d.slips d.out e.query_box e.slips e.out c.args.counterparty (sym c.take.ensures.value ∙ c.in_ok-slip.was) c.in-Err.ensures

pub returns-in-Err-clause-others : goal.returns-in-Err-clause-others
returns-in-Err-clause-others g c =
    let d = c.args.self.now in
    let e = c.args.other.now in
    let p = c.args.counterparty in
    let kept = sym c.take.ensures.value ∙ c.in_ok-slip.was in
    let same = same_back d.slips d.out e.query_box e.slips e.out p kept c.in-Err.ensures in
    back_there e.query_box.number (state_of e.query_box).parties e.slips e.out p kept c.take.ensures.left same c.keep.ensures.kept
