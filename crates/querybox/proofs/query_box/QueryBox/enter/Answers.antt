use Rattle.std.proofs.Common.{◌≡◌, length, Some, refl, ap, ◌∙◌}
use Rattle.tables.specs.Entries.{entries}
use Rattle.sentences.specs.Lists.{sets_of}
use Rattle.histories.specs.Calls.{House, change, entered, with_parties}
use Rattle.querybox.specs.declared.party.Party.{Party}
use Rattle.querybox.specs.Entries.{entry_at, parties_of}
use Rattle.querybox.specs.Parties.{blank}
use Rattle.querybox.specs.declared.query_box.QueryBox.{QueryBox}
use Rattle.querybox.specs.Slips.{slip_of}
use Rattle.querybox.specs.States.{state_of, house_of}
use Rattle.querybox.proofs.Entering.{enter_done}
use Rattle.querybox.proofs.Views.{found_at}
use Rattle.querybox.proofs.Moves.{moved-parties}
use Rattle.querybox.proofs.query_box.QueryBox.enter.Given as given
use Rattle.querybox.proofs.query_box.QueryBox.enter.Goals as goal

abbrev house : (g : given.Over) → QueryBox g.row.C.Denot → House
house g b = house_of g.C.Censor.good g.C.Censor.decided g.C.Censor.after b

pub returns : goal.returns
returns g c =
    let b = c.args.self.now in
    let e = c.in-Some.pending in
    let here = c.in-Ok.ensures.entry in
    let x : Party = entry_at b.inner c.spend.result blank in
    let out : x.pending ≡ Some e = cc in
    let left : c.record_after-known.result ≡ (house g b).after x.known (sets_of x.secrets) e.question e.decision.reply = cc in
    let last : c.args.slip.place ≡ length (entries c.in-Ok.party.log) = cc in
    let parties = moved-parties (c.append.ensures (house g b) e out left) ∙ ap (change (entered (house g b) e) (parties_of b.inner)) c.spend.ensures in
    let does = enter_done (house g b) (state_of b) (slip_of c.args.slip) c.in-Ok.party (found_at (state_of b) c.args.slip.counterparty c.in-Ok.ensures.is) c.if-slip-self.false last e c.in-Some.is in
    record {
      answers = does.answers;
      leaves = ap (with_parties (house g b) (state_of b)) parties ∙ does.leaves;
      censor = refl;
      number = refl;
      names = refl;
      rules = refl;
      unmoved = tt;
    }
