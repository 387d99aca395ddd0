use Rattle.std.proofs.Common.{◌≡◌, ◌≤◌, length, sym, ap, ◌∙◌, arith}
use Rattle.histories.specs.Calls.{House, renewed}
use Rattle.querybox.specs.declared.party.Party.{Party}
use Rattle.querybox.specs.Parties.{blank, party_of}
use Rattle.querybox.specs.Renewals.{house}
use Rattle.querybox.proofs.Renewing.{renewed-long}
use Rattle.querybox.proofs.renewal.Renewal.renew_one.Goals as goal

pub write_notes-requires : goal.write_notes-requires
write_notes-requires g c =
    let h : House = house g.C.Censor.good g.C.Censor.decided g.C.Censor.after c.args.self.now in
    let again : party_of c.entry-new.result ≡ renewed h c.args.self.now.sheet (party_of c.entry-old.result) =
    ap party_of (c.entry-new.ensures blank) ∙ c.renew_entry.ensures.by ∙ ap (λ (x : Party). renewed h c.args.self.now.sheet (party_of x)) (sym (c.entry-old.ensures blank)) in
    let many = renewed-long h c.args.self.now.sheet c.entry-old.result c.entry-new.result again in
    let few : length c.as_slice.result.now ≤ 64 = omega (arith, ap length c.as_slice.ensures, c.entry-old.result.room) in
    record { few = few; same = ap length c.as_slice-2.ensures ∙ many ∙ sym (ap length c.as_slice.ensures); room = c.requires.room }
