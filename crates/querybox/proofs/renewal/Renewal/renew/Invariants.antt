use Rattle.std.proofs.Common.{length}
use Rattle.tables.specs.Entries.{entries}
use Rattle.querybox.specs.Parties.{party_of}
use Rattle.querybox.specs.Renewals.{house}
use Rattle.querybox.proofs.Renewing.{Midway}
use Rattle.querybox.proofs.renewal.Renewal.renew.Given as goal

abbrev pub invariant-loop-place : goal.invariant-loop-place
invariant-loop-place g l =
    Midway (house g.C.Censor.good g.C.Censor.decided g.C.Censor.after l.self) l.self.sheet l.place (length (entries l.initial.party.log)) (party_of l.initial.party) l.party
