use Rattle.querybox.specs.Renewals.{renewed_by}
use Rattle.querybox.proofs.Rounds.{Done}
use Rattle.querybox.proofs.renewal.Renewal.renew_all.Given as goal

abbrev pub invariant-loop-p : goal.invariant-loop-p
invariant-loop-p g l = Done (renewed_by g.C.Censor.good g.C.Censor.decided g.C.Censor.after l.self) l.p l.initial.inner l.inner l.initial.out l.end l.out
