-- Slips, and what reading one gives.
use Rattle.histories.specs.Calls as calls
use Rattle.querybox.specs.declared.slip.ReadSlip.{ReadSlip}
use Rattle.querybox.specs.declared.slip.Slip.{Slip}

abbrev pub slip_of : Slip → calls.Slip
slip_of s = record { number = s.number; party = s.counterparty; place = s.place }

-- the slip itself, with its counterparty and its place
abbrev pub read_of : Slip → ReadSlip
read_of s = record { slip = s; counterparty = s.counterparty; place = s.place }

abbrev pub read_as : ReadSlip → calls.Outcome
read_as r = calls.Shown (slip_of r.slip)
