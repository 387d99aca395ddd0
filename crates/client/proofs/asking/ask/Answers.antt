use Rattle.std.proofs.Common.{◌≡◌, Err, refl, sym, ap, rules}
use Rattle.querybox.specs.declared.slip.ReadSlip.{ReadSlip}
use Rattle.querybox.specs.Slips.{slip_of}
use Rattle.querybox.proofs.Happening.{asked-happened}
use Rattle.querybox.proofs.Taken.{entered-at-once}
use Rattle.client.proofs.asking.ask.Goals as goal

pub unreachable-requires : goal.unreachable-requires
unreachable-requires g c =
    entered-at-once g.C.Censor.good g.C.Censor.decided g.C.Censor.after c.in_ok-slip.ensures
    (ap (λ (r : ReadSlip). slip_of r.slip) c.read-place.ensures.is) c.in-Err.ensures

pub returns : goal.returns
returns g c = (
  slip_of c.in_ok-slip.slip,
  sym (ap (λ (r : ReadSlip). r.place) c.read-place.ensures.is),
  asked-happened g.C.Censor.good g.C.Censor.decided g.C.Censor.after c.in_ok-slip.ensures
      (ap (λ (r : ReadSlip). slip_of r.slip) c.read-place.ensures.is) c.in-Ok.ensures,
)

pub returns-in_err-slip : goal.returns-in_err-slip
returns-in_err-slip g c =
    let e : c.from_residual.result ≡ Err c.in_err-slip.field-0.0 = search rules in
    rw e (c.judge.new.self, c.in_err-slip.ensures, refl)
