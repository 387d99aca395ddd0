use Rattle.std.proofs.Common.{arith}
use Rattle.querybox.proofs.Lending.{some_entry}
use Rattle.querybox.proofs.inner.Inner.entry.Goals as goal

pub unwrap-requires : goal.unwrap-requires
unwrap-requires g c =
    let x = c.args.self.now in
    some_entry x.parties.items c.args.p c.get.result x.eight (omega (arith, x.few)) c.get.ensures
