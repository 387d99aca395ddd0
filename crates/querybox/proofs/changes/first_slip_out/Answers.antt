use Rattle.std.proofs.Common.{◌≡◌, true, false, rules, arith}
use borrow.Author.Tests.{tests}
use Rattle.std.proofs.lemmas.Iterator.{first_from_Range}
use Rattle.querybox.proofs.SlipsOut.{out, found_out}
use Rattle.querybox.proofs.changes.first_slip_out.Goals as goal

pub returns : goal.returns
returns c =
    let xs = c.args.inner.now.parties.items in
    found_out c.args.inner.now.count xs c.find.result (omega (arith, c.args.inner.now.few, c.args.inner.now.eight))
    (first_from_Range (record { start = 0; end = c.args.inner.now.count }) _ _ c.find.result (λ k. out xs k ≡ true) (λ k. out xs k ≡ false) c.find.ensures.ran
    (λ x q k. search (rules, tests)) (λ x q k. search (rules, tests)))
