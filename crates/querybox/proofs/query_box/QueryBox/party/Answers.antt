use Rattle.std.proofs.Common.{ap, ◌∙◌}
use Rattle.querybox.specs.Looking.{found_as}
use Rattle.querybox.specs.Parties.{blank}
use Rattle.querybox.proofs.Views.{found_here}
use Rattle.querybox.proofs.query_box.QueryBox.party.Goals as goal

pub returns-clause-is : goal.returns-clause-is
returns-clause-is g c = ap found_as c.ok_or.ensures.value ∙ found_here c.args.self.now.inner c.args.counterparty c.get.result (c.get.ensures blank)
