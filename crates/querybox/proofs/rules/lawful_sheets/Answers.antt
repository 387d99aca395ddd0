use Rattle.std.proofs.Common.{◌∙◌}
use Rattle.querybox.proofs.Keeping.{keeping_met}
use Rattle.querybox.proofs.rules.lawful_sheets.Goals as goal

pub returns : goal.returns
returns c = c.keeping.ensures ∙ keeping_met _ _
