use Rattle.std.proofs.Common.{rules}
use Rattle.censors.specs.Tables.{entry}
use Rattle.refuser.proofs.refuse_any.Goals as goal
use Rattle.refuser.proofs.refuse_any.Goals.{then-harm, else-harm}

pub returns-then-harm-2 : goal.returns-then-harm-2
unfolding entry
returns-then-harm-2 c = elim c.if-harm.branch [ then-harm w ↦ search rules | else-harm w ↦ search rules ]

pub returns-else-harm-2 : goal.returns-else-harm-2
unfolding entry
returns-else-harm-2 c = elim c.if-harm.branch [ then-harm w ↦ search rules | else-harm w ↦ search rules ]
