use Rattle.std.proofs.Common.{rules}
use Rattle.std.proofs.Math.Seq.{take-set-lt}
use Rattle.tables.proofs.filled.Filled.replace.Goals as goal

pub returns-then-place-self : goal.returns-then-place-self
returns-then-place-self g c = search (rules, take-set-lt)
