use Rattle.std.proofs.Common.{length}
use Rattle.console.proofs.fields.Fields.numbered.Given as goal

abbrev pub decreases-loop-values : goal.decreases-loop-values
decreases-loop-values g l = length l.self.rest.now
