use Rattle.std.proofs.Common.{length}
use Rattle.console.proofs.lists.read_texts.Given as goal

abbrev pub decreases-loop-pieces : goal.decreases-loop-pieces
decreases-loop-pieces l = length l.fields.rest.now
